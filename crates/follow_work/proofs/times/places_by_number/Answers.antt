use Rattle.follow_work.specs.inside.Times.{places_before}
use Rattle.follow_work.proofs.IdlePlaces.{one-noted}
use Rattle.follow_work.proofs.times.places_by_number.Goals as goal

pub loop-place-preserved : goal.loop-place-preserved
loop-place-preserved c =
    one-noted (places_before c.args.limit c.args.queue.now) c.loop-place.place-iterator c.next.new.self c.in-Some.place.now c.loop-place.noted c.insert.new.self
    c.in-Some.ensures.steps c.loop-place.invariant c.in_ok-insert.ensures.updates.0 c.in_ok-insert.ensures.ordered
