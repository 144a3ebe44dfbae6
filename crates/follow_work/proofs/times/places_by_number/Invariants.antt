use Rattle.follow_work.specs.inside.Times.{HasNoted, places_before}
use Rattle.follow_work.proofs.times.places_by_number.Given as goal

abbrev pub invariant-loop-place : goal.invariant-loop-place
invariant-loop-place l = HasNoted (places_before l.limit l.queue) l.place-iterator l.noted
