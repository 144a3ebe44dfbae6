use Rattle.std.proofs.Common.{arith}
use Rattle.std.proofs.lemmas.Result.{on_ok_weaker}
use Rattle.row_search.specs.inside.Fans.{arcs_in}
use Rattle.row_search.proofs.AfterArcs.{arcs_in_queue}
use Rattle.row_search.proofs.queue.Queue.try_fan.Goals as goal

pub invariant_of-self : goal.invariant_of-self
invariant_of-self c = omega (arith, c.self.invariant, c.try_fan.ensures.more)

pub returns-clause-tries : goal.returns-clause-tries
returns-clause-tries c =
    on_ok_weaker c.try_fan.result (λ is bound. rw (← c.self.view_is)
    (arcs_in_queue bound c.args.distance (arcs_in c.args.fan.now) c.args.words.now c.try_fan.new.words c.self.inside.far c.self.inside.near c.try_fan.new.self c.self.inside.head c.self.invariant (is bound)))
    c.try_fan.ensures.tries
