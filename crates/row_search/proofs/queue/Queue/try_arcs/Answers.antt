use Rattle.std.proofs.Common.{arith}
use Rattle.std.proofs.lemmas.Result.{on_ok_weaker}
use Rattle.row_search.proofs.AfterArcs.{arcs_in_queue}
use Rattle.row_search.proofs.queue.Queue.try_arcs.Goals as goal

pub invariant_of-self : goal.invariant_of-self
invariant_of-self c = omega (arith, c.self.invariant, c.try_arcs.ensures.more)

pub returns-clause-tries : goal.returns-clause-tries
returns-clause-tries c =
    on_ok_weaker c.try_arcs.result (λ is bound. rw (← c.self.view_is)
    (arcs_in_queue bound c.args.distance c.args.arcs.now c.args.words.now c.try_arcs.new.words c.self.inside.far c.self.inside.near c.try_arcs.new.self c.self.inside.head c.self.invariant (is bound)))
    c.try_arcs.ensures.tries
