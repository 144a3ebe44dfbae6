use Rattle.std.proofs.Common.{arith}
use Rattle.std.proofs.lemmas.Bool.{false≢true}
use Rattle.bounded_table.proofs.row_check.given_at.Goals.{then-x-node_count-via-then-x-node_count, then-x-node_count-via-else-x-node_count+then-x-bound}
use Rattle.bounded_table.proofs.row_check.given_at.Goals as goal

pub returns-then-x-node_count-clause-some : goal.returns-then-x-node_count-clause-some
returns-then-x-node_count-clause-some c = (
  λ is. absurd (false≢true is),
  λ at. elim c.then-x-node_count.branch [
    | then-x-node_count-via-then-x-node_count w ↦ absurd (omega (arith, at.node, w.if-x-node_count.true, c.node_count.ensures))
    | then-x-node_count-via-else-x-node_count+then-x-bound w ↦ absurd (omega (arith, at.within, w.if-x-bound.true))
  ],
)

pub returns-then-x-node_count-clause-count : goal.returns-then-x-node_count-clause-count
returns-then-x-node_count-clause-count c = tt

pub count_given-requires : goal.count_given-requires
count_given-requires c = omega (arith, c.if-x-node_count.false, c.node_count.ensures)

pub returns-clause-some : goal.returns-clause-some
returns-clause-some c =
    let some = c.count_given.ensures.some in (
      λ is. record { node = omega (arith, c.if-x-node_count.false, c.node_count.ensures); within = c.if-x-bound.false; relaxed = some.0 is },
      λ at. some.1 at.relaxed,
    )
