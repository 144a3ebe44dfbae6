use Rattle.std.proofs.Common.{◌++◌, ◌∷◌, [], ap, ◌∙◌, append_assoc, arith}
use Rattle.viterbi.proofs.trace.append_tables.Goals as goal

pub loop-table-preserved : goal.loop-table-preserved
loop-table-preserved c =
    let at = c.loop-table in
    c.in_ok-push.ensures.ok ∙ ap (λ xs. xs ++ c.in-Some.table ∷ []) at.invariant ∙ append_assoc c.args.tables.now at.yielded (c.in-Some.table ∷ [])

pub loop-table-smaller : goal.loop-table-smaller
loop-table-smaller c = (let gone = c.in-Some.ensures.steps.1 in omega arith)
