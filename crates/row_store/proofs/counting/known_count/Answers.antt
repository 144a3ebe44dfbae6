use Rattle.std.proofs.Common.{rules, ℕ, Bool, ◌+◌, ◌≤◌, ap, sym, ◌∙◌, arith}
use Rattle.row_store.specs.Store.{is_known_to_any}
use Rattle.row_store.proofs.Counts.{count_few, count_no, count_yes}
use Rattle.row_store.proofs.counting.known_count.Goals.{then-is_known_to_any, else-is_known_to_any}
use Rattle.row_store.proofs.counting.known_count.Goals as goal

pub overflow_add-count : goal.overflow_add-count
overflow_add-count c =
    let few : c.loop-n.count ≤ c.loop-n.n = omega (arith, c.loop-n.invariant, count_few (is_known_to_any c.args.readers.now) c.loop-n.n) in
    search rules

pub loop-n-preserved : goal.loop-n-preserved
loop-n-preserved c =
    let test : ℕ → Bool = is_known_to_any c.args.readers.now in
    elim c.if-is_known_to_any.branch [
      | then-is_known_to_any w ↦ w.count-is ∙ ap (λ (k : ℕ). k + 1) c.loop-n.invariant ∙ sym (count_yes test c.loop-n.n (sym c.is_known_to_any.ensures ∙ w.if-is_known_to_any.true))
      | else-is_known_to_any w ↦ w.count-is ∙ c.loop-n.invariant ∙ sym (count_no test c.loop-n.n (sym c.is_known_to_any.ensures ∙ w.if-is_known_to_any.false))
    ]
