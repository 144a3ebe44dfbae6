use Rattle.std.proofs.Common.{◌≡◌, ℕ, zero, suc, length, replicate, slice_index_or, refl, ap, subst, ◌∙◌, arith, rules}
use Rattle.std.proofs.lemmas.List.{length-replicate}
use Rattle.bounded_table.specs.LabelWords.{no_label}
use Rattle.row_search.specs.inside.Marked.{AreMarksFor}
use Rattle.std.proofs.lemmas.Result.{err_from_is_err_and}
use Rattle.row_search.proofs.dijkstra.Workspace.new.Goals as goal

same_everywhere : (n x v : ℕ) → slice_index_or (replicate n x) v x ≡ x
same_everywhere zero x v = refl
same_everywhere (suc n) x zero = refl
same_everywhere (suc n) x (suc v) = same_everywhere n x v

pub returns-in_err-vec-clause-bound : goal.returns-in_err-vec-clause-bound
returns-in_err-vec-clause-bound c = let p = err_from_is_err_and c.from_residual.result c.from_residual.ensures.1 in rw p.1 tt

pub returns-in_err-vec-clause-clean : goal.returns-in_err-vec-clause-clean
returns-in_err-vec-clause-clean c = let p = err_from_is_err_and c.from_residual.result c.from_residual.ensures.1 in rw p.1 tt

pub returns-in_err-new-clause-bound : goal.returns-in_err-new-clause-bound
returns-in_err-new-clause-bound c = let p = err_from_is_err_and c.from_residual-in_err-new.result c.from_residual-in_err-new.ensures.1 in rw p.1 tt

pub returns-in_err-new-clause-clean : goal.returns-in_err-new-clause-clean
returns-in_err-new-clause-clean c = let p = err_from_is_err_and c.from_residual-in_err-new.result c.from_residual-in_err-new.ensures.1 in rw p.1 tt

pub no_label-requires : goal.no_label-requires
no_label-requires c = omega arith

pub new-requires : goal.new-requires
new-requires c = let few = c.invariants.ensures.few_nodes in omega arith

pub returns-clause-bound : goal.returns-clause-bound
returns-clause-bound c = refl

pub returns-clause-clean : goal.returns-clause-clean
returns-clause-clean c =
    let n : ℕ = c.node_count-nodes.result in
    let few = c.invariants.ensures.few_nodes in
    let items : c.in_ok-vec.field-0.items ≡ replicate n c.no_label.result = c.in_ok-vec.ensures.items_if_clones_equal (λ y k. search rules) in
    let count : length c.in_ok-vec.field-0.items ≡ length c.args.net.now.nodes = ap length items ∙ (length-replicate n c.no_label.result ∙ c.node_count-nodes.ensures) in
    record {
      sized = record { low = c.requires; few = omega (arith, few); words_count = count; marks = subst (λ (k : ℕ). AreMarksFor k c.in_ok-new.field-0) c.node_count-nodes.ensures c.in_ok-new.ensures };
      none_labelled = λ v. rw (items, c.no_label.ensures) (same_everywhere n (no_label c.args.bound) v);
      none_waiting = c.new-2.ensures;
    }
