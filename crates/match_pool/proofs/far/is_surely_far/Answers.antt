use Rattle.std.proofs.Common.{◌≡◌, ℕ, List, get_or, length, ap, ◌∙◌, subst, arith, ⊎_elim}
use Rattle.std.proofs.lemmas.Bool.{cases_lt}
use Rattle.std.proofs.lemmas.List.{get_or_default}
use Rattle.trace_reader.specs.declared.trace.Fix.{Fix}
use Rattle.match_pool.specs.inside.Unmatched.{LiesFar}
use Rattle.match_pool.proofs.far.is_surely_far.Goals as goal

pub loop-fix-preserved : goal.loop-fix-preserved
loop-fix-preserved c k d lt =
    let n = c.args.batch.now.net.now in
    let p = c.args.batch.now.params.now in
    let items : List Fix = c.as_slice-fix-items.result.now in
    let i : ℕ = c.loop-fix.fix-index in
    ⊎_elim
    (λ below. c.loop-fix.invariant k d below)
    (λ here.
    let e : i ≡ k = omega (arith, lt, here) in
    subst (LiesFar n p) (get_or_default items i _ d c.loop-fix-test.true ∙ ap (λ v. get_or items v d) e) (c.in_ok-fix_is_surely_far.ensures c.if-not-branch.false))
    (cases_lt k i)

pub returns : goal.returns
returns c far k d lt =
    subst (λ (items : List Fix). LiesFar c.args.batch.now.net.now c.args.batch.now.params.now (get_or items k d)) c.as_slice-fix-items.ensures
    (c.loop-fix.invariant k d (omega (arith, lt, c.loop-fix-test.false, ap length c.as_slice-fix-items.ensures)))
