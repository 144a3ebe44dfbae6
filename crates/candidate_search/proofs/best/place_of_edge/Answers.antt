use Rattle.std.proofs.Common.{ℕ, ◌≡◌, ap, arith, get_or, subst, ⊎_elim, ◌∙◌, sym}
use Rattle.std.proofs.lemmas.Bool.{cases_lt}
use Rattle.std.proofs.lemmas.List.{get_or_default}
use Rattle.candidate_search.specs.declared.best.NearEdge.{NearEdge}
use Rattle.candidate_search.proofs.LastFound.{no_edge}
use Rattle.candidate_search.proofs.best.place_of_edge.Goals as goal

pub bounds-found-place : goal.bounds-found-place
bounds-found-place c = c.loop-place-test.true

pub loop-place-init : goal.loop-place-init
loop-place-init c = record { within = omega arith; before = λ i d lt. absurd (omega (arith, lt)) }

pub loop-place-preserved : goal.loop-place-preserved
loop-place-preserved c =
    let s = c.loop-place in
    let found = c.args.found.now in
    let e = c.args.edge.0 in
    record {
      within = omega (arith, c.loop-place-test.true);
      before = λ i d lt is.
          ⊎_elim
          (λ below. s.invariant.before i d below is)
          (λ le.
          let here : s.place ≡ i = omega (arith, lt, le) in
          let same = subst (λ (k : ℕ). (get_or found k d).edge.0 ≡ e) (sym here) is in
          c.if-found-place.true (ap (λ (x : NearEdge). x.edge.0) (get_or_default found s.place no_edge d c.loop-place-test.true) ∙ same))
          (cases_lt i s.place);
    }

pub returns-after-loop-place : goal.returns-after-loop-place
returns-after-loop-place c = record {
  within = c.loop-place.invariant.within;
  before = c.loop-place.invariant.before;
  here = λ d lt. absurd (omega (arith, lt, c.loop-place-test.false));
}
