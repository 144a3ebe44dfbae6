-- The route over a list of chosen candidates is that of the piece whose candidates they are.
use Rattle.std.proofs.Common.{◌≡◌, ℕ, zero, suc, ◌+◌, ◌-◌, ◌≤◌, List, [], ◌∷◌, ◌++◌, Option, sym, ap, ◌∙◌, subst, arith, length, get_or, ⊎_elim}
use Rattle.std.proofs.lemmas.Bool.{cases_lt}
use Rattle.std.proofs.lemmas.List.{get_or_append_left, get_or_default, length_push}
use Rattle.std.proofs.Math.Seq.{get_or-append_seam}
use Rattle.cost_model.specs.declared.params.Params.{Params}
use Rattle.matching.specs.declared.parts.Layer.{Layer}
use Rattle.matching.specs.declared.parts.Piece.{Piece}
use Rattle.matching.specs.Layers.{IsCandidate, no_candidate}
use Rattle.matching.specs.Routes.{HasNoRoute, IsTheRoute}
use Rattle.road_network.specs.Net.{Net, target}
use Rattle.road_network.specs.declared.Candidate.{Candidate}
use Rattle.trellis.specs.Links.{IsDirect}
use Rattle.route_rebuild.specs.Chosen.{IsCandidateRun}
use Rattle.route_rebuild.specs.inside.ChosenRuns.{AreChosenFrom, IsChosenRun}
use Rattle.route_rebuild.specs.Routes.{AreLegs, IsRouteOf, IsRouteOver, IsWalkStart, IsWalkStartOver, candidate_in, chosen_at, edges_of}

-- legs depend on the candidates alone
pub legs-same : (n : Net) (bound back : ℕ) (one other : ℕ → Candidate) (i j k : ℕ) (es : List ℕ) → ((m : ℕ) → m ≤ k → one (i + m) ≡ other (j + m))
    → AreLegs n bound back one i k es → AreLegs n bound back other j k es
legs-same n bound back one other i j zero es same h = h
legs-same n bound back one other i j (suc k) es same (r, rest, is, whole, on) =
    let a : i ≡ i + 0 = omega arith in
    let b : j ≡ j + 0 = omega arith in
    let here : one i ≡ other j = ap one a ∙ same 0 (omega arith) ∙ ap other (sym b) in
    let next : one (i + 1) ≡ other (j + 1) = same 1 (omega arith) in (
      r,
      rest,
      subst (λ x. IsTheRoute n bound back (other j) x r) next (subst (λ x. IsTheRoute n bound back x (one (i + 1)) r) here is),
      whole ∙ ap (λ x. edges_of x r ++ rest) next,
      legs-same n bound back one other (i + 1) (j + 1) k rest
          (λ m le. let c : i + 1 + m ≡ i + (m + 1) = omega arith in let d : j + 1 + m ≡ j + (m + 1) = omega arith in
          ap one c ∙ same (m + 1) (omega (arith, le)) ∙ ap other (sym d)) on,
    )

-- the chosen candidates, one by one
pub chosen-none : (layers : List Layer) (ranks : List (Option ℕ)) (first : ℕ) (chosen : List Candidate) → chosen ≡ [] → AreChosenFrom layers ranks first (first - first) chosen
chosen-none layers ranks first chosen e = record { count_is = ap length e ∙ omega arith; each = λ k lt. absurd (omega (arith, lt)) }

pub chosen-more : (layers : List Layer) (ranks : List (Option ℕ)) (first i : ℕ) (chosen : List Candidate) (x : Candidate) → first ≤ i → AreChosenFrom layers ranks first (i - first) chosen
    → x ≡ chosen_at layers ranks i → AreChosenFrom layers ranks first (i + 1 - first) (chosen ++ x ∷ [])
chosen-more layers ranks first i chosen x le h is =
    let count = h.count_is in
    record {
      count_is = omega (arith, length_push chosen x, count, le);
      each = λ k lt. ⊎_elim
          (λ less. get_or_append_left chosen (x ∷ []) no_candidate k (omega (arith, less, count)) ∙ h.each k less)
          (λ ge.
          let end : k ≡ length chosen = omega (arith, lt, ge, count) in
          let place : i ≡ first + k = omega (arith, lt, ge, le) in
          ap (λ j. get_or (chosen ++ x ∷ []) j no_candidate) end ∙ get_or-append_seam chosen x [] no_candidate ∙ is ∙ ap (chosen_at layers ranks) place)
          (cases_lt k (i - first));
    }

module _ (n : Net) (p : Params) (layers : List Layer) (ranks : List (Option ℕ)) (piece : Piece) (chosen : List Candidate) (some : piece.first ≤ piece.last)
    (are : AreChosenFrom layers ranks piece.first (piece.last + 1 - piece.first) chosen) where
  pub over-run : IsChosenRun n p layers ranks piece → IsCandidateRun n p chosen
  over-run run =
      let count = are.count_is in
      record {
        options = run.options;
        some = omega (arith, count, some);
        candidates = λ k d lt.
            subst (IsCandidate n p) (get_or_default chosen k no_candidate d lt)
            (subst (IsCandidate n p) (sym (are.each k (omega (arith, lt, count)))) (run.candidates (piece.first + k) (omega arith) (omega (arith, lt, count, some))));
        routes = λ k lt none.
            let next : piece.first + (k + 1) ≡ piece.first + k + 1 = omega arith in
            run.routes (piece.first + k) (omega arith) (omega (arith, lt, count, some))
            (subst (λ x. HasNoRoute n p.bound p.back (chosen_at layers ranks (piece.first + k)) x) (are.each (k + 1) (omega (arith, lt, count)) ∙ ap (chosen_at layers ranks) next)
            (subst (λ x. HasNoRoute n p.bound p.back x (candidate_in chosen (k + 1))) (are.each k (omega (arith, lt, count))) none));
      }

  pub over-route : (es : List ℕ) → IsRouteOver n p chosen es → IsRouteOf n p layers ranks piece es
  over-route es h =
      let count = are.count_is in
      let z : piece.first + 0 ≡ piece.first = omega arith in
      let k : length chosen - 1 ≡ piece.last - piece.first = omega (arith, count, some) in
      record {
        rest = h.rest;
        begins = h.begins ∙ ap (λ (x : Candidate). x.edge.0 ∷ h.rest) (are.each 0 (omega (arith, some)) ∙ ap (chosen_at layers ranks) z);
        legs_are = legs-same n p.bound p.back (candidate_in chosen) (chosen_at layers ranks) 0 piece.first (piece.last - piece.first) h.rest
            (λ m le. let e : 0 + m ≡ m = omega arith in ap (candidate_in chosen) e ∙ are.each m (omega (arith, le, some))) (subst (λ i. AreLegs n p.bound p.back (candidate_in chosen) 0 i h.rest) k h.legs_are);
      }

  pub over-start : (v : ℕ) → IsWalkStartOver n p chosen v → IsWalkStart n p layers ranks piece v
  over-start v (k, lt, long, end) =
      let count = are.count_is in
      let next : piece.first + (k + 1) ≡ piece.first + k + 1 = omega arith in
      let here = are.each k (omega (arith, lt, count)) in
      let there = are.each (k + 1) (omega (arith, lt, count)) ∙ ap (chosen_at layers ranks) next in (
        piece.first + k,
        omega arith,
        omega (arith, lt, count, some),
        (λ direct. long (subst (λ x. IsDirect p.back (candidate_in chosen k) x) (sym there)
            (subst (λ x. IsDirect p.back x (chosen_at layers ranks (piece.first + k + 1))) (sym here) direct))),
        end ∙ ap (λ (x : Candidate). target n x.edge.0) here,
      )

  pub start-over : (v : ℕ) → IsWalkStart n p layers ranks piece v → IsWalkStartOver n p chosen v
  start-over v (i, ge, lt, long, end) =
      let k = i - piece.first in
      let place : piece.first + k ≡ i = omega (arith, ge) in
      let next : piece.first + (k + 1) ≡ i + 1 = omega (arith, ge) in
      let count = are.count_is in
      let here = are.each k (omega (arith, lt, ge)) ∙ ap (chosen_at layers ranks) place in
      let there = are.each (k + 1) (omega (arith, lt, ge)) ∙ ap (chosen_at layers ranks) next in (
        k,
        omega (arith, lt, ge, count),
        (λ direct. long (subst (λ x. IsDirect p.back (chosen_at layers ranks i) x) there
            (subst (λ x. IsDirect p.back x (candidate_in chosen (k + 1))) here direct))),
        end ∙ ap (λ (x : Candidate). target n x.edge.0) (sym here),
      )
