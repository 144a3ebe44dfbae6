-- The route of a piece depends on its chosen candidates alone.
use Rattle.std.proofs.Common.{◌≡◌, ℕ, zero, suc, ◌+◌, ◌-◌, ◌≤◌, List, ◌∷◌, ◌++◌, Option, refl, sym, ap, ◌∙◌, arith}
use Rattle.matching.specs.RouteBetween.{route_between}
use Rattle.cost_model.specs.declared.params.Params.{Params}
use Rattle.matching.specs.declared.parts.Layer.{Layer}
use Rattle.matching.specs.declared.parts.Piece.{Piece}
use Rattle.road_network.specs.declared.Candidate.{Candidate}
use Rattle.road_network.specs.Net.{Net}
use Rattle.route_rebuild.specs.Routes.{chosen_at, edges_to, legs, route_of}

legs-same : (n : Net) (bound back : ℕ) (chosen chosen' : ℕ → Candidate) (i j k : ℕ) → ((m : ℕ) → m ≤ k → chosen (i + m) ≡ chosen' (j + m))
    → legs n bound back chosen i k ≡ legs n bound back chosen' j k
legs-same n bound back chosen chosen' i j zero h = refl
legs-same n bound back chosen chosen' i j (suc k) h =
    let a : i ≡ i + 0 = omega arith in
    let b : j ≡ j + 0 = omega arith in
    let here : chosen i ≡ chosen' j = ap chosen a ∙ h 0 (omega arith) ∙ ap chosen' (sym b) in
    let next : chosen (i + 1) ≡ chosen' (j + 1) = h 1 (omega arith) in
    ap (λ x. edges_to (chosen (i + 1)) (route_between n bound back x (chosen (i + 1))) ++ legs n bound back chosen (i + 1) k) here
    ∙ ap (λ x. edges_to x (route_between n bound back (chosen' j) x) ++ legs n bound back chosen (i + 1) k) next
    ∙ ap (λ xs. edges_to (chosen' (j + 1)) (route_between n bound back (chosen' j) (chosen' (j + 1))) ++ xs)
    (legs-same n bound back chosen chosen' (i + 1) (j + 1) k
    (λ m le. let c : i + 1 + m ≡ i + (m + 1) = omega arith in let d : j + 1 + m ≡ j + (m + 1) = omega arith in
    ap chosen c ∙ h (m + 1) (omega (arith, le)) ∙ ap chosen' (sym d)))

-- two pieces with the same chosen candidates have one route
pub route-same : (n : Net) (p : Params) (layers layers' : List Layer) (ranks ranks' : List (Option ℕ)) (q q' : Piece) → q.last - q.first ≡ q'.last - q'.first
    → ((m : ℕ) → m ≤ q.last - q.first → chosen_at layers ranks (q.first + m) ≡ chosen_at layers' ranks' (q'.first + m))
    → route_of n p layers ranks q ≡ route_of n p layers' ranks' q'
unfolding route_of
route-same n p layers layers' ranks ranks' q q' len h =
    let a : q.first ≡ q.first + 0 = omega arith in
    let b : q'.first ≡ q'.first + 0 = omega arith in
    let first : chosen_at layers ranks q.first ≡ chosen_at layers' ranks' q'.first =
    ap (chosen_at layers ranks) a ∙ h 0 (omega arith) ∙ ap (chosen_at layers' ranks') (sym b) in
    ap (λ x. x.edge.0 ∷ legs n p.bound p.back (chosen_at layers ranks) q.first (q.last - q.first)) first
    ∙ ap (λ xs. (chosen_at layers' ranks' q'.first).edge.0 ∷ xs)
    (legs-same n p.bound p.back (chosen_at layers ranks) (chosen_at layers' ranks') q.first q'.first (q.last - q.first) h
    ∙ ap (legs n p.bound p.back (chosen_at layers' ranks') q'.first) len)
