-- The candidates of the edges that were taken, by rising number.
use Rattle.std.proofs.Common.{◌≡◌, ℕ, zero, suc, ◌+◌, ◌<◌, List, [], take, map, All, refl, sym, ap, ◌∙◌, subst, arith}
use Rattle.std.specs.List.{range_with_len}
use Rattle.std.proofs.lemmas.List.FromFn.{get_or-map-range_with_len, length-map-range_with_len, map-range_with_len_more}
use Rattle.road_network.specs.declared.Candidate.{Candidate}
use Rattle.polyline_geometry.specs.declared.plane.Point.{Point}
use Rattle.road_network.specs.Net.{Net}
use Rattle.road_network.specs.Near.{candidate_at}
use Rattle.candidate_search.specs.inside.Nearest.{IsFound, nearest, with_one}
use Rattle.candidate_search.proofs.Order.{nearest_push}

-- one more edge by its number
pub taken_number : (net : Net) (at : Point) (k radius number : ℕ) (found new : List Candidate)
    → found ≡ nearest k radius (map (candidate_at net at) (range_with_len 0 number))
    → new ≡ with_one k radius found (candidate_at net at number)
    → new ≡ nearest k radius (map (candidate_at net at) (range_with_len 0 (number + 1)))
taken_number net at k radius number found new is then =
    let snaps = map (candidate_at net at) (range_with_len 0 number) in
    let c = candidate_at net at number in
    let below : All (λ x. x.edge.0 < c.edge.0) snaps = λ i d lt.
    let n = length-map-range_with_len (candidate_at net at) 0 number in
    let e = ap (λ (x : Candidate). x.edge.0) (get_or-map-range_with_len (candidate_at net at) 0 number i i d (omega (arith, lt, n)) (omega arith)) in
    omega (arith, e, lt, n)
    in
    then ∙ ap (λ l. with_one k radius l c) is ∙ sym (nearest_push k radius snaps c below)
    ∙ ap (nearest k radius) (sym (map-range_with_len_more (candidate_at net at) 0 number number (omega arith)))

take_nil : (k : ℕ) → take k (let none : List Candidate = [] in none) ≡ []
take_nil zero = refl
take_nil (suc k) = refl

-- nothing was taken
pub taken_none : (k radius : ℕ) (found : List Candidate) → found ≡ [] → found ≡ nearest k radius []
taken_none k radius found is = is ∙ sym (take_nil k)

pub none_found : (k e : ℕ) (found : List Candidate) → found ≡ [] → IsFound k e found
none_found k e found is = subst (λ l. IsFound k e l) (sym is) (record {
  few = omega arith;
  sorted = λ i j d le lt. absurd (omega (arith, lt));
  earlier = λ i d under. absurd (omega (arith, under));
})
