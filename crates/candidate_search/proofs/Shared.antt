-- Candidates among the edges that are near some points.
use Rattle.std.proofs.Common.{◌≡◌, ℕ, suc, ◌+◌, ◌*◌, ◌<◌, ◌≤◌, Bool, true, false, cond, leb, List, [], ◌∷◌, ◌++◌, length, get_or, map, take, All, refl, sym, ap, ◌∙◌, subst, arith}
use Rattle.std.specs.List.{filter, range_with_len}
use Rattle.std.specs.List.Sorted.{IsPermutation}
use Rattle.std.proofs.lemmas.Bool.{lt-leb}
use Rattle.std.proofs.lemmas.List.{get_or-map, get_or-take, length-map, length-take-le, map-append, take_more}
use Rattle.std.proofs.lemmas.List.Elements.{All-filter}
use Rattle.std.proofs.lemmas.List.FromFn.{get_or-range_with_len, length-range_with_len}
use Rattle.std.proofs.lemmas.List.Kept.{AllPairs-filter}
use Rattle.std.proofs.lemmas.Simd.{map-map}
use Rattle.polyline_geometry.specs.declared.plane.Point.{Point}
use Rattle.road_network.specs.declared.Candidate.{Candidate}
use Rattle.road_network.specs.Net.{Net, IsLawful}
use Rattle.road_network.specs.Near.{candidate_at, candidates, in_order, within}
use Rattle.grid_index.specs.declared.extent.Extent.{Extent}
use Rattle.grid_index.specs.Extent.{IsInside}
use Rattle.candidate_search.specs.declared.boxes.EdgeBox.{EdgeBox}
use Rattle.candidate_search.specs.inside.Boxes.{AreBoxes, AreBoxesFor, AreEnough, HoldsPoints, IsEdgeBox, IsGrown, touches}
use Rattle.candidate_search.specs.inside.Nearest.{IsFound, nearest, with_one}
use Rattle.candidate_search.specs.declared.placed.Placed.{Placed}
use Rattle.candidate_search.specs.inside.Placed.{points_of}
use Rattle.candidate_search.proofs.EdgeBoxes.{far_edge, origin}
use Rattle.candidate_search.proofs.Parts.{All-parts}
use Rattle.candidate_search.proofs.Order.{nearest_push}

abbrev pub no_box : EdgeBox
no_box = record { edge = record { 0 = 0 }; extent = record { low = origin; high = origin } }

-- the candidate of a box's edge
abbrev pub of_box : Net → Point → EdgeBox → Candidate
of_box net at b = candidate_at net at b.edge.0

-- what is passed over is beyond the radius
same_within : (net : Net) (radius : ℕ) (at : Point) (test : EdgeBox → Bool) (boxes : List EdgeBox)
    → ((i : ℕ) (d : EdgeBox) → i < length boxes → test (get_or boxes i d) ≡ false → radius * radius < (of_box net at (get_or boxes i d)).d2)
    → within radius (map (of_box net at) (filter test boxes)) ≡ within radius (map (of_box net at) boxes)
same_within net radius at test [] h = refl
same_within net radius at test (b ∷ boxes) h =
    let near = λ (c : Candidate). leb c.d2 (radius * radius) in
    let c = of_box net at b in
    let rest = same_within net radius at test boxes (λ i d lt. h (suc i) d (omega (arith, lt))) in
    let whole = filter near (map (of_box net at) boxes) in
    let both : (v : Bool) → test b ≡ v → filter near (map (of_box net at) (cond v (b ∷ filter test boxes) (filter test boxes))) ≡ cond (near c) (c ∷ whole) whole = λ v.
    elim v as (λ w. test b ≡ w → filter near (map (of_box net at) (cond w (b ∷ filter test boxes) (filter test boxes))) ≡ cond (near c) (c ∷ whole) whole) [
      | true ↦ λ e. ap (λ l. cond (near c) (c ∷ l) l) rest
      | false ↦ λ e. rest ∙ sym (ap (λ w. cond w (c ∷ whole) whole) (lt-leb c.d2 (radius * radius) (h 0 b (omega arith) e)))
    ]
    in both (test b) refl

-- the boxes that touch the grown box of a group are enough for it
pub enough_near : (net : Net) (radius : ℕ) (c d : Extent) (boxes near : List EdgeBox) (group : List Placed) → IsLawful net → AreBoxesFor net radius boxes group
    → HoldsPoints (points_of group) c → IsGrown radius c d → near ≡ filter (λ b. touches d b.extent) boxes → AreBoxesFor net radius near group
enough_near net radius c d boxes near group lawful h holds grown is =
    let test = λ (b : EdgeBox). touches d b.extent in
    subst (λ l. AreBoxesFor net radius l group) (sym is) (record {
      are = record {
        rising = AllPairs-filter (λ a b. a.edge.0 < b.edge.0) test boxes h.are.rising;
        each = All-filter test (IsEdgeBox net) boxes h.are.each;
      };
      enough = λ i x lt.
          let p = (get_or group i x).at in
          let inside : IsInside c p = subst (IsInside c) (get_or-map (λ (y : Placed). y.at) group i x origin lt) (holds.each i origin (omega (arith, lt, length-map group (λ (y : Placed). y.at)))) in
          same_within net radius p test boxes (λ j b under apart. far_edge net radius c d p (get_or boxes j b) lawful (h.are.each j b under) grown inside apart)
          ∙ h.enough i x lt;
    })

-- the boxes of all edges are enough for any group
pub all_enough : (net : Net) (radius : ℕ) (boxes : List EdgeBox) (group : List Placed) → AreBoxes net boxes → map (λ b. b.edge.0) boxes ≡ range_with_len 0 (length net.edges)
    → AreBoxesFor net radius boxes group
all_enough net radius boxes group are all = record {
  are = are;
  enough = λ i x lt.
      let p = (get_or group i x).at in
      ap (within radius) (sym (map-map (candidate_at net p) (λ (b : EdgeBox). b.edge.0) boxes) ∙ ap (map (candidate_at net p)) all);
}

-- boxes for a group are boxes for a part of it
pub for_part : (net : Net) (radius : ℕ) (boxes : List EdgeBox) (group below above : List Placed) → IsPermutation group (below ++ above) → AreBoxesFor net radius boxes group
    → AreBoxesFor net radius boxes below × AreBoxesFor net radius boxes above
for_part net radius boxes group below above all h =
    let parts = All-parts (λ (x : Placed). AreEnough net radius boxes x.at) group below above all h.enough in
    (record { are = h.are; enough = parts.0 }, record { are = h.are; enough = parts.1 })

-- the boxes of edges by rising number
pub boxes_rise : (net : Net) (boxes : List EdgeBox) (count : ℕ) → All (IsEdgeBox net) boxes → map (λ b. b.edge.0) boxes ≡ range_with_len 0 count → AreBoxes net boxes
boxes_rise net boxes count each all =
    let f = λ (b : EdgeBox). b.edge.0 in
    let n = sym (length-map boxes f) ∙ ap length all ∙ length-range_with_len 0 count in
    let at = λ (i : ℕ) (d : EdgeBox) (lt : i < length boxes).
    sym (get_or-map f boxes i d 0 lt) ∙ ap (λ l. get_or l i 0) all ∙ get_or-range_with_len 0 count i 0 (omega (arith, lt, n))
    in
    record {
      rising = λ i j d lt under.
          let a = at i d (omega (arith, lt, under)) in
          let b = at j d under in
          omega (arith, a, b, lt);
      each = each;
    }

-- one more box among those that were looked at
pub taken_box : (net : Net) (at : Point) (k radius place : ℕ) (boxes : List EdgeBox) (found new : List Candidate) → AreBoxes net boxes → place < length boxes
    → found ≡ nearest k radius (map (of_box net at) (take place boxes)) → new ≡ with_one k radius found (of_box net at (get_or boxes place no_box))
    → new ≡ nearest k radius (map (of_box net at) (take (place + 1) boxes))
taken_box net at k radius place boxes found new are lt is then =
    let f = of_box net at in
    let front = take place boxes in
    let b = get_or boxes place no_box in
    let below : All (λ x. x.edge.0 < b.edge.0) (map f front) = λ i d under.
    let n = length-map front f in
    let m = length-take-le place boxes (omega (arith, lt)) in
    let e = ap (λ (x : Candidate). x.edge.0) (get_or-map f front i no_box d (omega (arith, under, n))) in
    let g = ap (λ (x : EdgeBox). x.edge.0) (get_or-take place boxes i no_box (omega (arith, under, n, m))) in
    let r = are.rising i place no_box (omega (arith, under, n, m)) lt in
    omega (arith, e, g, r)
    in
    then ∙ ap (λ l. with_one k radius l (f b)) is ∙ sym (nearest_push k radius (map f front) (f b) below)
    ∙ ap (nearest k radius) (sym (ap (map f) (take_more boxes place no_box lt) ∙ map-append f front (b ∷ [])))

-- what was found below a number is found below a greater one
pub found_below : (k e f : ℕ) (found : List Candidate) → e ≤ f → IsFound k e found → IsFound k f found
found_below k e f found le h = record {
  few = h.few;
  sorted = h.sorted;
  earlier = λ i d lt. let b = h.earlier i d lt in omega (arith, b, le);
}

-- where enough boxes were looked at, they are the candidates
pub all_taken : (net : Net) (k radius : ℕ) (at : Point) (boxes : List EdgeBox) (found : List Candidate) → AreEnough net radius boxes at
    → found ≡ nearest k radius (map (of_box net at) boxes) → found ≡ candidates net k radius at
all_taken net k radius at boxes found enough is = is ∙ ap (λ l. take k (in_order l)) enough
