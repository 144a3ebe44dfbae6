-- Lists that are written at the places of points.
use Rattle.std.proofs.Common.{◌≡◌, ℕ, ◌<◌, List, [], ◌∷◌, ◌++◌, length, get_or, set, map, All, sym, ap, ◌∙◌, subst, arith, ⊎_elim}
use Rattle.std.specs.List.Sorted.{IsPermutation}
use Rattle.std.proofs.lemmas.Bool.{cases_eq}
use Rattle.std.proofs.lemmas.List.{get_or-map, get_or-set_other, get_or-set_same, length-map, same_lists}
use Rattle.std.proofs.lemmas.List.Elements.{All-append, All-nil, All-push}
use Rattle.std.proofs.lemmas.List.Sorted.{All-permutation, IsPermutation-sym}
use Rattle.polyline_geometry.specs.declared.plane.Point.{Point}
use Rattle.polyline_geometry.specs.Plane.{InRange}
use Rattle.road_network.specs.declared.Candidate.{Candidate}
use Rattle.candidate_search.specs.declared.placed.Placed.{Placed}
use Rattle.candidate_search.specs.inside.Placed.{ArePlaced, AreWritten, IsAsked, IsListed, IsPlaced}
use Rattle.candidate_search.proofs.EdgeBoxes.{no_point, origin}

abbrev pub Lists : Type 0
Lists = List (List Candidate)

-- two points at one place are one
same_point : (points : List Point) (x y : Placed) → IsPlaced points x → IsPlaced points y → y.place ≡ x.place → x.at ≡ y.at
same_point points x y at_x at_y same = sym (at_x origin) ∙ ap (λ i. get_or points i origin) (sym same) ∙ at_y origin

-- a list that is written takes no point's own list away
stays : (own : Point → List Candidate) (points : List Point) (lists : Lists) (x y : Placed) → IsPlaced points x → IsPlaced points y → x.place < length lists
    → IsListed own lists y → IsListed own (set lists x.place (own x.at)) y
stays own points lists x y at_x at_y lt h =
    let new = set lists x.place (own x.at) in
    ⊎_elim
    (λ same. λ d.
    ap (λ i. get_or new i d) same ∙ get_or-set_same lists x.place (own x.at) d lt ∙ ap own (same_point points x y at_x at_y same))
    (λ other. λ d. get_or-set_other lists x.place y.place (own x.at) d other ∙ h d)
    (cases_eq y.place x.place)

pub none_written : (own : Point → List Candidate) (points : List Point) (lists : Lists) → AreWritten own points lists lists []
none_written own points lists = record { keeps = λ x is h. h; each = All-nil (IsListed own lists) }

-- one more list is written
pub one_written : (own : Point → List Candidate) (points : List Point) (old mid : Lists) (done : List Placed) (x : Placed) → All (IsPlaced points) done → IsPlaced points x
    → x.place < length mid → AreWritten own points old mid done → AreWritten own points old (set mid x.place (own x.at)) (done ++ x ∷ [])
one_written own points old mid done x placed at_x lt h =
    let new = set mid x.place (own x.at) in
    record {
      keeps = λ y at_y listed. stays own points mid x y at_x at_y lt (h.keeps y at_y listed);
      each = All-push (IsListed own new) done x
          (λ i d under. stays own points mid x (get_or done i d) at_x (placed i d under) lt (h.each i d under))
          (λ d. get_or-set_same mid x.place (own x.at) d lt);
    }

-- the lists of two parts are written
pub both_written : (own : Point → List Candidate) (points : List Point) (old mid new : Lists) (group below above : List Placed) → IsPermutation group (below ++ above)
    → All (IsPlaced points) below → AreWritten own points old mid below → AreWritten own points mid new above → AreWritten own points old new group
both_written own points old mid new group below above all placed first second = record {
  keeps = λ x at_x listed. second.keeps x at_x (first.keeps x at_x listed);
  each = All-permutation (IsListed own new) (below ++ above) group (IsPermutation-sym group (below ++ above) all)
      (All-append (IsListed own new) below above (λ i d under. second.keeps (get_or below i d) (placed i d under) (first.each i d under)) second.each);
}

-- all points are asked for
pub all_asked : (points : List Point) (group : List Placed) (n : ℕ) → All InRange points → ArePlaced points group → n ≡ length points → All (IsAsked n) group
all_asked points group n in_range are count i d lt =
    let x = get_or group i d in
    let place : x.place ≡ i = are.in_order i d lt in
    let under : i < length points = omega (arith, lt, are.count) in
    record {
      in_range = subst InRange (ap (λ j. get_or points j origin) (sym place) ∙ are.each i d lt origin) (in_range i origin under);
      inside = omega (arith, place, under, count);
    }

-- where the lists of all points are written, they are the lists of the points in order
pub all_written : (own : Point → List Candidate) (points : List Point) (old new : Lists) (group : List Placed) → ArePlaced points group → length new ≡ length points
    → AreWritten own points old new group → new ≡ map own points
all_written own points old new group are count h =
    same_lists new (map own points) (count ∙ sym (length-map points own)) (λ i d lt.
    let x = get_or group i no_point in
    let under : i < length group = omega (arith, lt, count, are.count) in
    let place : x.place ≡ i = are.in_order i no_point under in
    let listed : get_or new i d ≡ own x.at = ap (λ j. get_or new j d) (sym place) ∙ h.each i no_point under d in
    let at : get_or points i origin ≡ x.at = ap (λ j. get_or points j origin) (sym place) ∙ are.each i no_point under origin in
    listed ∙ ap own (sym at) ∙ sym (get_or-map own points i origin d (omega (arith, lt, count))))
