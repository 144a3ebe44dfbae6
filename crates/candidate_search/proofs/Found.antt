-- One more candidate among those that were found.
use Rattle.std.proofs.Common.{◌≡◌, ℕ, zero, suc, ◌+◌, ◌-◌, ◌*◌, ◌<◌, ◌≤◌, ◌⊎◌, Bool, true, false, cond, leb, List, [], ◌∷◌, ◌++◌, length, get_or, take, drop, All, Option, None, Some, refl, sym, ap, ◌∙◌, subst, arith, ⊎_elim, length-take}
use Rattle.std.specs.List.{insert}
use Rattle.std.specs.List.Sorted.{IsNonDecreasingBy, IsPartitionPoint}
use Rattle.std.proofs.lemmas.Bool.{cases_lt, true≢false}
use Rattle.std.proofs.lemmas.Bool.Decides.{nat_tests}
use Rattle.std.proofs.lemmas.List.{get_or_default, take-append-le, take_all}
use Rattle.std.proofs.lemmas.List.Elements.{All-append, All-cons, All-drop, All-take}
use Rattle.std.proofs.lemmas.List.Sorted.{IsNonDecreasingBy-insert, IsNonDecreasingBy-take}
use Rattle.polyline_geometry.specs.declared.plane.Point.{Point}
use Rattle.polyline_geometry.specs.declared.plane.Snap.{Snap}
use Rattle.polyline_geometry.specs.Plane.{IsLine, snap_line}
use Rattle.polyline_geometry.specs.Nearest.{AreFar, IsNearest}
use Rattle.polyline_geometry.specs.declared.line.NearSegment.{NearSegment}
use Rattle.std.specs.Prelude.{MatchOption}
use Rattle.candidate_search.specs.declared.wanted.Search.{Search}
use Rattle.polyline_geometry.proofs.Nearest.{snap_nearest}
use Rattle.road_network.specs.declared.Candidate.{Candidate}
use Rattle.road_network.specs.Near.{is_before, placed}
use Rattle.candidate_search.specs.inside.Nearest.{AllAreFar, IsFound, IsNearestOf, IsPlace, with_one}
use Rattle.road_network.proofs.NearOrder.{before_false, before_later, before_true, placed_after, placed_first}

not_before : (c d : Candidate) → d.d2 ≤ c.d2 → d.edge.0 < c.edge.0 → is_before c d ≡ false
not_before c d h k = ⊎_elim (λ lt. before_false c d lt) (λ ge. let e : d.d2 ≡ c.d2 = omega (arith, h, ge) in before_later c d e k) (cases_lt d.d2 c.d2)

-- a candidate of a later edge is placed before the first that is farther
pub placed_insert : (found : List Candidate) (c : Candidate) (place : ℕ) → All (λ d. d.edge.0 < c.edge.0) found → IsPlace found c.d2 place
    → placed c found ≡ take place found ++ c ∷ drop place found
placed_insert [] c zero h p = refl
placed_insert [] c (suc place) h p = absurd (omega (arith, p.within))
placed_insert (d ∷ r) c zero h p = placed_first c d r (before_true c d (p.after 0 d (omega arith) (omega arith)))
placed_insert (d ∷ r) c (suc place) h p =
    placed_after c d r (not_before c d (p.before 0 d (omega arith)) (h 0 d (omega arith)))
    ∙ ap (λ l. d ∷ l) (placed_insert r c place (λ i e lt. h (suc i) e (omega (arith, lt))) (record {
      within = omega (arith, p.within);
      before = λ i e lt. p.before (suc i) e (omega (arith, lt));
      after = λ i e le lt. p.after (suc i) e (omega (arith, le)) (omega (arith, lt));
    }))

distance : Candidate → ℕ
distance c = c.d2

pub found_insert : (k e : ℕ) (found new : List Candidate) (c : Candidate) (place : ℕ) → IsFound k e found → c.edge.0 ≡ e → IsPlace found c.d2 place
    → new ≡ take k (insert found place c) → IsFound k (e + 1) new
found_insert k e found new c place h at p is =
    let below = λ (d : Candidate). d.edge.0 < e + 1 in
    let later : All below found = λ i d lt. omega (arith, h.earlier i d lt) in
    let whole : All below (insert found place c)
    = All-append below (take place found) (c ∷ drop place found) (All-take below place found later)
    (All-cons below c (drop place found) (omega (arith, at)) (All-drop below place found later))
    in
    let sorted = IsNonDecreasingBy-insert (λ (d : Candidate). d.d2) found place c h.sorted p.within p.before (λ i d le lt. omega (arith, p.after i d le lt)) in
    subst (λ l. IsFound k (e + 1) l) (sym is) (record {
      few = omega (arith, length-take k (insert found place c));
      sorted = IsNonDecreasingBy-take (λ (d : Candidate). d.d2) k (insert found place c) sorted;
      earlier = All-take below k (insert found place c) whole;
    })

pub found_later : (k e : ℕ) (found : List Candidate) → IsFound k e found → IsFound k (e + 1) found
found_later k e found h = record { few = h.few; sorted = h.sorted; earlier = λ i d lt. omega (arith, h.earlier i d lt) }

-- where k are found and none is farther, one more of a later edge changes nothing
full_same : (k : ℕ) (found : List Candidate) (c : Candidate) → IsFound k c.edge.0 found → length found ≡ k → All (λ d. d.d2 ≤ c.d2) found → found ≡ take k (placed c found)
full_same k found c h full near =
    let n = length found in
    let is = placed_insert found c n h.earlier (record {
      within = omega arith;
      before = λ i d lt. near i d lt;
      after = λ i d le lt. absurd (omega (arith, le, lt));
    })
    in
    let whole : take n found ≡ found = take_all n found (omega arith) in
    sym (ap (take k) is ∙ ap (λ m. take m (take n found ++ c ∷ drop n found)) (sym full) ∙ take-append-le n (take n found) (c ∷ drop n found) (omega (arith, length-take n found)) ∙ take_all n (take n found) (omega (arith, length-take n found)) ∙ whole)

pub far_same : (k radius : ℕ) (found : List Candidate) (c : Candidate) → IsFound k c.edge.0 found
    → (radius * radius < c.d2) ⊎ ((length found ≡ k) × All (λ d. d.d2 ≤ c.d2) found) → found ≡ with_one k radius found c
far_same k radius found c h far =
    let both : (b : Bool) → leb c.d2 (radius * radius) ≡ b → found ≡ cond b (take k (placed c found)) found = λ b.
    elim b as (λ v. leb c.d2 (radius * radius) ≡ v → found ≡ cond v (take k (placed c found)) found) [
      | true ↦ λ e.
          ⊎_elim
          (λ beyond. absurd (let no : leb c.d2 (radius * radius) ≡ false = grind (arith, nat_tests) in true≢false (sym e ∙ no)))
          (λ full. full_same k found c h full.0 full.1)
          far
      | false ↦ λ e. refl
    ]
    in both (leb c.d2 (radius * radius)) refl

pub near_one : (k radius : ℕ) (found : List Candidate) (c : Candidate) → c.d2 < radius * radius + 1 → take k (placed c found) ≡ with_one k radius found c
near_one k radius found c h =
    let b : leb c.d2 (radius * radius) ≡ true = grind (arith, nat_tests) in
    sym (ap (λ v. cond v (take k (placed c found)) found) b)

-- where all segments are far, so is the line
pub line_far : (line : List Point) (p : Point) (limit : ℕ) → IsLine line → AreFar line p limit 0 (length line - 1) → limit ≤ (snap_line line p).d2
line_far line p limit lawful far =
    let near = snap_nearest line p lawful in
    let h = far near.0.segment (omega arith) near.1.before_end in
    omega (arith, h, ap (λ (s : Snap). s.d2) near.2)

-- what the nearest segment under a limit says of the line
pub nearest_taken : (line : List Point) (search : Search) (found : List Candidate) (limit : ℕ) (r : Option NearSegment) → IsLine line
    → limit ≤ search.radius * search.radius + 1 → ((d2 : ℕ) → limit ≤ d2 → AllAreFar search found d2)
    → MatchOption r (AreFar line search.at limit 0 (length line - 1)) (λ s. IsNearest line search.at 0 (length line - 1) s × (s.d2 < limit))
    → IsNearestOf line search found r
nearest_taken line search found limit None lawful low beyond far = beyond (snap_line line search.at).d2 (line_far line search.at limit lawful far)
nearest_taken line search found limit (Some s) lawful low beyond near = (near.0, omega (arith, near.1, low))

passes : (a b : ℕ) → leb a b ≡ true → a ≤ b
passes a b h = grind (arith, nat_tests)

fails : (a b : ℕ) → leb a b ≡ false → b < a
fails a b h = grind (arith, nat_tests)

pub place_here : (found : List Candidate) (d2 place : ℕ) → place ≤ length found
    → IsPartitionPoint (λ c. leb c.d2 d2 ≡ true) (λ c. leb c.d2 d2 ≡ false) found place → IsPlace found d2 place
place_here found d2 place le h = record {
  within = le;
  before = λ i d lt. passes (get_or found i d).d2 d2 (h.0 i d (omega arith) lt);
  after = λ i d from lt. fails (get_or found i d).d2 d2 (h.1 i d from lt);
}

-- the last of those found is the farthest
pub last_farthest : (found : List Candidate) (k : ℕ) (e : Candidate) → IsNonDecreasingBy (λ c. c.d2) found → length found ≡ k → 1 ≤ k
    → (i : ℕ) (d : Candidate) → i < length found → (get_or found i d).d2 ≤ (get_or found (k - 1) e).d2
last_farthest found k e sorted full some i d lt =
    let up = sorted i (k - 1) d (omega (arith, lt, full)) (omega (arith, full, some)) in
    let same = ap (λ (c : Candidate). c.d2) (get_or_default found (k - 1) d e (omega (arith, full, some))) in
    omega (arith, up, same)
