-- The first and the last of the nearest segments of a line.
use Rattle.std.proofs.Common.{◌≡◌, ℕ, ◌+◌, ◌<◌, ◌≤◌, ◌⊎◌, List, Option, None, Some, refl, sym, ap, ◌∙◌, subst, arith, ⊎_elim}
use Rattle.std.specs.Prelude.{MatchOption}
use Rattle.std.proofs.lemmas.Bool.{cases_lt}
use Rattle.polyline_geometry.specs.declared.line.NearSegment.{NearSegment}
use Rattle.polyline_geometry.specs.declared.line.NearSegments.{NearSegments}
use Rattle.polyline_geometry.specs.declared.plane.Point.{Point}
use Rattle.polyline_geometry.specs.declared.plane.Snap.{Snap}
use Rattle.polyline_geometry.specs.Plane.{point_at, snap_segment}
use Rattle.polyline_geometry.specs.Nearest.{AreFar, AreNearest, IsNearest, segment_snap}
use Rattle.polyline_geometry.proofs.Nearest.{AreTold, IsNearestSoFar, far_next, segment_after, taken, told_same}

-- what a search of these segments answers
abbrev pub AreToldAll : List Point → Point → ℕ → ℕ → ℕ → Option NearSegments → Type 0
AreToldAll line p limit first i None = AreFar line p limit first i
AreToldAll line p limit first i (Some s) = AreNearest line p first i s × (s.d2 < limit)

-- a segment that is to be found next is nearer than this
abbrev pub found_below : ℕ → Option NearSegments → ℕ
found_below limit None = limit
found_below limit (Some s) = s.d2 + 1

-- what is known after the segments before number i: which are nearest, and how near they are
pub record AreNearestSoFar (line : List Point) (p : Point) (limit first i : ℕ) (nearest : Option NearSegments) (below : ℕ) : Type 0 where
  pub told : AreToldAll line p limit first i nearest
  pub below_is : below ≡ found_below limit nearest

-- one more segment that is farther
all_same : (line : List Point) (p : Point) (limit first i : ℕ) (nearest : Option NearSegments) → AreToldAll line p limit first i nearest
    → found_below limit nearest ≤ (segment_snap line p i).d2 → AreToldAll line p limit first (i + 1) nearest
all_same line p limit first i None told far = far_next line p limit first i told far
all_same line p limit first i (Some s) told far = (
  record {
    first_is = (told_same line p limit first i (Some (record { segment = s.first; d2 = s.d2 })) (told.0.first_is, told.1) (omega (arith, far))).0;
    from_first = told.0.from_first;
    before_end = omega (arith, told.0.before_end);
    as_near = told.0.as_near;
    farther = far_next line p (s.d2 + 1) (s.last + 1) i told.0.farther far;
  },
  told.1,
)

pub all_passed : (line : List Point) (p : Point) (limit first i below below' : ℕ) (nearest nearest' : Option NearSegments)
    → AreNearestSoFar line p limit first i nearest below
    → below ≤ (snap_segment (point_at line i) (point_at line (i + 1)) p).d2
    → nearest' ≡ nearest → below' ≡ below → AreNearestSoFar line p limit first (i + 1) nearest' below'
all_passed line p limit first i below below' nearest nearest' is far n b =
    subst (λ m. AreNearestSoFar line p limit first (i + 1) m below') (sym n) (record {
      told = all_same line p limit first i nearest is.told (omega (arith, far, is.below_is, ap (λ (s : Snap). s.d2) (segment_after line p i)));
      below_is = b ∙ is.below_is;
    })

-- one more segment that is nearer than all before it is the first and the last
alone : (line : List Point) (p : Point) (limit first i d2 : ℕ) → AreTold line p limit first (i + 1) (Some (record { segment = i; d2 = d2 }))
    → AreToldAll line p limit first (i + 1) (Some (record { first = i; last = i; d2 = d2 }))
alone line p limit first i d2 told = (
  record {
    first_is = told.0;
    from_first = omega arith;
    before_end = omega arith;
    as_near = told.0.d2_is;
    farther = λ k le lt. absurd (omega (arith, le, lt));
  },
  told.1,
)

all_nearer : (line : List Point) (p : Point) (limit first i below d2 : ℕ) (nearest : Option NearSegment)
    → first ≤ i → IsNearestSoFar line p limit first i nearest below
    → d2 ≡ (snap_segment (point_at line i) (point_at line (i + 1)) p).d2 → d2 < below
    → AreToldAll line p limit first (i + 1) (Some (record { first = i; last = i; d2 = d2 }))
all_nearer line p limit first i below d2 nearest from_first is d2_is near =
    let found = taken line p limit first i below d2 d2 nearest (Some (record { segment = i; d2 = d2 })) from_first is d2_is near refl refl in
    alone line p limit first i d2 found.told

-- one more segment that is as near as those before it is the last
all_tied : (line : List Point) (p : Point) (limit first i d2 : ℕ) (s : NearSegments)
    → AreToldAll line p limit first i (Some s)
    → d2 ≡ (snap_segment (point_at line i) (point_at line (i + 1)) p).d2 → s.d2 ≡ d2
    → AreToldAll line p limit first (i + 1) (Some (record { first = s.first; last = i; d2 = d2 }))
all_tied line p limit first i d2 s told is same =
    let at : d2 ≡ (segment_snap line p i).d2 = is ∙ ap (λ (s : Snap). s.d2) (segment_after line p i) in
    let found = told_same line p limit first i (Some (record { segment = s.first; d2 = s.d2 })) (told.0.first_is, told.1) (omega (arith, same, at)) in (
      record {
        first_is = subst (λ v. IsNearest line p first (i + 1) (record { segment = s.first; d2 = v })) same found.0;
        from_first = omega (arith, told.0.from_first, told.0.before_end);
        before_end = omega arith;
        as_near = at;
        farther = λ k le lt. absurd (omega (arith, le, lt));
      },
      omega (arith, same, told.1),
    )

-- the first of the nearest segments, where one more is as near as the earlier ones or nearer
abbrev pub IsEarliest : Option NearSegments → ℕ → ℕ → ℕ → Type 0
IsEarliest None i d2 e = e ≡ i
IsEarliest (Some s) i d2 e = ((s.d2 ≡ d2) × (e ≡ s.first)) ⊎ ((s.d2 ≡ d2 → ⊥) × (e ≡ i))

all_with : (line : List Point) (p : Point) (limit first i d2 e : ℕ) (nearest : Option NearSegments)
    → first ≤ i → AreToldAll line p limit first i nearest
    → d2 ≡ (snap_segment (point_at line i) (point_at line (i + 1)) p).d2 → d2 < found_below limit nearest → IsEarliest nearest i d2 e
    → AreToldAll line p limit first (i + 1) (Some (record { first = e; last = i; d2 = d2 }))
all_with line p limit first i d2 e None from_first told is near e_is =
    subst (λ v. AreToldAll line p limit first (i + 1) (Some (record { first = v; last = i; d2 = d2 }))) (sym e_is)
    (all_nearer line p limit first i limit d2 None from_first (record { told = told; below_is = refl }) is near)
all_with line p limit first i d2 e (Some s) from_first told is near e_is =
    ⊎_elim
    (λ tie. subst (λ v. AreToldAll line p limit first (i + 1) (Some (record { first = v; last = i; d2 = d2 }))) (sym tie.1)
    (all_tied line p limit first i d2 s told is tie.0))
    (λ new. subst (λ v. AreToldAll line p limit first (i + 1) (Some (record { first = v; last = i; d2 = d2 }))) (sym new.1)
    (let nearer : d2 < s.d2 = ⊎_elim (λ lt. lt) (λ le. absurd (new.0 (omega (arith, le, near)))) (cases_lt d2 s.d2) in
    all_nearer line p limit first i s.d2 d2 (Some (record { segment = s.first; d2 = s.d2 })) from_first (record { told = (told.0.first_is, told.1); below_is = refl }) is nearer))
    e_is

pub all_taken : (line : List Point) (p : Point) (limit first i below below' d2 e : ℕ) (nearest nearest' : Option NearSegments)
    → first ≤ i → AreNearestSoFar line p limit first i nearest below
    → d2 ≡ (snap_segment (point_at line i) (point_at line (i + 1)) p).d2 → d2 < below → IsEarliest nearest i d2 e
    → nearest' ≡ Some (record { first = e; last = i; d2 = d2 }) → below' ≡ d2 + 1 → AreNearestSoFar line p limit first (i + 1) nearest' below'
all_taken line p limit first i below below' d2 e nearest nearest' from_first is d2_is near e_is n b =
    let found = all_with line p limit first i d2 e nearest from_first is.told d2_is (omega (arith, near, is.below_is)) e_is in
    subst (λ m. AreNearestSoFar line p limit first (i + 1) m below') (sym n) (record { told = found; below_is = b })

pub all_matched : (line : List Point) (p : Point) (limit first end : ℕ) (r : Option NearSegments) → AreToldAll line p limit first end r
    → MatchOption r (AreFar line p limit first end) (λ s. AreNearest line p first end s × (s.d2 < limit))
all_matched line p limit first end None told = told
all_matched line p limit first end (Some s) told = told
