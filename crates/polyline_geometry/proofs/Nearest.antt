-- The snap to a line is the one to its nearest segment.
use Rattle.std.proofs.Common.{◌≡◌, ℕ, zero, suc, ◌+◌, ◌-◌, ◌*◌, ◌<◌, ◌≤◌, Bool, true, false, cond, leb, List, [], ◌∷◌, length, take, Option, None, Some, refl, sym, ap, ◌∙◌, subst, arith, ⊎_elim, pos}
use Rattle.std.specs.Option.{IsSome}
use Rattle.std.proofs.lemmas.Bool.{cases_lt}
use Rattle.std.proofs.lemmas.Bool.Decides.{nat_tests}
use Rattle.polyline_geometry.specs.declared.plane.Point.{Point}
use Rattle.polyline_geometry.specs.declared.plane.Snap.{Snap}
use Rattle.polyline_geometry.specs.Plane.{InRange, IsLine, after, distance2, length_from, line_length, nearer, point_at, share, snap_from, snap_line, snap_segment, straight}
use Rattle.polyline_geometry.specs.Boxes.{BoxMeetsSquare, LineMeetsSquare}
use Rattle.polyline_geometry.specs.Nearest.{AreFar, IsNearest, SnapIsTheNearest, segment_snap}
use Rattle.polyline_geometry.specs.declared.line.NearSegment.{NearSegment}
use Rattle.std.specs.Prelude.{MatchOption}
use Rattle.polyline_geometry.proofs.Lengths.{line_length_front, line_length_next}
use Rattle.polyline_geometry.proofs.Parts.{div_le}
use Rattle.polyline_geometry.proofs.Boxes.{share-le, snap_meets, snap_small}

abbrev origin : Point
origin = record { x = pos 0; y = pos 0 }

nearer_first : (s t : Snap) → s.d2 ≤ t.d2 → nearer s t ≡ s
nearer_first s t h = let b : leb s.d2 t.d2 ≡ true = grind (arith, nat_tests) in ap (λ v. cond v s t) b

nearer_second : (s t : Snap) → t.d2 < s.d2 → nearer s t ≡ t
nearer_second s t h = let b : leb s.d2 t.d2 ≡ false = grind (arith, nat_tests) in ap (λ v. cond v s t) b

-- what holds of both snaps holds of the nearer one
nearer_either : (P : Snap → Type 0) (s t : Snap) → P s → P t → P (nearer s t)
nearer_either P s t h k =
    let both : (b : Bool) → P (cond b s t) = λ b. elim b as (λ v. P (cond v s t)) [ true ↦ h | false ↦ k ] in
    both (leb s.d2 t.d2)

-- what holds of the snap to each segment holds of the squared distance of the line
pub snap_from-each : (P : ℕ → Type 0) (a b : Point) (rest : List Point) (p : Point)
    → ((i : ℕ) → i < suc (length rest) → P (segment_snap (a ∷ b ∷ rest) p i).d2) → P (snap_from a b rest p).d2
snap_from-each P a b [] p h = h 0 (omega arith)
snap_from-each P a b (c ∷ rest) p h =
    nearer_either (λ s. P s.d2) (snap_segment a b p) (after (straight a b) (snap_from b c rest p)) (h 0 (omega arith))
    (snap_from-each P b c rest p (λ i lt. h (suc i) (omega (arith, lt))))

after_none : (s : Snap) → s ≡ after 0 s
after_none s = ap (λ v. let t : Snap = record { d2 = s.d2; offset = v } in t) (omega arith)

after_after : (x y : ℕ) (s : Snap) → after x (after y s) ≡ after (x + y) s
after_after x y s = ap (λ v. let t : Snap = record { d2 = s.d2; offset = v } in t) (omega arith)

pub snap_from-is : (a b : Point) (rest : List Point) (p : Point) (n : ℕ) → n < suc (length rest)
    → ((i : ℕ) → i < n → (segment_snap (a ∷ b ∷ rest) p n).d2 < (segment_snap (a ∷ b ∷ rest) p i).d2)
    → ((i : ℕ) → i < suc (length rest) → (segment_snap (a ∷ b ∷ rest) p n).d2 ≤ (segment_snap (a ∷ b ∷ rest) p i).d2)
    → snap_from a b rest p ≡ after (line_length (take (suc n) (a ∷ b ∷ rest))) (segment_snap (a ∷ b ∷ rest) p n)
snap_from-is a b [] p zero lt before least = after_none (snap_segment a b p)
snap_from-is a b [] p (suc n) lt before least = absurd (omega (arith, lt))
snap_from-is a b (c ∷ rest) p zero lt before least =
    nearer_first (snap_segment a b p) (after (straight a b) (snap_from b c rest p))
    (snap_from-each (λ d2. (snap_segment a b p).d2 ≤ d2) b c rest p (λ i h. least (suc i) (omega (arith, h))))
    ∙ after_none (snap_segment a b p)
snap_from-is a b (c ∷ rest) p (suc n) lt before least =
    let ih = snap_from-is b c rest p n (omega (arith, lt)) (λ i h. before (suc i) (omega (arith, h))) (λ i h. least (suc i) (omega (arith, h))) in
    let near : (snap_from b c rest p).d2 < (snap_segment a b p).d2 = omega (arith, ap (λ s. s.d2) ih, before 0 (omega arith)) in
    nearer_second (snap_segment a b p) (after (straight a b) (snap_from b c rest p)) near
    ∙ ap (after (straight a b)) ih ∙ after_after (straight a b) (line_length (take (suc n) (b ∷ c ∷ rest))) (segment_snap (b ∷ c ∷ rest) p n)

pub snap_from-offset : (a b : Point) (rest : List Point) (p : Point) → (snap_from a b rest p).offset ≤ straight a b + length_from b rest
snap_from-offset a b [] p = let h = div_le (straight a b) (share a b p) (distance2 b a) (share-le a b p) in omega (arith, h)
snap_from-offset a b (c ∷ rest) p =
    let h = div_le (straight a b) (share a b p) (distance2 b a) (share-le a b p) in
    let k = snap_from-offset b c rest p in
    nearer_either (λ s. s.offset ≤ straight a b + length_from b (c ∷ rest)) (snap_segment a b p) (after (straight a b) (snap_from b c rest p))
    (omega (arith, h)) (omega (arith, k))

-- a snap lies on its line
pub snap_line-offset : (line : List Point) (p : Point) → (snap_line line p).offset ≤ line_length line
snap_line-offset [] p = omega arith
snap_line-offset (a ∷ []) p = omega arith
snap_line-offset (a ∷ b ∷ rest) p = snap_from-offset a b rest p

-- what a search of these segments answers
abbrev pub AreTold : List Point → Point → ℕ → ℕ → ℕ → Option NearSegment → Type 0
AreTold line p limit first i None = AreFar line p limit first i
AreTold line p limit first i (Some s) = IsNearest line p first i s × (s.d2 < limit)

abbrev pub least_below : ℕ → Option NearSegment → ℕ
least_below limit None = limit
least_below limit (Some s) = s.d2

-- what is known after the segments before number i: which is nearest, and how near it is
pub record IsNearestSoFar (line : List Point) (p : Point) (limit first i : ℕ) (nearest : Option NearSegment) (below : ℕ) : Type 0 where
  pub told : AreTold line p limit first i nearest
  pub below_is : below ≡ least_below limit nearest

-- one more segment is no nearer than a distance
pub far_next : (line : List Point) (p : Point) (d2 first i : ℕ) → AreFar line p d2 first i → d2 ≤ (segment_snap line p i).d2 → AreFar line p d2 first (i + 1)
far_next line p d2 first i far here = λ k le lt.
    ⊎_elim (λ h. far k le h) (λ h. let e : i ≡ k = omega (arith, lt, h) in subst (λ v. d2 ≤ (segment_snap line p v).d2) e here) (cases_lt k i)

pub segment_after : (line : List Point) (p : Point) (i : ℕ) → snap_segment (point_at line i) (point_at line (i + 1)) p ≡ segment_snap line p i
segment_after line p i = let e : i + 1 ≡ suc i = omega arith in ap (λ k. snap_segment (point_at line i) (point_at line k) p) e

-- one more segment that is no nearer
pub told_same : (line : List Point) (p : Point) (limit first i : ℕ) (nearest : Option NearSegment) → AreTold line p limit first i nearest
    → least_below limit nearest ≤ (segment_snap line p i).d2 → AreTold line p limit first (i + 1) nearest
told_same line p limit first i None told far = far_next line p limit first i told far
told_same line p limit first i (Some s) told far = (
  record {
    d2_is = told.0.d2_is;
    from_first = told.0.from_first;
    before_end = omega (arith, told.0.before_end);
    earlier = told.0.earlier;
    least = far_next line p s.d2 first i told.0.least far;
  },
  told.1,
)

pub passed : (line : List Point) (p : Point) (limit first i below below' : ℕ) (nearest nearest' : Option NearSegment)
    → IsNearestSoFar line p limit first i nearest below
    → below ≤ (snap_segment (point_at line i) (point_at line (i + 1)) p).d2
    → nearest' ≡ nearest → below' ≡ below → IsNearestSoFar line p limit first (i + 1) nearest' below'
passed line p limit first i below below' nearest nearest' is far n b =
    subst (λ m. IsNearestSoFar line p limit first (i + 1) m below') (sym n) (record {
      told = told_same line p limit first i nearest is.told (omega (arith, far, is.below_is, ap (λ (s : Snap). s.d2) (segment_after line p i)));
      below_is = b ∙ is.below_is;
    })

-- before a nearer segment all are farther than it
all_farther : (line : List Point) (p : Point) (limit first i d2 : ℕ) (nearest : Option NearSegment) → AreTold line p limit first i nearest
    → d2 < least_below limit nearest → (k : ℕ) → first ≤ k → k < i → d2 < (segment_snap line p k).d2
all_farther line p limit first i d2 None told near k le lt = let h = told k le lt in omega (arith, near, h)
all_farther line p limit first i d2 (Some s) told near k le lt = let h = told.0.least k le lt in omega (arith, near, h)

least_within : (line : List Point) (p : Point) (limit first i : ℕ) (nearest : Option NearSegment) → AreTold line p limit first i nearest → least_below limit nearest ≤ limit
least_within line p limit first i None told = omega arith
least_within line p limit first i (Some s) told = omega (arith, told.1)

pub taken : (line : List Point) (p : Point) (limit first i below below' d2 : ℕ) (nearest nearest' : Option NearSegment)
    → first ≤ i → IsNearestSoFar line p limit first i nearest below
    → d2 ≡ (snap_segment (point_at line i) (point_at line (i + 1)) p).d2 → d2 < below
    → nearest' ≡ Some (record { segment = i; d2 = d2 }) → below' ≡ d2 → IsNearestSoFar line p limit first (i + 1) nearest' below'
taken line p limit first i below below' d2 nearest nearest' from_first is d2_near near n b =
    let at : d2 ≡ (segment_snap line p i).d2 = d2_near ∙ ap (λ (s : Snap). s.d2) (segment_after line p i) in
    let nearer : d2 < least_below limit nearest = omega (arith, near, is.below_is) in
    let farther = all_farther line p limit first i d2 nearest is.told nearer in
    let small = least_within line p limit first i nearest is.told in
    subst (λ m. IsNearestSoFar line p limit first (i + 1) m below') (sym n) (record {
      told = (
        record {
          d2_is = at;
          from_first = from_first;
          before_end = omega arith;
          earlier = farther;
          least = far_next line p d2 first i (λ k le lt. let h = farther k le lt in omega (arith, h)) (omega (arith, at));
        },
        omega (arith, nearer, small),
      );
      below_is = b;
    })

pub matched : (line : List Point) (p : Point) (limit first end : ℕ) (r : Option NearSegment) → AreTold line p limit first end r
    → MatchOption r (AreFar line p limit first end) (λ s. IsNearest line p first end s × (s.d2 < limit))
matched line p limit first end None told = told
matched line p limit first end (Some s) told = told

-- the snap to one segment, with the earlier ones before it, lies on the line
pub segment_within : (line : List Point) (p : Point) (n : ℕ) → n + 1 < length line → line_length (take (n + 1) line) + (segment_snap line p n).offset ≤ line_length line
segment_within line p n lt =
    let a : Point = point_at line n in
    let b : Point = point_at line (suc n) in
    let within = div_le (straight a b) (share a b p) (distance2 b a) (share-le a b p) in
    let e : n + 1 ≡ suc n = omega arith in
    let next : line_length (take (n + 1 + 1) line) ≡ line_length (take (n + 1) line) + straight a b
    = line_length_next line n lt ∙ ap (λ k. line_length (take (n + 1) line) + straight a (point_at line k)) e
    in
    let front = line_length_front line (n + 1 + 1) in
    omega (arith, within, next, front)

-- the snap to a line is the one to its first nearest segment
pub whole_near : (line : List Point) (p : Point) (s : NearSegment) → IsLine line → IsNearest line p 0 (length line - 1) s
    → snap_line line p ≡ after (line_length (take (suc s.segment) line)) (segment_snap line p s.segment)
whole_near [] p s lawful h = absurd (omega (arith, lawful.two))
whole_near (a ∷ []) p s lawful h = absurd (omega (arith, lawful.two))
whole_near (a ∷ b ∷ rest) p s lawful h =
    snap_from-is a b rest p s.segment (omega (arith, h.before_end))
    (λ i lt. let f = h.earlier i (omega arith) lt in omega (arith, f, h.d2_is))
    (λ i lt. let f = h.least i (omega arith) (omega (arith, lt)) in omega (arith, f, h.d2_is))

-- some segment is the first of the nearest
nearest_of : (line : List Point) (p : Point) (n : ℕ) → (s : NearSegment) × IsNearest line p 0 (suc n) s
nearest_of line p zero =
    let s : NearSegment = record { segment = 0; d2 = (segment_snap line p 0).d2 } in (
      s,
      record {
        d2_is = refl;
        from_first = omega arith;
        before_end = omega arith;
        earlier = λ i le lt. absurd (omega (arith, lt));
        least = λ i le lt. let e : 0 ≡ i = omega (arith, lt) in subst (λ v. s.d2 ≤ (segment_snap line p v).d2) e (omega arith);
      },
    )
nearest_of line p (suc n) =
    let before = nearest_of line p n in
    let s : NearSegment = before.0 in
    let d2 : ℕ = (segment_snap line p (suc n)).d2 in
    let e : suc n + 1 ≡ suc (suc n) = omega arith in
    ⊎_elim
    (λ nearer.
    let t : NearSegment = record { segment = suc n; d2 = d2 } in
    let farther = λ (i : ℕ) (le : 0 ≤ i) (lt : i < suc n). let f = before.1.least i le lt in let g : d2 < (segment_snap line p i).d2 = omega (arith, f, nearer) in g in (
      t,
      record {
        d2_is = refl;
        from_first = omega arith;
        before_end = omega arith;
        earlier = farther;
        least = subst (λ v. AreFar line p d2 0 v) e (far_next line p d2 0 (suc n) (λ i le lt. let f = farther i le lt in omega (arith, f)) (omega arith));
      },
    ))
    (λ same. (
      s,
      record {
        d2_is = before.1.d2_is;
        from_first = omega arith;
        before_end = omega (arith, before.1.before_end);
        earlier = before.1.earlier;
        least = subst (λ v. AreFar line p s.d2 0 v) e (far_next line p s.d2 0 (suc n) before.1.least same);
      },
    ))
    (cases_lt d2 s.d2)

pub snap_nearest : SnapIsTheNearest
snap_nearest line p lawful =
    let e : suc (length line - 2) ≡ length line - 1 = omega (arith, lawful.two) in
    let near = nearest_of line p (length line - 2) in
    let is : IsNearest line p 0 (length line - 1) near.0 = subst (λ v. IsNearest line p 0 v near.0) e near.1 in
    (near.0, is, whole_near line p near.0 lawful is)

-- no line is so far that it has no nearest segment
pub always_below : (line : List Point) (p : Point) (r : Option NearSegment) → IsLine line → InRange p
    → MatchOption r (AreFar line p 18_446_744_073_709_551_615 0 (length line - 1)) (λ s. IsNearest line p 0 (length line - 1) s × (s.d2 < 18_446_744_073_709_551_615)) → IsSome r
always_below [] p r lawful h is = absurd (omega (arith, lawful.two))
always_below (a ∷ []) p r lawful h is = absurd (omega (arith, lawful.two))
always_below (a ∷ b ∷ rest) p None lawful h far =
    let small = snap_small a b p (lawful.in_range 0 origin (omega arith)) (lawful.in_range 1 origin (omega arith)) h (lawful.differ 0 origin (omega arith)) in
    let k = far 0 (omega arith) (omega arith) in
    absurd (omega (arith, small, k))
always_below (a ∷ b ∷ rest) p (Some s) lawful h is = refl

-- a line that a point snaps to within a distance has a segment whose box meets the square of that half side round the point
snap_from-meets : (a b : Point) (rest : List Point) (p : Point) (reach : ℕ)
    → ((i : ℕ) → i < suc (length rest) → point_at (a ∷ b ∷ rest) i ≡ point_at (a ∷ b ∷ rest) (suc i) → ⊥)
    → (snap_from a b rest p).d2 ≤ reach * reach
    → (i : ℕ) × (i < suc (length rest)) × BoxMeetsSquare (point_at (a ∷ b ∷ rest) i) (point_at (a ∷ b ∷ rest) (suc i)) p reach
snap_from-meets a b [] p reach differ h = (0, omega arith, snap_meets a b p reach (differ 0 (omega arith)) h)
snap_from-meets a b (c ∷ rest) p reach differ h =
    ⊎_elim
    (λ lt. (0, omega arith, snap_meets a b p reach (differ 0 (omega arith)) (omega (arith, lt))))
    (λ far.
    let near : (snap_from b c rest p).d2 ≤ reach * reach
    = nearer_either (λ s. s.d2 ≤ reach * reach → (snap_from b c rest p).d2 ≤ reach * reach)
    (snap_segment a b p) (after (straight a b) (snap_from b c rest p)) (λ k. absurd (omega (arith, far, k))) (λ k. k) h
    in
    let found = snap_from-meets b c rest p reach (λ i lt. differ (suc i) (omega (arith, lt))) near in
    (suc found.0, omega (arith, found.1), found.2))
    (cases_lt (snap_segment a b p).d2 (reach * reach + 1))

pub snap_line-meets : (line : List Point) (p : Point) (reach : ℕ) → IsLine line → (snap_line line p).d2 ≤ reach * reach → LineMeetsSquare line p reach
snap_line-meets [] p reach lawful h = absurd (omega (arith, lawful.two))
snap_line-meets (a ∷ []) p reach lawful h = absurd (omega (arith, lawful.two))
snap_line-meets (a ∷ b ∷ rest) p reach lawful h =
    let line = a ∷ b ∷ rest in
    let differ = λ (i : ℕ) (lt : i < suc (length rest)).
    let e : i + 1 ≡ suc i = omega arith in
    subst (λ k. point_at line i ≡ point_at line k → ⊥) e (lawful.differ i origin (omega (arith, lt)))
    in
    let found = snap_from-meets a b rest p reach differ h in
    let e : suc found.0 ≡ found.0 + 1 = omega arith in
    (found.0, omega (arith, found.1), subst (λ k. BoxMeetsSquare (point_at line found.0) (point_at line k) p reach) e found.2)
