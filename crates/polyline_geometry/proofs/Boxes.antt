-- The snapped point lies in the box of its segment.
use Rattle.std.proofs.Common.{◌≡◌, ℕ, ◌+◌, ◌*◌, ◌<◌, ◌≤◌, inl, inr, arith, mul-le-mul, ℤ, pos, negsuc, ◌+ℤ◌, ◌-ℤ◌, ◌*ℤ◌, ◌≤ℤ◌, ⊎_elim}
use Rattle.std.proofs.lemmas.Int.{ints}
use Rattle.std.proofs.lemmas.Bool.{cases_lt}
use Rattle.std.specs.Int.{int_div_euclid}
use Rattle.std.specs.Int.RustNames.{unsigned_abs}
use Rattle.polyline_geometry.specs.declared.plane.Point.{Point}
use Rattle.polyline_geometry.specs.Plane.{InRange, along, brought_into, distance2, dot, share, snap_segment, snapped}
use Rattle.polyline_geometry.specs.inside.Parts.{IsPartOf, IsShare}
use Rattle.polyline_geometry.specs.Boxes.{BoxMeetsSquare, InBox, IsBetween}
use Rattle.polyline_geometry.proofs.Distances.{differ_apart, distance2-le}
use Rattle.polyline_geometry.proofs.Parts.{part_between}

brought_into-le : (n : ℕ) (z : ℤ) → brought_into n z ≤ n
brought_into-le n (pos k) = omega arith
brought_into-le n (negsuc k) = omega arith

pub share-le : (a b p : Point) → share a b p ≤ distance2 b a
share-le a b p = brought_into-le (distance2 b a) (dot a b p)

-- the share of a point is one of the squared length
pub is_share : (a b p : Point) → InRange a → InRange b → (a ≡ b → ⊥) → IsShare (share a b p) (distance2 b a)
is_share a b p h k differ = record {
  within = share-le a b p;
  some = differ_apart a b differ;
  in_range = distance2-le b a k h;
}

up : (a b : ℤ) (q : ℕ) → pos q ≤ℤ (b -ℤ a) → (a ≤ℤ (a +ℤ pos q)) × ((a +ℤ pos q) ≤ℤ b)
up (pos a) (pos b) q h = (omega (arith, ints, h), omega (arith, ints, h))
up (pos a) (negsuc b) q h = (omega (arith, ints, h), omega (arith, ints, h))
up (negsuc a) (pos b) q h = (omega (arith, ints, h), omega (arith, ints, h))
up (negsuc a) (negsuc b) q h = (omega (arith, ints, h), omega (arith, ints, h))

down : (a b : ℤ) (q : ℕ) → (b -ℤ a) ≤ℤ negsuc q → (b ≤ℤ (a +ℤ negsuc q)) × ((a +ℤ negsuc q) ≤ℤ a)
down (pos a) (pos b) q h = (omega (arith, ints, h), omega (arith, ints, h))
down (pos a) (negsuc b) q h = (omega (arith, ints, h), omega (arith, ints, h))
down (negsuc a) (pos b) q h = (omega (arith, ints, h), omega (arith, ints, h))
down (negsuc a) (negsuc b) q h = (omega (arith, ints, h), omega (arith, ints, h))

flat : (a b : ℤ) (q : ℕ) → (b -ℤ a) ≤ℤ pos q → pos q ≤ℤ pos 0 → (b ≤ℤ (a +ℤ pos q)) × ((a +ℤ pos q) ≤ℤ a)
flat (pos a) (pos b) q h k = (omega (arith, ints, h, k), omega (arith, ints, h, k))
flat (pos a) (negsuc b) q h k = (omega (arith, ints, h, k), omega (arith, ints, h, k))
flat (negsuc a) (pos b) q h k = (omega (arith, ints, h, k), omega (arith, ints, h, k))
flat (negsuc a) (negsuc b) q h k = (omega (arith, ints, h, k), omega (arith, ints, h, k))

part_lies : (a b q : ℤ) → IsPartOf (b -ℤ a) q → IsBetween a b (a +ℤ q)
part_lies a b (pos q) h = ⊎_elim (λ l. inl (up a b q l.1)) (λ r. inr (flat a b q r.0 r.1)) h
part_lies a b (negsuc q) h = ⊎_elim (λ l. absurd (omega (arith, ints, l.0))) (λ r. inr (down a b q r.0)) h

along_between : (a b : ℤ) (t n : ℕ) → 0 < n → t ≤ n → IsBetween a b (along a b t n)
along_between a b t n h le = part_lies a b (int_div_euclid ((b -ℤ a) *ℤ pos t) (pos n)) (part_between (b -ℤ a) t n h le)

-- the point that p snaps to
pub snapped_in_box : (a b p : Point) → (a ≡ b → ⊥) → InBox a b (snapped a b (share a b p) (distance2 b a))
snapped_in_box a b p h = record {
  x = along_between a.x b.x (share a b p) (distance2 b a) (differ_apart a b h) (share-le a b p);
  y = along_between a.y b.y (share a b p) (distance2 b a) (differ_apart a b h) (share-le a b p);
}

-- a square that is at most another is of a number that is at most the other
square-le : (x y r : ℕ) → x * x + y ≤ r * r → x ≤ r
square-le x y r h =
    ⊎_elim (λ lt. let m : (r + 1) * (r + 1) ≤ x * x = mul-le-mul (omega (arith, lt)) (omega (arith, lt)) in absurd (omega (arith, m, h))) (λ le. le) (cases_lt r x)

-- a segment that a point snaps to within a distance has a box that meets the square of that half side round the point
pub snap_meets : (a b p : Point) (reach : ℕ) → (a ≡ b → ⊥) → (snap_segment a b p).d2 ≤ reach * reach → BoxMeetsSquare a b p reach
snap_meets a b p reach differ h =
    let q : Point = snapped a b (share a b p) (distance2 b a) in (
      q,
      snapped_in_box a b p differ,
      record {
        x = square-le (unsigned_abs (p.x -ℤ q.x)) (unsigned_abs (p.y -ℤ q.y) * unsigned_abs (p.y -ℤ q.y)) reach h;
        y = square-le (unsigned_abs (p.y -ℤ q.y)) (unsigned_abs (p.x -ℤ q.x) * unsigned_abs (p.x -ℤ q.x)) reach (omega (arith, h));
      },
    )

between_small : (a b z : ℤ) (n : ℕ) → unsigned_abs a ≤ n → unsigned_abs b ≤ n → IsBetween a b z → unsigned_abs z ≤ n
between_small (pos a) (pos b) (pos z) n h k l = ⊎_elim (λ u. omega (arith, ints, u.1)) (λ u. omega (arith, ints, u.1)) l
between_small (pos a) (pos b) (negsuc z) n h k l = ⊎_elim (λ u. absurd (omega (arith, ints, u.0))) (λ u. absurd (omega (arith, ints, u.0))) l
between_small (pos a) (negsuc b) (pos z) n h k l = ⊎_elim (λ u. absurd (omega (arith, ints, u.1))) (λ u. omega (arith, ints, u.1)) l
between_small (pos a) (negsuc b) (negsuc z) n h k l = ⊎_elim (λ u. absurd (omega (arith, ints, u.0))) (λ u. omega (arith, ints, u.0)) l
between_small (negsuc a) (pos b) (pos z) n h k l = ⊎_elim (λ u. omega (arith, ints, u.1)) (λ u. absurd (omega (arith, ints, u.1))) l
between_small (negsuc a) (pos b) (negsuc z) n h k l = ⊎_elim (λ u. omega (arith, ints, u.0)) (λ u. absurd (omega (arith, ints, u.0))) l
between_small (negsuc a) (negsuc b) (pos z) n h k l = ⊎_elim (λ u. absurd (omega (arith, ints, u.1))) (λ u. absurd (omega (arith, ints, u.1))) l
between_small (negsuc a) (negsuc b) (negsuc z) n h k l = ⊎_elim (λ u. omega (arith, ints, u.0)) (λ u. omega (arith, ints, u.0)) l

-- the box of a segment between points in range is in range
pub box_in_range : (a b q : Point) → InRange a → InRange b → InBox a b q → InRange q
box_in_range a b q h k inside = record {
  x_abs = between_small a.x b.x q.x 1_000_000_000 h.x_abs k.x_abs inside.x;
  y_abs = between_small a.y b.y q.y 1_000_000_000 h.y_abs k.y_abs inside.y;
}

-- no snap between points in range is farther than this
pub snap_small : (a b p : Point) → InRange a → InRange b → InRange p → (a ≡ b → ⊥) → (snap_segment a b p).d2 ≤ 8_000_000_000_000_000_000
snap_small a b p h k l differ =
    let q : Point = snapped a b (share a b p) (distance2 b a) in
    distance2-le p q l (box_in_range a b q h k (snapped_in_box a b p differ))
