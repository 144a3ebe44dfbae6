-- The plane: distances, snaps and lines, over whole centimetres.
use Rattle.std.specs.Prelude.{◌≡◌, ℕ, zero, suc, ◌+◌, ◌*◌, ◌/◌, ◌≤◌, List, [], ◌∷◌, length, slice_index_or, All, min, nat_le, if◌then◌else◌, ℤ, pos, negsuc, ◌+ℤ◌, ◌-ℤ◌, ◌*ℤ◌}
use Rattle.std.specs.List.{AllAdjacentBelow}
use Rattle.std.specs.Int.{int_div_euclid}
use Rattle.std.specs.Int.RustNames.{unsigned_abs}
use Rattle.polyline_geometry.specs.declared.plane.Point.{Point}
use Rattle.polyline_geometry.specs.declared.plane.Snap.{Snap}

-- the greatest number, of at most k, whose square is at most n
abbrev pub root_up_to : ℕ → ℕ → ℕ
root_up_to n zero = zero
root_up_to n (suc k) = if nat_le (suc k * suc k) n then suc k else root_up_to n k

-- the greatest r with r * r ≤ n
unfoldable pub root : ℕ → ℕ
root n = root_up_to n n

-- a point has coordinates of at most 1,000,000,000 each way
pub record InRange (p : Point) : Type 0 where
  pub x_abs : unsigned_abs p.x ≤ 1_000_000_000
  pub y_abs : unsigned_abs p.y ≤ 1_000_000_000

-- the ends of a segment: in range, and not the same point
pub record AreEnds (a b : Point) : Type 0 where
  pub a_in : InRange a
  pub b_in : InRange b
  pub differ : a ≡ b → ⊥

abbrev pub square : ℤ → ℕ
square z = unsigned_abs z * unsigned_abs z

-- the squared distance of two points
abbrev pub distance2 : Point → Point → ℕ
distance2 a b = square (a.x -ℤ b.x) + square (a.y -ℤ b.y)

-- the straight distance of two points
abbrev pub straight : Point → Point → ℕ
straight a b = root (distance2 a b)

-- (P - A) · (B - A)
abbrev pub dot : Point → Point → Point → ℤ
dot a b p = (p.x -ℤ a.x) *ℤ (b.x -ℤ a.x) +ℤ (p.y -ℤ a.y) *ℤ (b.y -ℤ a.y)

-- a number brought into 0..=n
abbrev pub brought_into : ℕ → ℤ → ℕ
brought_into n (pos k) = min k n
brought_into n (negsuc k) = 0

-- how far along the segment from a to b the point is, as t of n
abbrev pub share : Point → Point → Point → ℕ
share a b p = brought_into (distance2 b a) (dot a b p)

-- t of n of the way from one coordinate to another, rounded towards minus infinity
abbrev pub along : ℤ → ℤ → ℕ → ℕ → ℤ
along a b t n = a +ℤ int_div_euclid ((b -ℤ a) *ℤ pos t) (pos n)

-- the point of the segment from a to b that is t of n along
abbrev pub snapped : Point → Point → ℕ → ℕ → Point
snapped a b t n = record { x = along a.x b.x t n; y = along a.y b.y t n }

-- the snap of p to the segment from a to b, where that is t of n along
abbrev pub snap_at : Point → Point → Point → ℕ → ℕ → Snap
snap_at a b p t n = record { d2 = distance2 p (snapped a b t n); offset = straight a b * t / n }

-- the snap of p to the segment from a to b
abbrev pub snap_segment : Point → Point → Point → Snap
snap_segment a b p = snap_at a b p (share a b p) (distance2 b a)

-- the length of the line from a on through these points
abbrev pub length_from : Point → List Point → ℕ
length_from a [] = 0
length_from a (b ∷ rest) = straight a b + length_from b rest

-- the length of a line: the sum of the straight distances of neighbouring points
abbrev pub line_length : List Point → ℕ
line_length [] = 0
line_length (a ∷ rest) = length_from a rest

-- the snap that is no farther, the first of two as near
abbrev pub nearer : Snap → Snap → Snap
nearer s t = if nat_le s.d2 t.d2 then s else t

-- the snap to a line, as one to a longer line that has this length before it
abbrev pub after : ℕ → Snap → Snap
after before s = record { d2 = s.d2; offset = before + s.offset }

-- the snap of p to the line from a to b and on through these points
abbrev pub snap_from : Point → Point → List Point → Point → Snap
snap_from a b [] p = snap_segment a b p
snap_from a b (c ∷ rest) p =
    nearer (snap_segment a b p) (after (straight a b) (snap_from b c rest p))

-- the snap of p to a line: the one to the nearest segment, the first of several, with the lengths
-- of the earlier segments added to its offset; (0, 0) where there is no segment
abbrev pub snap_line : List Point → Point → Snap
snap_line [] p = record { d2 = 0; offset = 0 }
snap_line (a ∷ []) p = record { d2 = 0; offset = 0 }
snap_line (a ∷ b ∷ rest) p = snap_from a b rest p

-- the point of a line at a place, from 0
abbrev pub point_at : List Point → ℕ → Point
point_at line i = slice_index_or line i (record { x = pos 0; y = pos 0 })

-- a lawful line: at least two points, each in range and other than the next
pub record IsLine (line : List Point) : Type 0 where
  pub two : 2 ≤ length line
  pub in_range : All InRange line
  pub differ : AllAdjacentBelow (λ a b. a ≡ b → ⊥) line (length line)
