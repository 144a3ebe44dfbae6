-- Places of a box, and of a square, lie in its cells.
use Rattle.std.proofs.Common.{ℕ, ◌+◌, ◌-◌, ◌/◌, ◌<◌, ◌≤◌, min, max, arith, ℤ, pos, negsuc, ◌-ℤ◌, ◌≤ℤ◌, ⊎_elim}
use Rattle.std.proofs.Math.Nat.{div-mul-le_self}
use Rattle.std.proofs.lemmas.Int.{ints}
use Rattle.std.proofs.lemmas.Nat.{le-div}
use Rattle.std.specs.Int.RustNames.{unsigned_abs}
use Rattle.polyline_geometry.specs.Boxes.{IsBetween}
use Rattle.grid_index.specs.Cells.{cell, shifted}

pub rises : (a z : ℤ) → unsigned_abs a ≤ 1_000_000_000 → a ≤ℤ z → shifted a ≤ shifted z
rises (pos a) (pos z) h k = omega (arith, ints)
rises (pos a) (negsuc z) h k = absurd (omega (arith, ints, k))
rises (negsuc a) (pos z) h k = omega (arith, ints)
rises (negsuc a) (negsuc z) h k = omega (arith, ints)

pub falls : (a z b : ℤ) → unsigned_abs a ≤ 1_000_000_000 → a ≤ℤ z → z ≤ℤ b → shifted z ≤ shifted b
falls (pos a) (pos z) (pos b) h k l = omega (arith, ints)
falls (pos a) (pos z) (negsuc b) h k l = absurd (omega (arith, ints, l))
falls (pos a) (negsuc z) b h k l = absurd (omega (arith, ints, k))
falls (negsuc a) (pos z) (pos b) h k l = omega (arith, ints)
falls (negsuc a) (pos z) (negsuc b) h k l = absurd (omega (arith, ints, l))
falls (negsuc a) (negsuc z) (pos b) h k l = omega (arith, ints)
falls (negsuc a) (negsuc z) (negsuc b) h k l = omega (arith, ints)

-- where a coordinate lies between two others, so does what stands for it
pub between : (a b z : ℤ) → unsigned_abs a ≤ 1_000_000_000 → unsigned_abs b ≤ 1_000_000_000 → IsBetween a b z
    → (min (shifted a) (shifted b) ≤ shifted z) × (shifted z ≤ max (shifted a) (shifted b))
between a b z h k l =
    ⊎_elim
    (λ up. let r = rises a z h up.0 in let f = falls a z b h up.0 up.1 in (omega (arith, r), omega (arith, f)))
    (λ down. let r = rises b z k down.0 in let f = falls b z a k down.0 down.1 in (omega (arith, r), omega (arith, f)))
    l

-- where a coordinate differs from another by at most `reach`, so does what stands for it
pub around : (p z : ℤ) (reach : ℕ) → unsigned_abs p ≤ 1_000_000_000 → reach ≤ 1_000_000 → unsigned_abs (p -ℤ z) ≤ reach
    → (shifted p - reach ≤ shifted z) × (shifted z ≤ shifted p + reach)
around (pos p) (pos z) reach h k l = (omega (arith, ints), omega (arith, ints))
around (pos p) (negsuc z) reach h k l = (omega (arith, ints), omega (arith, ints))
around (negsuc p) (pos z) reach h k l = (omega (arith, ints), omega (arith, ints))
around (negsuc p) (negsuc z) reach h k l = (omega (arith, ints), omega (arith, ints))

pub div_rises : (x y n : ℕ) → 0 < n → x ≤ y → x / n ≤ y / n
div_rises x y n h k = let m = div-mul-le_self x n in le-div (x / n) y n h (omega (arith, m, k))

-- a coordinate that lies from `low` to `high`, both shifted, has a cell from that of `low` to that of `high`
pub cell_within : (side low high : ℕ) (z : ℤ) → 1 ≤ side → low ≤ shifted z → shifted z ≤ high
    → (low / side ≤ cell side z) × (cell side z < high / side + 1)
cell_within side low high z h l k =
    let a = div_rises low (shifted z) side (omega (arith, h)) l in
    let b = div_rises (shifted z) high side (omega (arith, h)) k in
    (a, omega (arith, b))
