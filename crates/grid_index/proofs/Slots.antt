-- Slots are within their table.
use Rattle.std.proofs.Common.{ℕ, ◌+◌, ◌*◌, ◌%◌, ◌<◌, ◌≤◌, arith, mul-le-mul}
use Rattle.grid_index.specs.Cells.{slot}

row_within : (w r c : ℕ) → r < w → c < w → r * w + c < w * w
row_within w r c h k = let m : (r + 1) * w ≤ w * w = mul-le-mul (omega (arith, h)) (omega arith) in omega (arith, m, k)

pub slot_within : (w c r : ℕ) → 1 ≤ w → slot w c r < w * w
slot_within w c r h = row_within w (r % w) (c % w) (omega (arith, h)) (omega (arith, h))

pub slot_small : (w c r : ℕ) → 1 ≤ w → w ≤ 65_536 → slot w c r < 4_294_967_296
slot_small w c r h k =
    let s = slot_within w c r h in
    let m : w * w ≤ 65_536 * 65_536 = mul-le-mul k k in
    omega (arith, s, m)
