-- How many digits a number of 32 bits has.
use Rattle.std.proofs.Common.{ℕ, ◌^◌, ◌<◌, ◌≤◌, length, arith}
use Rattle.std.proofs.lemmas.Fmt.{decimal_nonempty, length-decimal-le}
use Rattle.decimal_text.specs.Number.{decimal}

-- ten digits at most, and one at least
pub few_digits : (n : ℕ) → n < 2 ^ 32 → (1 ≤ length (decimal n)) × (length (decimal n) ≤ 10)
few_digits n small = (decimal_nonempty n (omega arith), length-decimal-le 10 n (omega arith) (omega arith) (omega arith))
