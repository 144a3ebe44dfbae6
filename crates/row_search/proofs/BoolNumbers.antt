-- A Bool as a number.
use Rattle.std.proofs.Common.{◌≡◌, ℕ, ◌≤◌, Bool, true, false, cond, arith}
use Rattle.std.specs.Int.{from_bool}

pub one_or_none : (b : Bool) (n : ℕ) → n ≡ from_bool b → n ≡ cond b 1 0
one_or_none true n is = is
one_or_none false n is = is

pub one_at_most : (b : Bool) (n : ℕ) → n ≡ from_bool b → n ≤ 1
one_at_most true n is = omega (arith, is)
one_at_most false n is = omega (arith, is)
