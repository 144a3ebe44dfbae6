-- Parts of numbers.
use Rattle.std.specs.Prelude.{ℕ, ◌<◌, ◌≤◌, ℤ, pos, ◌≤ℤ◌, ◌⊎◌}

-- q lies between 0 and z
abbrev pub IsPartOf : ℤ → ℤ → Type 0
IsPartOf z q = ((pos 0 ≤ℤ q) × (q ≤ℤ z)) ⊎ ((z ≤ℤ q) × (q ≤ℤ pos 0))

-- t of n, where n is a squared length
pub record IsShare (t n : ℕ) : Type 0 where
  pub within : t ≤ n
  pub some : 0 < n
  pub in_range : n ≤ 8_000_000_000_000_000_000
