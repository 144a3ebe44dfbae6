-- The ranges of the options, and their defaults.
use Rattle.std.specs.Prelude.{ℕ, ◌≤◌}
use Rattle.cost_model.specs.declared.params.Params.{Params}

-- n is one of low..=high
abbrev pub IsWithin : ℕ → ℕ → ℕ → Type 0
IsWithin low high n = (low ≤ n) × (n ≤ high)

-- each option is in its range
pub record IsAccepted (p : Params) : Type 0 where
  pub k : IsWithin 1 32 p.k
  pub radius : IsWithin 1 100_000 p.radius
  pub sigma : IsWithin 1 100_000 p.sigma
  pub beta : IsWithin 1 1_000_000 p.beta
  pub bound : p.bound ≤ 10_000_000
  pub workers : IsWithin 1 64 p.workers
  pub back : p.back ≤ 100_000

-- the options of words that give none
abbrev pub default_options : Params
default_options = record {
  k = 8;
  radius = 10_000;
  sigma = 1_000;
  beta = 1_000;
  bound = 300_000;
  workers = 4;
  back = 0;
  gap = 4_294_967_295;
}
