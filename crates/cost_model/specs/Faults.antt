-- Which option is out of its range.
use Rattle.std.specs.Prelude.{◌≤◌}
use Rattle.cost_model.specs.declared.params.Params.{Params}
use Rattle.cost_model.specs.declared.params.ParamFault.{ParamFault}
use Rattle.cost_model.specs.declared.params.ParamFault.TheVariants.{KRange, RadiusRange, SigmaRange, BetaRange, BoundRange, WorkersRange, BackRange}
use Rattle.cost_model.specs.Options.{IsWithin}

-- the option that the fault names is out of its range, and those before it are in theirs
abbrev pub IsFirstFault : Params → ParamFault → Type 0
IsFirstFault p KRange = ¬ IsWithin 1 32 p.k
IsFirstFault p RadiusRange = IsWithin 1 32 p.k × ¬ IsWithin 1 100_000 p.radius
IsFirstFault p SigmaRange =
    IsWithin 1 32 p.k × IsWithin 1 100_000 p.radius × ¬ IsWithin 1 100_000 p.sigma
IsFirstFault p BetaRange =
    IsWithin 1 32 p.k
    × IsWithin 1 100_000 p.radius
    × IsWithin 1 100_000 p.sigma
    × ¬ IsWithin 1 1_000_000 p.beta
IsFirstFault p BoundRange =
    IsWithin 1 32 p.k
    × IsWithin 1 100_000 p.radius
    × IsWithin 1 100_000 p.sigma
    × IsWithin 1 1_000_000 p.beta
    × ¬ (p.bound ≤ 10_000_000)
IsFirstFault p WorkersRange =
    IsWithin 1 32 p.k
    × IsWithin 1 100_000 p.radius
    × IsWithin 1 100_000 p.sigma
    × IsWithin 1 1_000_000 p.beta
    × (p.bound ≤ 10_000_000)
    × ¬ IsWithin 1 64 p.workers
IsFirstFault p BackRange =
    IsWithin 1 32 p.k
    × IsWithin 1 100_000 p.radius
    × IsWithin 1 100_000 p.sigma
    × IsWithin 1 1_000_000 p.beta
    × (p.bound ≤ 10_000_000)
    × IsWithin 1 64 p.workers
    × ¬ (p.back ≤ 100_000)
