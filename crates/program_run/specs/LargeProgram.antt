-- A network file that keeps the standard limits: `fmm_large` does the same with it as `fmm`.
use Rattle.std.specs.Prelude.{◌≡◌, ℕ, List, Option, IfSome}
use Rattle.program_frame.specs.Plan.{IsFileOf, outcome_of, plan_of}
use Rattle.program_frame.specs.declared.stop.File.TheVariants.{Network}
use Rattle.program_run.specs.Words.{asked_by, asked_within}
use Rattle.road_network.specs.LimitLaws.{KeepsStandardLimits}
use Rattle.road_network.specs.declared.limits.NetworkLimits.TheVariants.{Large}

-- the network file that the words name, if there is such a file, keeps the standard limits
abbrev pub IsNetworkStandard : List (List ℕ) → (List ℕ → Option (List ℕ)) → Type 0
IsNetworkStandard words files =
    (name : List ℕ)
    → IsFileOf (plan_of (asked_by words)) Network name
    → IfSome (files name) KeepsStandardLimits

-- then the words have the same outcome within the large limits, for the same files
abbrev pub LargeLimitsChangeNothing : Type 0
LargeLimitsChangeNothing =
    (words : List (List ℕ)) (files : List ℕ → Option (List ℕ))
    → IsNetworkStandard words files
    → outcome_of (plan_of (asked_within Large words)) files
    ≡ outcome_of (plan_of (asked_by words)) files
