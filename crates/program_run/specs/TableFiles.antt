-- A table file that is accepted changes nothing that a run writes.
use Rattle.std.specs.Prelude.{◌≡◌, ◌≢◌, ℕ, List, Option, Some}
use Rattle.cost_model.specs.declared.params.Params.{Params}
use Rattle.program_frame.specs.Outcome.{Outcome}
use Rattle.program_frame.specs.Plan.{outcome_of}
use Rattle.road_network.specs.declared.limits.NetworkLimits.{NetworkLimits}
use Rattle.match_work.specs.Matches.{match_plan}
use Rattle.match_work.specs.TableMatch.{table_match_plan}

-- what `match` with a table file comes to, but for a refusal of that file, it comes to without it
abbrev pub TableFilesChangeNothing : Type 0
TableFilesChangeNothing =
    (limits : NetworkLimits) (network traces table : List ℕ) (options : Params)
    (files : List ℕ → Option (List ℕ)) (o : Outcome)
    → outcome_of (table_match_plan limits network table traces options) files ≡ Some o
    → o.status ≢ 9
    → outcome_of (match_plan limits network traces options) files ≡ Some o
