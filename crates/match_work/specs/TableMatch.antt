-- `match NET TRACES --table FILE`: the plan of `match`, with a table file before the traces.
use Rattle.std.specs.Prelude.{ℕ, List}
use Rattle.cost_model.specs.declared.params.Params.{Params}
use Rattle.match_work.specs.Matches.{match_text}
use Rattle.program_frame.specs.Plan.{Plan, loads}
use Rattle.program_frame.specs.Refusals.{network_said}
use Rattle.program_frame.specs.Stream.{works_traces}
use Rattle.program_frame.specs.declared.stop.File.TheVariants.{Network}
use Rattle.road_network.specs.Limits.{file_limit}
use Rattle.road_network.specs.declared.limits.NetworkLimits.{NetworkLimits}
use Rattle.table_work.specs.Preload.{preloads}

-- the network is read and accepted, then the table file, and then the traces are read and matched
abbrev pub table_match_plan : NetworkLimits → (network table traces : List ℕ) (options : Params) → Plan
table_match_plan limits network table traces options =
    loads Network network (file_limit limits) 5 (network_said limits)
    (λ net. preloads table net options.bound
    (works_traces traces (match_text (record { network = net; params = options }))))
