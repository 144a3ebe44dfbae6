-- `town N T SEED`: what the traces of a generated town come to, matched on its network.
use Rattle.std.specs.Prelude.{ℕ, List, ◌++◌, codes}
use Rattle.std.specs.List.{sum_by}
use Rattle.std.specs.Result.{result_unwrap_or}
use Rattle.cost_model.specs.declared.params.Params.{Params}
use Rattle.decimal_text.specs.Number.{decimal}
use Rattle.match_text.specs.declared.matched.MatchedTrace.{MatchedTrace}
use Rattle.program_frame.specs.Outcome.{done_with}
use Rattle.program_frame.specs.Plan.{Plan}
use Rattle.program_frame.specs.Plan.Plan.{ends}
use Rattle.road_network.specs.Net.{Net}
use Rattle.road_network.specs.NetworkFile.{network_of, no_net}
use Rattle.road_network.specs.declared.limits.NetworkLimits.TheVariants.{Standard}
use Rattle.town.specs.Network.{network_text}
use Rattle.town.specs.Traces.{traces_text}
use Rattle.trace_match.specs.Match.{match_of}
use Rattle.trace_reader.specs.Reading.{file_traces}
use Rattle.trace_reader.specs.declared.trace.Trace.{Trace}
use Rattle.trace_match.specs.Setting.{Setting}
use Rattle.program_frame.specs.Counts.{total_of}
use Rattle.trace_match.specs.Totals.{piece_count, asked_count}

-- the sum of the costs of the pieces of a match
abbrev pub cost_of : MatchedTrace → ℕ
cost_of matched = sum_by (λ piece. piece.cost) matched.pieces

abbrev pub costs_of : Setting → List Trace → ℕ
costs_of on traces = sum_by (λ trace. cost_of (match_of on.network on.params trace)) traces

abbrev pub cost_line : ℕ → List ℕ
cost_line cost = codes "cost " ++ decimal cost ++ codes "\n"

-- the total line of `match`, and then the sum of all costs
abbrev pub town_text : Setting → List Trace → List ℕ
town_text on traces = total_of (piece_count on) (asked_count on) traces ++ cost_line (costs_of on traces)

-- the network that a file says
abbrev pub network_in : List ℕ → Net
network_in bytes = result_unwrap_or (network_of Standard bytes) no_net

-- what is written of a town
abbrev pub report_of_town : (side traces seed : ℕ) (options : Params) → List ℕ
report_of_town side traces seed options =
    town_text (record { network = network_in (network_text side); params = options })
    (file_traces (traces_text side traces seed))

-- no file is read: the bytes of the town are its files, and they have no fault
abbrev pub town_plan : (side traces seed : ℕ) (options : Params) → Plan
town_plan side traces seed options = ends (done_with (report_of_town side traces seed options))
