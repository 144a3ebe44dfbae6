-- The plan that words ask for, within the limits of a program.
use Rattle.std.specs.Prelude.{ℕ, List, map, Option, Some, None, Result, String, string_bytes}
use Rattle.command_line.specs.Work.{PlainCommand, PlainWork}
use Rattle.command_line.specs.Work.PlainWork.{check_files, follow_files, match_files, match_town, prove_files, stream_files, table_of_network}
use Rattle.command_line.specs.Words.{command_of}
use Rattle.cost_model.specs.declared.params.Params.{Params}
use Rattle.program_frame.specs.Asked.{Plans, asked_of}
use Rattle.program_frame.specs.Plan.{Plan}
use Rattle.road_network.specs.declared.limits.NetworkLimits.{NetworkLimits}
use Rattle.road_network.specs.declared.limits.NetworkLimits.TheVariants.{Standard}
use Rattle.follow_work.specs.Follow.{follow_plan}
use Rattle.check_work.specs.Check.{check_plan}
use Rattle.match_work.specs.Matches.{match_plan}
use Rattle.prove_work.specs.Prove.{prove_plan}
use Rattle.follow_work.specs.Streams.{streams_plan}
use Rattle.match_work.specs.TableMatch.{table_match_plan}
use Rattle.table_work.specs.Table.{table_plan}
use Rattle.match_work.specs.Towns.{town_plan}

-- `match` with a table file, or without one
abbrev pub match_files_plan : NetworkLimits → (network traces : List ℕ) → Option (List ℕ) → Params
    → Plan
match_files_plan limits network traces None options = match_plan limits network traces options
match_files_plan limits network traces (Some table) options =
    table_match_plan limits network table traces options

-- the plan of a work with these options: a row for each command
abbrev pub work_plan : NetworkLimits → PlainWork → Params → Plan
work_plan limits (match_files network traces table) options =
    match_files_plan limits network traces table options
work_plan limits (follow_files network traces) options = follow_plan limits network traces options
work_plan limits (stream_files network traces idle) options =
    streams_plan limits network traces idle options
work_plan limits (prove_files network traces) options = prove_plan limits network traces options
work_plan limits (check_files network traces certificate) options =
    check_plan limits network traces certificate options
work_plan limits (table_of_network network) options = table_plan limits network options
work_plan limits (match_town side traces seed) options = town_plan side traces seed options

abbrev pub command_plan : NetworkLimits → PlainCommand → Plan
command_plan limits command = work_plan limits command.work command.options

-- every command is known
abbrev pub every_work : NetworkLimits → Plans
every_work limits command = Some (command_plan limits command)

-- the plan that words ask for, or the line of their refusal
abbrev pub asked_within : NetworkLimits → List (List ℕ) → Result Plan (List ℕ)
asked_within limits words = asked_of (every_work limits) (command_of words)

-- that of `fmm`
abbrev pub asked_by : List (List ℕ) → Result Plan (List ℕ)
asked_by words = asked_within Standard words

-- the same of words as they are handed to a run
abbrev pub asked_plan_within : {Z : Type 0} → NetworkLimits → List (String Z)
    → Result Plan (List ℕ)
asked_plan_within limits words = asked_within limits (map string_bytes words)

abbrev pub asked_plan : {Z : Type 0} → List (String Z) → Result Plan (List ℕ)
asked_plan words = asked_plan_within Standard words
