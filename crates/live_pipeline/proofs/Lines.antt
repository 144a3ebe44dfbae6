-- The table of lines has every line with which a plan of words may end.
use Rattle.std.proofs.Common.{◌≡◌, ◌≢◌, ℕ, List, Some, None, refl, sym, subst}
use Rattle.std.specs.declared.option.Option.{Option}
use Rattle.command_line.specs.Work.{PlainWork}
use Rattle.command_line.specs.Work.PlainWork.{check_files, follow_files, match_files, match_town, prove_files, stream_files, table_of_network}
use Rattle.cost_model.specs.declared.params.Params.{Params}
use Rattle.follow_work.specs.Alone.{follow_alone, followed}
use Rattle.follow_work.specs.Follow.{follow_job, follow_plan}
use Rattle.live_pipeline.specs.Words.{asked_of_live_words, with_follow}
use Rattle.program_frame.specs.Plan.{Plan, IsLineOf}
use Rattle.program_frame.specs.Promises.{Covers}
use Rattle.program_frame.specs.Refusals.{network_said, refusal_lines}
use Rattle.program_frame.specs.Stream.{works_traces}
use Rattle.program_frame.proofs.RefusalLines.{asked_covered, network_end, traces_end}
use Rattle.road_network.specs.declared.limits.NetworkLimits.{NetworkLimits}
use Rattle.road_network.specs.declared.limits.NetworkLimits.TheVariants.{Standard}
use Rattle.trace_reader.specs.Reading.{file_fault}

same_lines : (status : ℕ) (line : List ℕ) → refusal_lines status line → refusal_lines status line
same_lines status line is = is

follow_end : (limits : NetworkLimits) (network traces : List ℕ) (options : Params) (status : ℕ) (line : List ℕ) → status ≢ 0 → IsLineOf (follow_plan limits network traces options) status line → refusal_lines status line
follow_end limits network traces options status line refused is =
    network_end refusal_lines same_lines limits is.0 (network_said limits is.0) (λ net. works_traces traces (follow_job (record { network = net; params = options }))) status line refl
    (λ net more. traces_end _ _ more.0 (file_fault more.0) status line refl refused more.1) is.1

work_end : (work : PlainWork) (options : Params) (known : Plan) (status : ℕ) (line : List ℕ) → followed work options ≡ Some known → status ≢ 0 → IsLineOf known status line → refusal_lines status line
work_end (follow_files network traces) options known status line planned refused is =
    follow_end Standard network traces options status line refused (subst (λ (p : Option Plan). line_of p) (sym planned) is)
  where
    line_of : Option Plan → Type 0
    line_of None = ⊥
    line_of (Some p) = IsLineOf p status line
work_end (match_files network traces table) options known status line planned refused is = absurd cc
work_end (stream_files network traces idle) options known status line planned refused is = absurd cc
work_end (prove_files network traces) options known status line planned refused is = absurd cc
work_end (check_files network traces certificate) options known status line planned refused is = absurd cc
work_end (table_of_network network) options known status line planned refused is = absurd cc
work_end (match_town side traces seed) options known status line planned refused is = absurd cc

pub lines_covered : (words : List (List ℕ)) → Covers refusal_lines (asked_of_live_words words)
lines_covered words =
    asked_covered refusal_lines same_lines follow_alone (with_follow words) (λ command known status line planned refused is. work_end command.work command.options known status line planned refused is)
