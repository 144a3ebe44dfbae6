-- `streams NET TRACES`: what the bytes of a trace file give, where its traces are fragments of ids.
use Rattle.std.specs.Prelude.{ℕ, List, [], ◌∷◌, ◌++◌, if◌then◌else◌, codes, map, nat_lt, option_map}
use Rattle.std.specs.declared.option.Option.{Option}
use Rattle.std.specs.List.{concat}
use Rattle.std.proofs.Common.{refl}
use Rattle.cost_model.specs.declared.params.Params.{Params}
use Rattle.decimal_text.specs.Number.{decimal}
use Rattle.program_frame.specs.Jobs.{JobText}
use Rattle.program_frame.specs.Plan.{Plan, loads}
use Rattle.program_frame.specs.Refusals.{network_said}
use Rattle.program_frame.specs.Stream.{works_traces}
use Rattle.program_frame.specs.declared.stop.File.TheVariants.{Network}
use Rattle.road_network.specs.Limits.{file_limit}
use Rattle.road_network.specs.declared.limits.NetworkLimits.{NetworkLimits}
use Rattle.trace_reader.specs.declared.trace.Trace.{Trace}
use Rattle.trace_sessions.specs.Sessions.{Pair}
use Rattle.trace_sessions.specs.StreamText.{closing_lines, full_id, points_in, stream_lines, trace_of, with_points}
use Rattle.trace_match.specs.Setting.{Setting}
use Rattle.program_frame.specs.Counts.{total_of}
use Rattle.follow_work.specs.Drives.{drives_job}
use Rattle.follow_work.specs.StreamTexts.{refusal-stays, texts-begin}
use Rattle.trace_match.specs.Totals.{piece_count, asked_count}

-- the ids of these fragments with all their fixes, in order of first appearance
abbrev pub pairs_in_order : List Trace → List Pair
pairs_in_order traces = with_points [] (points_in traces)

-- the whole trace of each id
abbrev pub whole_traces : List Trace → List Trace
whole_traces traces = map trace_of (pairs_in_order traces)

-- the lines of the positions, up to the first whose id is full
abbrev pub streamed_of : Setting → List Trace → List ℕ
streamed_of on traces = concat (stream_lines on.network on.params [] (points_in traces))

abbrev pub too_long_line : ℕ → List ℕ
too_long_line id = codes "traces id " ++ decimal id ++ codes ": trace too long" ++ 10 ∷ []

-- the refusal where an id is full
abbrev pub stream_refusal : List Trace → Option (List ℕ)
stream_refusal traces = option_map too_long_line (full_id [] (points_in traces))

-- the last lines of each id, and the total line of the whole traces
abbrev pub stream_ending : Setting → List Trace → List ℕ
stream_ending on traces =
    concat (closing_lines on.network on.params (pairs_in_order traces)) ++ total_of (piece_count on) (asked_count on) (whole_traces traces)

abbrev pub streams_job : Setting → JobText
streams_job on = record {
  texts = streamed_of on;
  refusal = stream_refusal;
  ending = stream_ending on;
  nothing = refl;
  allowed = refl;
  begins = λ front back. texts-begin on.network on.params front back;
  stays = λ front back line is. refusal-stays on.network on.params too_long_line front back line is;
}

-- the greatest number of seconds, by which no drive ends before the file does
abbrev pub never : ℕ
never = 4_294_967_295

-- drives end after this many seconds, or each id has one drive
abbrev pub streams_within : Setting → (idle : ℕ) → JobText
streams_within on idle = if nat_lt idle never then drives_job on idle else streams_job on

-- the network is read and accepted, and then the positions of the traces are taken in their order
abbrev pub streams_plan : NetworkLimits → (network traces : List ℕ) (idle : ℕ) (options : Params) → Plan
streams_plan limits network traces idle options =
    loads Network network (file_limit limits) 5 (network_said limits)
    (λ net. works_traces traces (streams_within (record { network = net; params = options }) idle))
