-- `follow NET TRACES`: what the bytes of a trace file give, followed on a network position by position.
use Rattle.std.specs.Prelude.{ℕ, List}
use Rattle.std.specs.List.{flat_map}
use Rattle.std.proofs.Common.{refl}
use Rattle.std.proofs.lemmas.List.Concat.{flat_map-append}
use Rattle.cost_model.specs.declared.params.Params.{Params}
use Rattle.program_frame.specs.Jobs.{JobText}
use Rattle.program_frame.specs.Plan.{Plan, loads}
use Rattle.program_frame.specs.Refusals.{network_said}
use Rattle.program_frame.specs.Stream.{works_traces}
use Rattle.program_frame.specs.declared.stop.File.TheVariants.{Network}
use Rattle.road_network.specs.Limits.{file_limit}
use Rattle.road_network.specs.declared.limits.NetworkLimits.{NetworkLimits}
use Rattle.trace_reader.specs.declared.trace.Trace.{Trace}
use Rattle.trace_sessions.specs.FollowText.{follow_text}
use Rattle.trace_match.specs.Setting.{Setting}
use Rattle.program_frame.specs.Counts.{total_of}
use Rattle.program_frame.specs.NoRefusal.{no_line, no_refusal}
use Rattle.trace_match.specs.Totals.{piece_count, asked_count}

-- the follow texts of traces, in their order
abbrev pub followed_of : Setting → List Trace → List ℕ
followed_of on traces = flat_map (follow_text on.network on.params) traces

-- the follow texts, and then the total line of `match`; nothing is refused but by the file
abbrev pub follow_job : Setting → JobText
follow_job on = record {
  texts = followed_of on;
  refusal = λ traces. no_refusal;
  ending = total_of (piece_count on) (asked_count on);
  nothing = refl;
  allowed = refl;
  begins = λ front back. (followed_of on back, flat_map-append (follow_text on.network on.params) front back);
  stays = λ front back line is. absurd (no_line line is);
}

-- the network is read and accepted, and then the traces are read and followed
abbrev pub follow_plan : NetworkLimits → (network traces : List ℕ) (options : Params) → Plan
follow_plan limits network traces options =
    loads Network network (file_limit limits) 5 (network_said limits)
    (λ net. works_traces traces (follow_job (record { network = net; params = options })))
