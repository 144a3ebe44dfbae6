-- `match NET TRACES`: what the bytes of a trace file give, matched on a network.
use Rattle.std.specs.Prelude.{ℕ, List}
use Rattle.std.specs.List.{flat_map}
use Rattle.std.proofs.Common.{refl}
use Rattle.std.proofs.lemmas.List.Concat.{flat_map-append}
use Rattle.cost_model.specs.declared.params.Params.{Params}
use Rattle.match_text.specs.MatchText.{text_of}
use Rattle.program_frame.specs.Counts.{total_of}
use Rattle.program_frame.specs.NoRefusal.{no_line, no_refusal}
use Rattle.program_frame.specs.Jobs.{JobText}
use Rattle.program_frame.specs.Plan.{Plan, loads}
use Rattle.program_frame.specs.Refusals.{network_said}
use Rattle.program_frame.specs.Stream.{works_traces}
use Rattle.program_frame.specs.declared.stop.File.TheVariants.{Network}
use Rattle.road_network.specs.Limits.{file_limit}
use Rattle.road_network.specs.declared.limits.NetworkLimits.{NetworkLimits}
use Rattle.trace_match.specs.Match.{match_of}
use Rattle.trace_reader.specs.declared.trace.Trace.{Trace}
use Rattle.trace_match.specs.Setting.{Setting}
use Rattle.trace_match.specs.Totals.{piece_count, asked_count}

-- the texts of traces, in their order
abbrev pub texts_of : Setting → List Trace → List ℕ
texts_of on traces = flat_map (λ trace. text_of (match_of on.network on.params trace)) traces

-- the texts of the traces, and then the total line; nothing is refused but by the file
abbrev pub match_text : Setting → JobText
match_text on = record {
  texts = texts_of on;
  refusal = λ traces. no_refusal;
  ending = total_of (piece_count on) (asked_count on);
  nothing = refl;
  allowed = refl;
  begins = λ front back. (texts_of on back, flat_map-append (λ trace. text_of (match_of on.network on.params trace)) front back);
  stays = λ front back line is. absurd (no_line line is);
}

-- the network is read and accepted, and then the traces are read and matched
abbrev pub match_plan : NetworkLimits → (network traces : List ℕ) (options : Params) → Plan
match_plan limits network traces options =
    loads Network network (file_limit limits) 5 (network_said limits)
    (λ net. works_traces traces (match_text (record { network = net; params = options })))
