-- Where `streams` is done: the lines of each id are what `follow` writes of its trace, and the last
-- line is the total line of these traces.
use Rattle.std.specs.Prelude.{◌≡◌, ℕ, ◌<◌, List, [], ◌∷◌, ◌++◌, Option, Some, None, Ok, length, nat_eq}
use Rattle.std.specs.List.{filter}
use Rattle.cost_model.specs.declared.params.Params.{Params}
use Rattle.program_frame.specs.Counts.{total_of}
use Rattle.program_frame.specs.Outcome.{Outcome, bytes_seen}
use Rattle.program_frame.specs.Plan.{outcome_of}
use Rattle.program_frame.specs.Refusals.{network_said, trace_limit}
use Rattle.road_network.specs.Limits.{file_limit}
use Rattle.road_network.specs.Net.{Net}
use Rattle.road_network.specs.declared.limits.NetworkLimits.{NetworkLimits}
use Rattle.trace_match.specs.Setting.{Setting}
use Rattle.trace_match.specs.Totals.{piece_count, asked_count}
use Rattle.trace_reader.specs.Reading.{file_fault, file_traces}
use Rattle.trace_reader.specs.declared.trace.Trace.{Trace}
use Rattle.trace_sessions.specs.FollowText.{follow_text}
use Rattle.trace_sessions.specs.StreamText.{fixes_among, points_in, text_led_by}
use Rattle.follow_work.specs.Streams.{never, streams_plan}

-- the trace of an id: all its positions in the trace file, in the order of the file
abbrev pub trace_of_id : List ℕ → ℕ → Trace
trace_of_id bytes id = record { id = id; fixes = fixes_among id (points_in (file_traces bytes)) }

-- the file has a position of this id
abbrev pub HasId : List ℕ → ℕ → Type 0
HasId bytes id = 0 < length (trace_of_id bytes id).fixes

-- the traces with this id
abbrev pub with_id : ℕ → List Trace → List Trace
with_id id traces = filter (λ trace. nat_eq id trace.id) traces

-- these are the traces of the ids of the file: each id has one, and no other id has any
pub record AreTracesOfIds (bytes : List ℕ) (traces : List Trace) : Type 0 where
  pub each : (id : ℕ) → HasId bytes id → with_id id traces ≡ trace_of_id bytes id ∷ []
  pub others : (id : ℕ) → ¬ HasId bytes id → with_id id traces ≡ []

-- a text for the bytes of a trace file: the lines that begin with an id and a space are, without these, the follow
-- text of the id's trace; and after all lines comes the total line of the traces of the ids
pub record FollowsEachId (on : Setting) (bytes text : List ℕ) : Type 0 where
  pub no_fault : file_fault bytes ≡ None
  pub followed : (id : ℕ) → HasId bytes id
      → text_led_by id text ≡ follow_text on.network on.params (trace_of_id bytes id)
  pub traces : List Trace
  pub traces_are : AreTracesOfIds bytes traces
  pub lines : List ℕ
  pub ended : text ≡ lines ++ total_of (piece_count on) (asked_count on) traces

-- the files were accepted, and the text is such a text
pub record IsStreamOf (limits : NetworkLimits) (network traces : List ℕ) (options : Params)
    (files : List ℕ → Option (List ℕ)) (text : List ℕ) : Type 0 where
  pub roads : List ℕ
  pub net : Net
  pub bytes : List ℕ
  pub roads_are : bytes_seen (file_limit limits) (files network) ≡ Some roads
  pub accepted : network_said limits roads ≡ Ok net
  pub bytes_are : bytes_seen trace_limit (files traces) ≡ Some bytes
  pub follows : FollowsEachId (record { network = net; params = options }) bytes text

-- what `streams` writes with status 0, where no drive ends before the file does
abbrev pub StreamsFollowEachId : Type 0
StreamsFollowEachId =
    (limits : NetworkLimits) (network traces : List ℕ) (options : Params)
    (files : List ℕ → Option (List ℕ)) (o : Outcome)
    → outcome_of (streams_plan limits network traces never options) files ≡ Some o → o.status ≡ 0
    → IsStreamOf limits network traces options files o.out
