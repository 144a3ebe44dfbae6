-- What a job of `streams` has done.
use Rattle.std.specs.Prelude.{◌≡◌, ◌↔◌, ℕ, ◌<◌, ◌^◌, List, [], None, Contains, length}
use Rattle.bounded_table.specs.Rows.{AreRowsOf, RowsState}
use Rattle.cost_model.specs.Options.{IsAccepted}
use Rattle.program_frame.specs.Jobs.{IsBounded, position_count}
use Rattle.program_frame.specs.Stops.{RefusesFault}
use Rattle.program_frame.specs.declared.total.Tally.{Tally}
use Rattle.program_frame.specs.declared.stop.Refusal.TheVariants.{Traces}
use Rattle.program_frame.specs.declared.stop.Stop.{Stop}
use Rattle.trace_sessions.specs.declared.sessions.SessionFault.{SessionFault}
use Rattle.trace_sessions.specs.declared.sessions.SessionFault.TheVariants.{Memory, NotOpen, TooLong}
use Rattle.trace_reader.specs.declared.trace.Trace.{Trace}
use Rattle.trace_sessions.specs.Sessions.{RepresentsPairs, Pair, SessionsState}
use Rattle.trace_sessions.specs.StreamText.{full_id, points_in}
use Rattle.trace_sessions.specs.Streaming.{AreLawful, AsksSome, CanStream, pieces_told}
use Rattle.trace_match.specs.Setting.{Setting}
use Rattle.follow_work.specs.Streams.{pairs_in_order, too_long_line}

-- fragments of lawful traces, for whose positions the sessions have room
pub record CanTakeFragments (s : SessionsState) (fragments : List Trace) : Type 0 where
  pub bounded : IsBounded fragments
  pub can : CanStream s (position_count fragments)

-- known is what some id asks for
abbrev pub KnowsSome : SessionsState → List Pair → List ℕ → Type 0
KnowsSome s pairs known = (v : ℕ) → Contains known v ↔ AsksSome s pairs v

-- the positions of these fragments were taken and counted, and exactly what their ids ask for is known
pub record HasStreamed (on : Setting) (s : SessionsState) (rows : RowsState) (tally : Tally)
    (traces : List Trace) : Type 0 where
  pub accepted : IsAccepted on.params
  pub few : position_count traces < 2 ^ 62
  pub network : s.network ≡ on.network
  pub params : s.params ≡ on.params
  pub stands : RepresentsPairs s (pairs_in_order traces)
  pub lawful : AreLawful (pairs_in_order traces)
  pub room : full_id [] (points_in traces) ≡ None
  pub rows_are : AreRowsOf rows on.network on.params.bound
  pub asked : KnowsSome s (pairs_in_order traces) rows.known
  pub traces_are : tally.traces ≡ length traces
  pub points_are : tally.points ≡ position_count traces
  pub pieces_are : tally.pieces ≡ pieces_told on.network on.params (pairs_in_order traces)

-- a fault of the sessions has a line where the trace of an id is too long
abbrev pub has_session_fault_line : SessionFault → Type 0
has_session_fault_line (TooLong id) = Unit {0}
has_session_fault_line (NotOpen id) = ⊥
has_session_fault_line Memory = ⊥

abbrev pub session_fault_line : SessionFault → List ℕ
session_fault_line (TooLong id) = too_long_line id
session_fault_line (NotOpen id) = []
session_fault_line Memory = []

-- the work ends with that line, or memory ran out
abbrev pub StopsAtFault : SessionFault → Stop → Type 0
StopsAtFault fault = RefusesFault Traces (has_session_fault_line fault) (session_fault_line fault)
