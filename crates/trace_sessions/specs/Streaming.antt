-- What taking the positions of a stream, and ending it, leave.
use Rattle.std.specs.Prelude.{◌≡◌, ◌⊎◌, ℕ, ◌+◌, ◌<◌, ◌≤◌, ◌^◌, List, ◌++◌, Result, Ok, Err, Some, None, OnOk, All, Contains, length, map}
use Rattle.std.specs.List.{concat, sum_by}
use Rattle.cost_model.specs.declared.params.Params.{Params}
use Rattle.road_network.specs.Net.{Net}
use Rattle.bounded_table.specs.Rows.{RowsState, AsksOnly, Keeps as KeepsRows}
use Rattle.trace_reader.specs.Trace.{IsLawfulTrace}
use Rattle.trace_match.specs.Match.{layer_of, match_of}
use Rattle.online_commit.specs.Items.{handed}
use Rattle.trace_sessions.specs.declared.sessions.SessionFault.{SessionFault}
use Rattle.trace_sessions.specs.declared.sessions.SessionFault.TheVariants.{Memory, NotOpen, TooLong}
use Rattle.trace_sessions.specs.Following.{pieces_among}
use Rattle.trace_sessions.specs.ItemText.{AddsPrefix}
use Rattle.trace_sessions.specs.Sessions.{AsksFixes, HasNoPair, HasPair, RepresentsPairs, Pair, SessionsState, fixes_of, without_pair}
use Rattle.trace_sessions.specs.StreamText.{Point, closing_lines, fixes_among, full_id, lines_at_end, stream_lines, trace_of, with_points, with_taken}

-- how many fixes the ids have
abbrev pub fixes_in : List Pair → ℕ
fixes_in pairs = sum_by (λ pair. length pair.1) pairs

-- how many pieces were handed out of them, and how many there are
abbrev pub pieces_told : Net → Params → List Pair → ℕ
pieces_told n p pairs =
    sum_by (λ pair. pieces_among (handed n p (map (layer_of n p) pair.1))) pairs

abbrev pub pieces_of_all : Net → Params → List Pair → ℕ
pieces_of_all n p pairs =
    sum_by (λ pair. length (match_of n p (trace_of pair)).pieces) pairs

-- the match of the fixes of some id asks for the row of node v
abbrev pub AsksSome : SessionsState → List Pair → ℕ → Type 0
AsksSome s pairs v = (id : ℕ) × AsksFixes s (fixes_of pairs id) v

-- the match of an id of these positions, with all its fixes up to them, asks for the row of node v
abbrev pub AsksAmong : SessionsState → List Pair → List Point → ℕ → Type 0
AsksAmong s pairs points v =
    (id : ℕ) × (0 < length (fixes_among id points)) × AsksFixes s (fixes_of (with_points pairs points) id) v

-- the fixes of each id are those of a lawful trace
abbrev pub AreLawful : List Pair → Type 0
AreLawful pairs = All (λ pair. IsLawfulTrace (trace_of pair)) pairs

-- the sessions represent lawful pairs, which have room for this many more positions
pub record CanStream (s : SessionsState) (more : ℕ) : Type 0 where
  pub pairs : List Pair
  pub keeps : RepresentsPairs s pairs
  pub lawful : AreLawful pairs
  pub few : fixes_in pairs + more < 2 ^ 62

-- the positions were taken after those of the pairs, and their lines written, with this many pieces
pub record TakesPoints (old : SessionsState) (pairs : List Pair) (points : List Point)
    (new : SessionsState) (text text' : List ℕ) (pieces : ℕ) : Type 0 where
  pub network : new.network ≡ old.network
  pub params : new.params ≡ old.params
  pub room : full_id pairs points ≡ None
  pub stands : RepresentsPairs new (with_points pairs points)
  pub written : text' ≡ text ++ concat (stream_lines old.network old.params pairs points)
  pub counted : pieces_told old.network old.params (with_points pairs points)
      ≡ pieces_told old.network old.params pairs + pieces

-- the id of one of them was full: those before it were taken, and their lines written
pub record TakesUntilFull (old : SessionsState) (pairs : List Pair) (points : List Point)
    (new : SessionsState) (text text' : List ℕ) (id : ℕ) : Type 0 where
  pub network : new.network ≡ old.network
  pub params : new.params ≡ old.params
  pub full : full_id pairs points ≡ Some id
  pub stands : RepresentsPairs new (with_taken pairs points)
  pub written : text' ≡ text ++ concat (stream_lines old.network old.params pairs points)

-- memory ran out: some positions were taken, and their lines written, those of the last one maybe only in part
pub record TakesUntilMemory (old : SessionsState) (pairs : List Pair) (points : List Point)
    (new : SessionsState) (text text' : List ℕ) : Type 0 where
  pub whole : List Point
  pub last : List Point
  pub left : List Point
  pub parts : points ≡ whole ++ (last ++ left)
  pub one : length last ≤ 1
  pub network : new.network ≡ old.network
  pub params : new.params ≡ old.params
  pub room : full_id pairs (whole ++ last) ≡ None
  pub stands : RepresentsPairs new (with_points pairs (whole ++ last))
  pub written : AddsPrefix (text ++ concat (stream_lines old.network old.params pairs whole))
      (concat (stream_lines old.network old.params (with_points pairs whole) last)) text'

-- all were taken, or those before a full id, or those before memory ran out
abbrev pub Streams : SessionsState → List Pair → List Point → SessionsState → List ℕ → List ℕ
    → Result ℕ SessionFault → Type 0
Streams old pairs points new text text' (Ok pieces) = TakesPoints old pairs points new text text' pieces
Streams old pairs points new text text' (Err (TooLong id)) =
    TakesUntilFull old pairs points new text text' id
Streams old pairs points new text text' (Err (NotOpen id)) = ⊥
Streams old pairs points new text text' (Err Memory) = TakesUntilMemory old pairs points new text text'

-- what taking positions leaves of the rows: nothing became known but what an id of these positions asks for with
-- them, and after Ok all that some id asks for is known or was asked for before
pub record AsksStream {A E : Type 0} (old : SessionsState) (points : List Point) (rows : RowsState)
    (result : Result A E) (new : RowsState) : Type 0 where
  pub keeps : KeepsRows rows new
  pub only : (pairs : List Pair) → RepresentsPairs old pairs
      → AsksOnly rows new (AsksAmong old pairs points)
  pub all : OnOk result ((pairs : List Pair) (v : ℕ) → RepresentsPairs old pairs
      → AsksSome old (with_points pairs points) v → AsksSome old pairs v ⊎ Contains new.known v)

-- the last lines of the pairs were written, and with these pieces all are told
pub record EndsPairs (old : SessionsState) (pairs : List Pair) (text text' : List ℕ) (pieces : ℕ)
    : Type 0 where
  pub written : text' ≡ text ++ concat (closing_lines old.network old.params pairs)
  pub counted : pieces_of_all old.network old.params pairs
      ≡ pieces_told old.network old.params pairs + pieces

-- all were ended, or memory ran out and a prefix of the last lines was written
abbrev pub EndsSessions : {E : Type 0} → SessionsState → List Pair → List ℕ → List ℕ → Result ℕ E → Type 0
EndsSessions old pairs text text' (Ok pieces) = EndsPairs old pairs text text' pieces
EndsSessions old pairs text text' (Err refused) =
    AddsPrefix text (concat (closing_lines old.network old.params pairs)) text'

-- ---- one id at its end

-- its last lines were written, and with these pieces all are told
pub record EndsPair (n : Net) (p : Params) (pair : Pair) (text text' : List ℕ) (pieces : ℕ) : Type 0 where
  pub written : text' ≡ text ++ concat (lines_at_end n p pair)
  pub counted : length (match_of n p (trace_of pair)).pieces
      ≡ pieces_among (handed n p (map (layer_of n p) pair.1)) + pieces

-- or memory ran out and a prefix of them was written
abbrev pub EndsOne : {E : Type 0} → Net → Params → Pair → List ℕ → List ℕ → Result ℕ E → Type 0
EndsOne n p pair text text' (Ok pieces) = EndsPair n p pair text text' pieces
EndsOne n p pair text text' (Err refused) = AddsPrefix text (concat (lines_at_end n p pair)) text'

-- ---- one id of the sessions at its end

-- the id had a pair, which is gone, and its last lines were written, or a prefix of them
pub record EndsTrace {E : Type 0} (old : SessionsState) (pairs : List Pair) (id : ℕ)
    (new : SessionsState) (text text' : List ℕ) (result : Result ℕ E) : Type 0 where
  pub network : new.network ≡ old.network
  pub params : new.params ≡ old.params
  pub was_open : HasPair pairs id
  pub stands : RepresentsPairs new (without_pair pairs id)
  pub ended : EndsOne old.network old.params (id, fixes_of pairs id) text text' result

-- the id had no pair, and nothing was done
pub record EndsNone (old : SessionsState) (pairs : List Pair) (id : ℕ)
    (new : SessionsState) (text text' : List ℕ) : Type 0 where
  pub none : HasNoPair pairs id
  pub unchanged : new ≡ old
  pub written : text' ≡ text

-- its trace was ended, or it had none, or memory ran out in its lines
abbrev pub EndsId : SessionsState → List Pair → ℕ → SessionsState → List ℕ → List ℕ
    → Result ℕ SessionFault → Type 0
EndsId old pairs id new text text' (Ok pieces) =
    EndsTrace {E = SessionFault} old pairs id new text text' (Ok pieces)
EndsId old pairs id new text text' (Err (NotOpen other)) =
    (other ≡ id) × EndsNone old pairs id new text text'
EndsId old pairs id new text text' (Err (TooLong other)) = ⊥
EndsId old pairs id new text text' (Err Memory) =
    EndsTrace old pairs id new text text' (Err Memory)
