-- What the work of a command leaves, by how it ended.
use Rattle.std.specs.Prelude.{◌≡◌, ◌≢◌, ℕ, List, [], Result, Ok, Err, Some, IfSome}
use Rattle.std.specs.declared.option.Option.{Option}
use Rattle.std.specs.Io.KnownBytes.{Appends}
use Rattle.edge_io.specs.Sink.{AppendsPrefix, Rose}
use Rattle.edge_io.specs.State.{ShelfState, SinkState}
use Rattle.program_frame.specs.Outcome.{out_text}
use Rattle.program_frame.specs.Plan.{Plan, AreRefused, AreRefusedBy, Comes, IsFileOf, IsLineOf, outcome_of, plan_of}
use Rattle.program_frame.specs.Read.{Notes}
use Rattle.program_frame.specs.Stops.{refusal_status}
use Rattle.program_frame.specs.declared.stop.File.{File}
use Rattle.program_frame.specs.declared.stop.File.TheVariants.{Traces}
use Rattle.program_frame.specs.declared.stop.Refusal.{Refusal}
use Rattle.program_frame.specs.declared.stop.Refusal.TheVariants.{Words, Traces as OfTraces}
use Rattle.program_frame.specs.declared.stop.Stop.{Stop}
use Rattle.program_frame.specs.declared.stop.Stop.TheVariants.{Refused, NoMemory, Unread, Unwritten}

-- out has gained the whole text of the outcome, whose line and status are these
abbrev pub IsWholeOutcome : Plan → Option (List ℕ → Option (List ℕ)) → SinkState → SinkState
    → List ℕ → ℕ → Type 0
IsWholeOutcome plan told out out' line status =
    IfSome told (λ files. (text : List ℕ)
    × (outcome_of plan files ≡ Some (record { out = text; err = line; status = status }))
    × Appends out.written out'.written text)

-- out has gained a prefix of the outcome's text
abbrev pub IsPartial : Plan → Option (List ℕ → Option (List ℕ)) → SinkState → SinkState → Type 0
IsPartial plan told out out' =
    IfSome told (λ files. AppendsPrefix out.written out'.written (out_text (outcome_of plan files)))

-- neither the shelf nor the count of out has changed
pub record IsQuiet (shelf shelf' : ShelfState) (out out' : SinkState) : Type 0 where
  pub shelf_is : shelf' ≡ shelf
  pub faults_are : out'.faults ≡ out.faults

-- the words are refused with this line, and out has gained nothing
pub record RefusesAskedWords (asked : Result Plan (List ℕ)) (out out' : SinkState) (line : List ℕ)
    : Type 0 where
  pub refused : AreRefusedBy asked line
  pub nothing_out : Appends out.written out'.written []

-- the words or a file were refused with this line, and the text of the outcome was written whole; only
-- a refusal of the traces comes after some text
pub record IsSaid (asked : Result Plan (List ℕ)) (shelf shelf' : ShelfState)
    (out out' : SinkState) (refusal : Refusal) (line : List ℕ) : Type 0 where
  pub whole : IsWholeOutcome (plan_of asked) shelf.holds out out' line (refusal_status refusal)
  pub quiet : IsQuiet shelf shelf' out out'
  pub is_line : IsLineOf (plan_of asked) (refusal_status refusal) line
  pub words : refusal ≡ Words → RefusesAskedWords asked out out' line
  pub others : refusal ≢ Words → ¬ AreRefused asked
  pub nothing_out : refusal ≢ OfTraces → Appends out.written out'.written []

-- the text of the outcome was written whole
pub record IsDone (asked : Result Plan (List ℕ)) (shelf shelf' : ShelfState) (out out' : SinkState)
    : Type 0 where
  pub whole : IsWholeOutcome (plan_of asked) shelf.holds out out' [] 0
  pub quiet : IsQuiet shelf shelf' out out'
  pub accepted : ¬ AreRefused asked

-- a read of this file failed, and was noted
pub record IsUnreadFile (asked : Result Plan (List ℕ)) (shelf shelf' : ShelfState) (out out' : SinkState)
    (file : File) : Type 0 where
  pub name : List ℕ
  pub named : IsFileOf (plan_of asked) file name
  pub noted : Notes shelf shelf' name
  pub nothing_out : file ≢ Traces → Appends out.written out'.written []
  pub before : IfSome shelf.holds (λ files. Comes (plan_of asked) files file)
  pub faults_are : out'.faults ≡ out.faults

-- a put on out failed
pub record IsUnwritten (shelf shelf' : ShelfState) (out out' : SinkState) : Type 0 where
  pub shelf_is : shelf' ≡ shelf
  pub rose : Rose out.faults out'.faults

abbrev pub LeavesEnded : Result Plan (List ℕ) → ShelfState → ShelfState → SinkState → SinkState
    → Result (Unit {0}) Stop → Type 0
LeavesEnded asked shelf shelf' out out' (Ok done) = IsDone asked shelf shelf' out out'
LeavesEnded asked shelf shelf' out out' (Err (Refused refusal line)) =
    IsSaid asked shelf shelf' out out' refusal line
LeavesEnded asked shelf shelf' out out' (Err NoMemory) = IsQuiet shelf shelf' out out'
LeavesEnded asked shelf shelf' out out' (Err (Unread file)) =
    IsUnreadFile asked shelf shelf' out out' file
LeavesEnded asked shelf shelf' out out' (Err Unwritten) = IsUnwritten shelf shelf' out out'

-- what the work of these words leaves: out has gained a prefix of the outcome's text, and what the ending says
pub record Performs (asked : Result Plan (List ℕ)) (shelf shelf' : ShelfState)
    (out out' : SinkState) (ended : Result (Unit {0}) Stop) : Type 0 where
  pub partial : IsPartial (plan_of asked) shelf.holds out out'
  pub leaves : LeavesEnded asked shelf shelf' out out' ended

-- how a put on out fails
abbrev pub FailsToPut : SinkState → SinkState → List ℕ → Stop → Type 0
FailsToPut out out' text (Refused refusal line) = ⊥
FailsToPut out out' text NoMemory =
    Appends out.written out'.written [] × (out'.faults ≡ out.faults)
FailsToPut out out' text (Unread file) = ⊥
FailsToPut out out' text Unwritten =
    AppendsPrefix out.written out'.written text × Rose out.faults out'.faults

abbrev pub PutLeaves : SinkState → SinkState → List ℕ → Result (Unit {0}) Stop → Type 0
PutLeaves out out' text (Ok done) =
    Appends out.written out'.written text × (out'.faults ≡ out.faults)
PutLeaves out out' text (Err stop) = FailsToPut out out' text stop

-- the put of a text on out, by how it ended
pub record PutsText (out out' : SinkState) (text : List ℕ) (ended : Result (Unit {0}) Stop)
    : Type 0 where
  pub leaves : PutLeaves out out' text ended
