-- The promises of a run, for any words, shelf, out and err.
use Rattle.std.specs.Prelude.{◌≡◌, ◌≢◌, ◌⊎◌, ℕ, ◌<◌, List, [], Result, IfSome, IsSomeAnd, MatchOption, count_by}
use Rattle.std.specs.Str.{bytes_eq}
use Rattle.std.specs.Io.KnownBytes.{Appends}
use Rattle.edge_io.specs.Sink.{AppendsPrefix, Rose}
use Rattle.program_frame.specs.Stops.{unread_line}
use Rattle.program_frame.specs.Lines.{memory_line, write_line}
use Rattle.program_frame.specs.Performs.{IsPartial}
use Rattle.edge_io.specs.State.{ShelfState, SinkState}
use Rattle.program_frame.specs.Plan.{Plan, AreRefused, AreRefusedBy, Comes, IsFileOf, IsLineOf, outcome_of, plan_of}
use Rattle.program_frame.specs.declared.stop.File.{File}
use Rattle.program_frame.specs.declared.stop.File.TheVariants.{Traces}

-- a status other than want of memory, a read fault and a write fault
abbrev pub IsSettled : ℕ → Type 0
IsSettled status = (status ≢ 1) × (status ≢ 3) × (status ≢ 4)

-- out and err have gained the texts of the outcome, and the status is its status; so there is one
abbrev pub IsOutcome : Result Plan (List ℕ) → ShelfState → (out out' err err' : SinkState) → ℕ → Type 0
IsOutcome asked shelf out out' err err' status =
    IfSome shelf.holds (λ files. IsSomeAnd (outcome_of (plan_of asked) files)
    (λ o. (status ≡ o.status)
    × Appends out.written out'.written o.out
    × Appends err.written err'.written o.err))

-- err has gained nothing or this line
abbrev pub SaysAtMost : List ℕ → SinkState → SinkState → Type 0
SaysAtMost line err err' =
    Appends err.written err'.written [] ⊎ Appends err.written err'.written line

-- a line that a run may write on err
abbrev pub IsErrLine : (ℕ → List ℕ → Type 0) → List ℕ → Type 0
IsErrLine lines line =
    ((status : ℕ) × lines status line)
    ⊎ ((file : File) × (line ≡ unread_line file))
    ⊎ (line ≡ memory_line)
    ⊎ (line ≡ write_line)

-- err has gained a prefix of one line
abbrev pub SaysPartOfLine : (ℕ → List ℕ → Type 0) → SinkState → SinkState → Type 0
SaysPartOfLine lines err err' =
    (line : List ℕ) × IsErrLine lines line × AppendsPrefix err.written err'.written line

-- the table has every line with which the plan may end other than done
abbrev pub Covers : (ℕ → List ℕ → Type 0) → Result Plan (List ℕ) → Type 0
Covers lines asked =
    (status : ℕ) (line : List ℕ)
    → status ≢ 0
    → IsLineOf (plan_of asked) status line
    → lines status line

-- how often reads of this name failed
abbrev pub faults_of : List (List ℕ) → List ℕ → ℕ
faults_of failed name = count_by (λ other. bytes_eq other name) failed

-- a read of this file of the command failed in between
abbrev pub HasRisen : Result Plan (List ℕ) → ShelfState → ShelfState → File → Type 0
HasRisen asked shelf shelf' file =
    (name : List ℕ)
    × IsFileOf (plan_of asked) file name
    × (faults_of shelf.failed name < faults_of shelf'.failed name)

-- a file was not read: its reads have failed, err has its line, and each file before it is accepted
pub record IsReadFault (asked : Result Plan (List ℕ)) (shelf shelf' : ShelfState) (out out' err err' : SinkState)
    : Type 0 where
  pub file : File
  pub risen : HasRisen asked shelf shelf' file
  pub line : Appends err.written err'.written (unread_line file)
  pub nothing_out : file ≢ Traces → Appends out.written out'.written []
  pub before : IfSome shelf.holds (λ files. Comes (plan_of asked) files file)

-- no count rose: neither the shelf's, for a file of the command, nor that of out or of err
pub record IsFaultless (asked : Result Plan (List ℕ)) (shelf shelf' : ShelfState) (out out' err err' : SinkState)
    : Type 0 where
  pub shelf_is : (file : File) → ¬ HasRisen asked shelf shelf' file
  pub out_is : ¬ Rose out.faults out'.faults
  pub err_is : ¬ Rose err.faults err'.faults

-- the status is the outcome's, or want of memory
abbrev pub IsAnswered : Result Plan (List ℕ) → ShelfState → ℕ → Type 0
IsAnswered asked shelf status =
    IfSome shelf.holds (λ files. MatchOption (outcome_of (plan_of asked) files) (status ≡ 1)
    (λ o. (status ≡ o.status) ⊎ (status ≡ 1)))

-- the counts of out and err are as before
pub record AreCountsSame (out out' err err' : SinkState) : Type 0 where
  pub out_is : out'.faults ≡ out.faults
  pub err_is : err'.faults ≡ err.faults

-- the words are refused: out has gained nothing, and err the line of the refusal
pub record AreWordsRefused (asked : Result Plan (List ℕ)) (out out' err err' : SinkState)
    : Type 0 where
  pub line : List ℕ
  pub refused : AreRefusedBy asked line
  pub nothing_out : Appends out.written out'.written []
  pub said : Appends err.written err'.written line

-- err has gained one line, with which and with this status the plan may end
abbrev pub SaysItsLine : Result Plan (List ℕ) → SinkState → SinkState → ℕ → Type 0
SaysItsLine asked err err' status =
    (line : List ℕ)
    × IsLineOf (plan_of asked) status line
    × Appends err.written err'.written line

-- what a run promises, where `lines` is the table of the lines of its refusals
pub record Promises (lines : ℕ → List ℕ → Type 0) (asked : Result Plan (List ℕ))
    (shelf shelf' : ShelfState) (out out' err err' : SinkState) (status : ℕ) : Type 0 where
  -- what is written is a function of the words and the files
  pub outcome : IsSettled status → IsOutcome asked shelf out out' err err' status
  pub prefix : IsPartial (plan_of asked) shelf.holds out out'
  -- whether the shelf tells its bytes or not: a refusal has one line, which is a line of the plan with
  -- this status, and only a refusal of the traces comes after some text
  pub line_is : IsSettled status → status ≢ 0 → SaysItsLine asked err err' status
  pub quiet_err : status ≡ 0 → Appends err.written err'.written []
  pub quiet_out : IsSettled status → status ≢ 0 → status ≢ 6 → Appends out.written out'.written []
  -- why it may end early, and what err then has
  pub memory : status ≡ 1 → SaysAtMost memory_line err err'
  pub unread : status ≡ 3 → IsReadFault asked shelf shelf' out out' err err'
  pub unwritten : status ≡ 4 → Rose out.faults out'.faults ⊎ Rose err.faults err'.faults
  pub write_line_is : status ≡ 4 → ¬ Rose err.faults err'.faults → SaysAtMost write_line err err'
  pub cut_line : status ≡ 4 → SaysPartOfLine lines err err'
  -- refused words are refused as such, whatever the shelf tells
  pub words : status ≡ 2 → AreWordsRefused asked out out' err err'
  pub refused_words : AreRefused asked → (status ≡ 2) ⊎ (status ≡ 1) ⊎ (status ≡ 4)
  -- a failed put shows in the status
  pub counts : status ≢ 4 → AreCountsSame out out' err err'
  -- a failed read shows in the status, but where there was no memory for its line
  pub quiet_shelf : IsSettled status → shelf'.failed ≡ shelf.failed
  pub noted : shelf'.failed ≢ shelf.failed
      → (status ≡ 3)
      ⊎ (status ≡ 4)
      ⊎ ((status ≡ 1) × Appends err.written err'.written [])
  pub holds : shelf'.holds ≡ shelf.holds
  -- where nothing failed, the answer is the outcome's, or want of memory
  pub complete : IsFaultless asked shelf shelf' out out' err err' → IsAnswered asked shelf status
