-- A last stage while its file is read in chunks.
use Rattle.std.specs.Prelude.{ℕ, List, [], ◌≡◌, ◌++◌, length, ◌+◌, ◌≤◌, Result, Ok, Err}
use Rattle.std.specs.Io.KnownBytes.{Appends}
use Rattle.edge_io.specs.Sink.{AppendsPrefix}
use Rattle.edge_io.specs.State.{ShelfState, SinkState}
use Rattle.program_frame.specs.Outcome.{Outcome, done_with}
use Rattle.program_frame.specs.Read.{IsReadSoFar}
use Rattle.program_frame.specs.declared.stop.Stop.{Stop}
use Rattle.program_frame.specs.Streams.{StopsAs}

-- a part of the file was read, and a part of its text was written: whatever comes after, out has a prefix of it
pub record IsStreaming (name : List ℕ) (limit : ℕ) (expected : List ℕ → Outcome)
    (shelf shelf' : ShelfState) (out out' : SinkState) (fed : List ℕ) : Type 0 where
  pub shelf_is : shelf' ≡ shelf
  pub front : IsReadSoFar shelf.holds name fed
  pub within : length fed ≤ limit + 1
  pub written : (rest : List ℕ)
      → AppendsPrefix out.written out'.written (expected (fed ++ rest)).out
  pub nothing : fed ≡ [] → Appends out.written out'.written []
  pub faults_are : out'.faults ≡ out.faults

-- how the work stops where these bytes were taken
abbrev pub StopsAt : (List ℕ → Outcome) → SinkState → SinkState → List ℕ → Stop → Type 0
StopsAt expected out out' fed stop =
    StopsAs (List ℕ) (λ rest. expected (fed ++ rest)) out out' stop

-- how the work ends where the whole file was taken, and its outcome is this
abbrev pub EndsWithOutcome : Outcome → SinkState → SinkState → Result (Unit {0}) Stop → Type 0
EndsWithOutcome o out out' (Ok done) =
    (o ≡ done_with o.out)
    × Appends out.written out'.written o.out
    × (out'.faults ≡ out.faults)
EndsWithOutcome o out out' (Err stop) = StopsAs (Unit {0}) (λ _. o) out out' stop
