-- A last stage that writes what its file gives, and how it stops.
use Rattle.std.specs.Prelude.{◌≡◌, ℕ, List}
use Rattle.std.specs.Io.KnownBytes.{Appends}
use Rattle.edge_io.specs.Sink.{AppendsPrefix, Rose}
use Rattle.edge_io.specs.State.{SinkState}
use Rattle.program_frame.specs.Outcome.{Outcome}
use Rattle.program_frame.specs.Plan.{Plan}
use Rattle.program_frame.specs.Plan.Plan.{ends, reads}
use Rattle.program_frame.specs.Stops.{refusal_status}
use Rattle.program_frame.specs.declared.stop.File.{File}
use Rattle.program_frame.specs.declared.stop.Refusal.{Refusal}
use Rattle.program_frame.specs.declared.stop.Refusal.TheVariants.{Traces}
use Rattle.program_frame.specs.declared.stop.Stop.{Stop}
use Rattle.program_frame.specs.declared.stop.Stop.TheVariants.{Refused, NoMemory, Unread, Unwritten}

-- what the bytes of a file give
abbrev pub streams : File → List ℕ → ℕ → (List ℕ → Outcome) → Plan
streams file name limit expected = reads file name limit (λ bytes. ends (expected bytes))

-- whatever x is, the outcome is this refusal of the traces, and out has its text
pub record IsRefusedAs (X : Type 0) (expected : X → Outcome) (out out' : SinkState)
    (refusal : Refusal) (line : List ℕ) : Type 0 where
  pub text : List ℕ
  pub is : (x : X)
      → expected x ≡ record { out = text; err = line; status = refusal_status refusal }
  pub written : Appends out.written out'.written text
  pub faults_are : out'.faults ≡ out.faults
  pub is_traces : refusal ≡ Traces

-- whatever x is, out has a prefix of the text
abbrev pub HasFront : (X : Type 0) → (X → Outcome) → SinkState → SinkState → Type 0
HasFront X expected out out' =
    (x : X) → AppendsPrefix out.written out'.written (expected x).out

-- how the work stops where one of these outcomes is expected
abbrev pub StopsAs : (X : Type 0) → (X → Outcome) → SinkState → SinkState → Stop → Type 0
StopsAs X expected out out' (Refused refusal line) =
    IsRefusedAs X expected out out' refusal line
StopsAs X expected out out' NoMemory =
    HasFront X expected out out' × (out'.faults ≡ out.faults)
StopsAs X expected out out' (Unread file) = ⊥
StopsAs X expected out out' Unwritten =
    HasFront X expected out out' × Rose out.faults out'.faults
