-- Laws of reading: what is closed or known in the beginning of a file, and what each trace has.
use Rattle.std.specs.Prelude.{ℕ, ◌≡◌, ◌++◌, All, List, Some}
use Rattle.trace_reader.specs.Reading.{closed, fault_in, file_fault, file_traces}
use Rattle.trace_reader.specs.Trace.{IsLawfulTrace}
use Rattle.trace_reader.specs.declared.trace.Trace.{Trace}
use Rattle.trace_reader.specs.declared.fault.TraceFault.{TraceFault}

-- the first list is the beginning of the second
abbrev pub Begins : List Trace → List Trace → Type 0
Begins front whole = (more : List Trace) × (whole ≡ front ++ more)

-- the traces that are closed in the beginning of a file stay, whatever follows
pub record ClosedTracesStay (bytes later : List ℕ) : Type 0 where
  pub kept : Begins (closed bytes) (closed (bytes ++ later))
  pub in_file : Begins (closed bytes) (file_traces (bytes ++ later))

-- a fault that is known in the beginning of a file stays, and no trace is closed after it
pub record KnownFaultsStay (bytes later : List ℕ) (fault : TraceFault) : Type 0 where
  pub kept : fault_in (bytes ++ later) ≡ Some fault
  pub of_file : file_fault (bytes ++ later) ≡ Some fault
  pub no_more : closed (bytes ++ later) ≡ closed bytes
  pub in_file : file_traces (bytes ++ later) ≡ closed bytes

-- each trace that is read has 1 to 100,000 fixes in range
pub record TracesAreLawful (bytes : List ℕ) : Type 0 where
  pub each : All IsLawfulTrace (closed bytes)
  pub in_file : All IsLawfulTrace (file_traces bytes)
