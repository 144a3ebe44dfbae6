-- The traces of a file that is accepted.
use Rattle.std.proofs.Common.{◌≡◌, ℕ, List, All, Option, Some, None, Ok, subst}
use Rattle.trace_reader.specs.Reading.{file_fault, file_traces}
use Rattle.trace_reader.specs.Trace.{IsLawfulTrace}
use Rattle.trace_reader.specs.declared.fault.TraceFault.{TraceFault}
use Rattle.trace_reader.specs.declared.trace.Trace.{Trace}
use Rattle.trace_reader.proofs.Lawful.{IsLawfulTrace-file_traces}
use Rattle.program_frame.specs.WholeTraces.{traces_or_line, traces_said}

-- they are those of the file
pub traces_taken : (traces : List Trace) (fault : Option TraceFault) (taken : List Trace) → traces_or_line traces fault ≡ Ok taken → traces ≡ taken
traces_taken traces None taken e = cc e
traces_taken traces (Some f) taken e = absurd (cc e)

-- they are lawful
pub taken_lawful : (bytes : List ℕ) (taken : List Trace) → traces_said bytes ≡ Ok taken → All IsLawfulTrace taken
taken_lawful bytes taken is = subst (All IsLawfulTrace) (traces_taken (file_traces bytes) (file_fault bytes) taken is) (IsLawfulTrace-file_traces bytes)
