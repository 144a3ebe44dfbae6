-- The traces of a file that are held whole.
use Rattle.std.specs.Prelude.{ℕ, List, Result, Ok, Err, Some, None}
use Rattle.std.specs.declared.option.Option.{Option}
use Rattle.trace_reader.specs.Fault.{fault_line}
use Rattle.trace_reader.specs.Reading.{file_fault, file_traces}
use Rattle.trace_reader.specs.declared.fault.TraceFault.{TraceFault}
use Rattle.trace_reader.specs.declared.trace.Trace.{Trace}

-- traces, or the line of this fault
abbrev pub traces_or_line : List Trace → Option TraceFault → Result (List Trace) (List ℕ)
traces_or_line traces None = Ok traces
traces_or_line traces (Some fault) = Err (fault_line fault)

-- all traces of a trace file, or the line of its first fault
abbrev pub traces_said : List ℕ → Result (List Trace) (List ℕ)
traces_said bytes = traces_or_line (file_traces bytes) (file_fault bytes)
