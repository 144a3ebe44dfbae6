-- The plan of a job on a trace file.
use Rattle.std.specs.Prelude.{ℕ, List}
use Rattle.program_frame.specs.Jobs.{JobText, bytes_give}
use Rattle.program_frame.specs.Plan.{Plan}
use Rattle.program_frame.specs.Refusals.{trace_limit}
use Rattle.program_frame.specs.Streams.{streams}
use Rattle.program_frame.specs.declared.stop.File.TheVariants.{Traces}

-- the plan of a job on the traces of a file
abbrev pub works_traces : List ℕ → JobText → Plan
works_traces name job = streams Traces name trace_limit (bytes_give job)
