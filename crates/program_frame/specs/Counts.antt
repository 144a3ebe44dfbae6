-- The counts of traces, each of which has some pieces.
use Rattle.std.specs.Prelude.{ℕ, List, length}
use Rattle.program_frame.specs.Jobs.{position_count}
use Rattle.program_frame.specs.Total.{total_line}
use Rattle.trace_reader.specs.declared.trace.Trace.{Trace}

-- the total line of traces with these numbers of pieces and rows
abbrev pub total_of : (pieces_of rows_of : List Trace → ℕ) → List Trace → List ℕ
total_of pieces_of rows_of traces =
    total_line (length traces) (position_count traces) (pieces_of traces) (rows_of traces)
