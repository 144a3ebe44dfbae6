-- The counts of traces while they are matched.
use Rattle.std.specs.Prelude.{ℕ, List, ◌≡◌, length, ◌≤◌}
use Rattle.program_frame.specs.Jobs.{position_count}
use Rattle.trace_reader.specs.declared.trace.Trace.{Trace}
use Rattle.program_frame.specs.declared.total.Tally.{Tally}

-- the number of pieces of these traces, which is no more than that of their positions
pub record IsCountOfPieces (pieces_of : List Trace → ℕ) (traces : List Trace) (pieces : ℕ) : Type 0 where
  pub are : pieces ≡ pieces_of traces
  pub few : pieces ≤ position_count traces

-- the counts of these traces
pub record Counts (pieces_of : List Trace → ℕ) (traces : List Trace) (tally : Tally) : Type 0 where
  pub traces_are : tally.traces ≡ length traces
  pub points_are : tally.points ≡ position_count traces
  pub pieces_are : IsCountOfPieces pieces_of traces tally.pieces
