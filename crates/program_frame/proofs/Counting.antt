-- The counts of more traces.
use Rattle.std.proofs.Common.{◌≡◌, ℕ, ◌+◌, List, ◌++◌, arith, length-append}
use Rattle.program_frame.specs.inside.Tallies.{IsCountOfPieces, Counts}
use Rattle.program_frame.specs.Jobs.{IsBounded}
use Rattle.program_frame.specs.Total.{AddsCounts, CountsFit}
use Rattle.program_frame.specs.declared.total.Tally.{Tally}
use Rattle.program_frame.proofs.PointCounts.{points-append}
use Rattle.trace_reader.specs.declared.trace.Trace.{Trace}

-- the counts of more traces fit
pub fits_more : (pieces_of : List Trace → ℕ) (before more : List Trace) (tally : Tally) (pieces : ℕ) → IsBounded (before ++ more) → Counts pieces_of before tally → IsCountOfPieces pieces_of more pieces → CountsFit more pieces tally
fits_more pieces_of before more tally pieces bounded counts are =
    let few = bounded.few in
    let few_points = bounded.few_points in
    record {
      few = omega (arith, counts.traces_are, few, length-append before more);
      few_points = omega (arith, counts.points_are, few_points, points-append before more);
      few_pieces = omega (arith, counts.pieces_are.few, are.few, few_points, points-append before more);
    }

-- and are those of all, where the pieces of two lists are those of both together
pub counts_more : (pieces_of : List Trace → ℕ) → ((front back : List Trace) → pieces_of (front ++ back) ≡ pieces_of front + pieces_of back)
    → (before more : List Trace) (old new : Tally) (pieces : ℕ) → Counts pieces_of before old → IsCountOfPieces pieces_of more pieces → AddsCounts more pieces old new → Counts pieces_of (before ++ more) new
counts_more pieces_of appended before more old new pieces counts are adds = record {
  traces_are = omega (arith, counts.traces_are, adds.more, length-append before more);
  points_are = omega (arith, counts.points_are, adds.more_points, points-append before more);
  pieces_are = record {
    are = omega (arith, counts.pieces_are.are, adds.more_pieces, are.are, appended before more);
    few = omega (arith, counts.pieces_are.few, adds.more_pieces, are.few, points-append before more);
  };
}
