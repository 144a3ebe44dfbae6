use Rattle.std.proofs.Common.{◌≡◌, ◌++◌, take}
use Rattle.follow_work.specs.Follow.{followed_of}
use Rattle.trace_match.specs.inside.Asked.{AsksTraces}
use Rattle.program_frame.specs.inside.Tallies.{IsCountOfPieces}
use Rattle.follow_work.proofs.job.write_followed.Given as goal
use Rattle.trace_match.specs.Totals.{piece_count}

abbrev pub invariant-loop-trace : goal.invariant-loop-trace
invariant-loop-trace l = record {
  text : l.into ≡ l.initial.into ++ followed_of l.matcher (take l.trace-index l.traces);
  pieces : IsCountOfPieces (piece_count l.matcher) (take l.trace-index l.traces) l.pieces;
  asks : AsksTraces l.matcher (take l.trace-index l.traces) l.initial.rows l.rows;
}
