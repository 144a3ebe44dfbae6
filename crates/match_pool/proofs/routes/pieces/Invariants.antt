use Rattle.std.proofs.Common.{◌≡◌, map, take}
use Rattle.bounded_table.specs.Rows.{AsksOnly}
use Rattle.matching.specs.PieceSteps.{AsksTrace}
use Rattle.trace_match.specs.Match.{routed_of}
use Rattle.match_pool.proofs.routes.pieces.Given as goal

abbrev pub invariant-loop-number : goal.invariant-loop-number
invariant-loop-number g l = record {
  pieces : l.pieces.items ≡ map (routed_of l.found.net.now l.found.params.now l.found.layers.now l.found.solved.now.ranks) (take l.number l.found.solved.now.pieces);
  asks : AsksOnly (g.R.Rows.state l.fn.rows) (g.R.Rows.state l.rows) (AsksTrace l.found.net.now l.found.params.now l.found.layers.now l.found.solved.now.pieces);
}
