use Rattle.std.proofs.Common.{◌≡◌, take}
use Rattle.online_commit.proofs.open_piece.piece_alone.Given as goal

abbrev pub invariant-loop-point : goal.invariant-loop-point
invariant-loop-point l = record {
  layers : l.layers.items ≡ take l.point l.tail.layers.items;
  tables : l.tables.items ≡ take l.point l.tail.tables.items;
}
