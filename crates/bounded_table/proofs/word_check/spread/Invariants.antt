use Rattle.std.proofs.Common.{take}
use Rattle.std.specs.List.{All}
use Rattle.bounded_table.specs.Spread.{FitsIn, IsSpread}
use Rattle.bounded_table.proofs.word_check.spread.Given as goal

abbrev pub invariant-loop-x : goal.invariant-loop-x
invariant-loop-x l = record {
  spread : IsSpread l.bound (take l.x-index l.entries) l.words;
  fits : All (FitsIn l.net l.bound) (take l.x-index l.entries);
}
