use Rattle.std.proofs.Common.{◌≡◌, ◌++◌, All, List, length}
use Rattle.std.specs.Vec.Iter.{into_iter_items, into_iter_len}
use Rattle.match_pool.specs.inside.Tables.{AreColumnsOf}
use Rattle.match_pool.specs.declared.turn.Turn.{Turn}
use Rattle.match_pool.proofs.tables.columns_of.Given as goal

abbrev pub invariant-loop-row : goal.invariant-loop-row
invariant-loop-row l = record {
  whole : l.yielded ++ into_iter_items l.row-iterator ≡ into_iter_items l.initial.row-iterator;
  left : into_iter_len l.row-iterator ≡ length (into_iter_items l.row-iterator);
  wide : All (λ (row : List Turn). length row ≡ l.width) (into_iter_items l.row-iterator);
  columns : AreColumnsOf l.yielded l.width l.columns.items;
}
