use Rattle.std.proofs.Common.{◌≡◌, ◌++◌, length}
use Rattle.std.specs.Vec.Iter.{into_iter_items, into_iter_len}
use Rattle.match_pool.proofs.Columns.{Adding}
use Rattle.match_pool.proofs.tables.add_row.Given as goal

abbrev pub invariant-loop-turn : goal.invariant-loop-turn
invariant-loop-turn l = record {
  whole : l.yielded ++ into_iter_items l.turn-iterator ≡ into_iter_items l.initial.turn-iterator;
  left : into_iter_len l.turn-iterator ≡ length (into_iter_items l.turn-iterator);
  at : l.place ≡ length l.yielded;
  long : length (into_iter_items l.initial.turn-iterator) ≡ length l.initial.columns.items;
  adding : Adding (into_iter_items l.initial.turn-iterator) l.initial.columns.items l.place l.columns.items;
}
