use Rattle.std.proofs.Common.{◌≡◌, map, length, replicate, None}
use Rattle.row_store.specs.inside.Views.{AllFit}
use Rattle.row_store.proofs.Places.{known_of}
use Rattle.row_store.proofs.view.View.with.Given as goal

abbrev pub invariant-loop-cell : goal.invariant-loop-cell
invariant-loop-cell l = record {
  count : length l.places.items ≡ l.cell-index;
  none : map known_of l.places.items ≡ replicate l.cell-index None;
  fit : AllFit l.slots l.places.items;
}
