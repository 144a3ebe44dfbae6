use Rattle.std.proofs.Common.{◌≡◌, length}
use Rattle.cert_checker.proofs.ToldPlaces.{TellPlaces}
use Rattle.cert_checker.proofs.placed_rows.PlacedRows.of.Given as goal

abbrev pub invariant-loop-place : goal.invariant-loop-place
invariant-loop-place l = record {
  count : length l.places.items ≡ length l.net.nodes;
  told : TellPlaces l.rows l.place l.places.items;
}
