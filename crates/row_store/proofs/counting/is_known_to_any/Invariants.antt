use Rattle.std.proofs.Common.{◌≡◌, false, take}
use Rattle.row_store.specs.Store.{is_known_to_any}
use Rattle.row_store.proofs.counting.is_known_to_any.Given as goal

abbrev pub invariant-loop-reader : goal.invariant-loop-reader
invariant-loop-reader l = is_known_to_any (take l.reader-index l.readers) l.n.0 ≡ false
