use Rattle.std.proofs.Common.{◌≡◌, length}
use Rattle.row_search.specs.inside.FansInside.{AreOfNodes}
use Rattle.row_search.proofs.fans.Fans.new.Given as goal

abbrev pub invariant-loop-n : goal.invariant-loop-n
invariant-loop-n l = record {
  count : length l.fans.items ≡ l.n;
  each : AreOfNodes l.network l.fans.items;
}
