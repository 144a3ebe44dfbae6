use Rattle.std.proofs.Common.{All, IfOk}
use Rattle.std.specs.Vec.Iter.{into_iter_items}
use Rattle.potential_certificate.specs.inside.Gathering.{AreEachReadOf, IsPlacedIn}
use Rattle.potential_certificate.proofs.drawing.read_each.Given as goal

abbrev pub invariant-loop-done : goal.invariant-loop-done
invariant-loop-done g l = record {
  reads : AreEachReadOf l.parts l.reads.items;
  placed : All (λ done. IfOk done (All (IsPlacedIn l.parts))) (into_iter_items l.done-iterator);
}
