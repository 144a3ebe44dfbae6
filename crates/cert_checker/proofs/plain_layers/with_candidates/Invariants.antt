use Rattle.std.specs.Vec.Iter.{into_iter_items}
use Rattle.cert_checker.proofs.PlainLayers.{AreMade}
use Rattle.cert_checker.proofs.plain_layers.with_candidates.Given as goal

abbrev pub invariant-loop-candidates : goal.invariant-loop-candidates
invariant-loop-candidates l = AreMade l.net l.p l.fixes l.layers (into_iter_items l.candidates-iterator)
