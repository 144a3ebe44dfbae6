use Rattle.std.specs.Vec.Iter.{into_iter_items}
use Rattle.potential_certificate.proofs.Gatherings.{Adding}
use Rattle.potential_certificate.proofs.gathered.Gathered.add_items.Given as goal

abbrev pub invariant-loop-read : goal.invariant-loop-read
invariant-loop-read g l = Adding l.fn.self l.items l.self (into_iter_items l.read-iterator)
