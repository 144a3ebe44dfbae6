use Rattle.std.proofs.Common.{ap, ◌∙◌}
use Rattle.row_store.specs.Store.{Reading}
use Rattle.row_store.proofs.Kept.{near_is}
use Rattle.row_store.proofs.reader.Reader.takes_near.Goals as goal

pub looks_near-requires-clause-slots : goal.looks_near-requires-clause-slots
looks_near-requires-clause-slots c = near_is c.store.inside c.args.self.now.store c.in-Some.slots c.store.invariant (c.store.view_is ∙ ap (λ (y : Reading). y.store) c.self.view_is) c.in-Some.is
