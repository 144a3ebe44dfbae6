use Rattle.std.proofs.Common.{sym, subst}
use Rattle.row_store.specs.Store.{SlotSet}
use Rattle.row_store.specs.inside.Views.{AllFit}
use Rattle.row_store.proofs.judge.Judge.row_from.Goals as goal

pub of-known-requires-clause-fit : goal.of-known-requires-clause-fit
of-known-requires-clause-fit c = subst (λ (s : SlotSet). AllFit s c.args.places.now) (sym c.self.view_is) c.requires.fit
