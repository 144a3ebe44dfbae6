use Rattle.std.proofs.Common.{sym, subst}
use Rattle.row_store.specs.Store.{SlotSet}
use Rattle.row_store.specs.inside.Views.{AllFit}
use Rattle.row_store.proofs.view.View.find.Goals as goal

pub row_from-requires-clause-fit : goal.row_from-requires-clause-fit
row_from-requires-clause-fit c =
    subst (λ (s : SlotSet). AllFit s c.as_slice.result.now) (sym c.requires.is.judge)
    (subst (AllFit c.args.self.now.slots.now) (sym c.as_slice.ensures.value) c.requires.is.fit)
