use Rattle.std.proofs.Common.{refl}
use Rattle.row_store.proofs.Opened.{not_none}
use Rattle.row_store.proofs.opening.open_view.Goals as goal

pub returns-in_ok-opened-clause-open : goal.returns-in_ok-opened-clause-open
returns-in_ok-opened-clause-open c = (c.in_ok-opened.opened, refl, c.in_ok-opened.ensures.of)

pub returns-else-is_none-clause-open : goal.returns-else-is_none-clause-open
returns-else-is_none-clause-open c = not_none c.args.slots.now c.args.view.now c.is_none.result c.requires.view c.is_none.ensures c.if-is_none.false
