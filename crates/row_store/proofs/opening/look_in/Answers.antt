use Rattle.std.proofs.Common.{sym, true≢false, arith}
use Rattle.row_store.proofs.Opened.{seen_open}
use Rattle.row_store.proofs.opening.look_in.Goals as goal

pub open_view-requires-clause-some : goal.open_view-requires-clause-some
open_view-requires-clause-some c = let node = c.requires.node in omega (arith, node)

pub returns-in_err-open_view-clause-again : goal.returns-in_err-open_view-clause-again
returns-in_err-open_view-clause-again c known = absurd (true≢false (sym (c.in_err-open_view.ensures.again (seen_open c.args.slots.now c.args.view.now c.args.n.0 c.requires.is known))))
