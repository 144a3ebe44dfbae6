use Rattle.std.proofs.Common.{sym, true≢false, refl, subst, ◌∙◌, arith}
use Rattle.row_store.specs.Store.{Viewing}
use Rattle.row_store.specs.inside.Views.{Fills, viewing_of}
use Rattle.row_store.proofs.Places.{on_ok}
use Rattle.row_store.proofs.Opened.{seen_open, seen_some}
use Rattle.row_store.proofs.opening.fill_in.Goals as goal

pub open_view-requires-clause-some : goal.open_view-requires-clause-some
open_view-requires-clause-some c = let node = c.requires.node in omega (arith, node)

pub returns-in_err-open_view-clause-again : goal.returns-in_err-open_view-clause-again
returns-in_err-open_view-clause-again c known = absurd (true≢false (sym (c.in_err-open_view.ensures.again (seen_open c.args.slots.now c.args.view.now c.args.n.0 c.requires.is (known.0, known.1)))))

pub returns-clause-fills : goal.returns-clause-fills
returns-clause-fills c =
    subst (λ (v : Viewing). Fills v c.args.n.0 c.fill.result (viewing_of c.fill.new.self)) (sym (seen_some c.args.slots.now c.open_view.new.view c.in-Some.view c.in-Some.is) ∙ c.open_view.ensures.same) c.fill.ensures.fills

pub returns-clause-row : goal.returns-clause-row
returns-clause-row c = on_ok _ _ c.fill.result (λ has. (c.fill.new.self, refl, has)) c.fill.ensures.row
