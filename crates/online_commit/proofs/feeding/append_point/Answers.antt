use Rattle.std.proofs.Common.{ℕ, List, sym, ap, ◌∙◌, subst, arith, length}
use Rattle.std.proofs.lemmas.List.{with_items_is}
use Rattle.online_commit.specs.inside.Pieces.{IsAppended, Piece, shown_piece}
use Rattle.online_commit.proofs.Writing.{appended-made}
use Rattle.online_commit.proofs.feeding.append_point.Goals as goal

-- a push for which there is room does not fail
pub returns-in_err-push-clause-ok : goal.returns-in_err-push-clause-ok
returns-in_err-push-clause-ok c = let full = c.in_err-push.ensures.full in let room = c.requires.room.layers in absurd (omega (arith, full, room))

pub returns-in_err-push-clause-told : goal.returns-in_err-push-clause-told
returns-in_err-push-clause-told c = let full = c.in_err-push.ensures.full in let room = c.requires.room.layers in absurd (omega (arith, full, room))

pub returns-in_err-push-clause-appended : goal.returns-in_err-push-clause-appended
returns-in_err-push-clause-appended c = let full = c.in_err-push.ensures.full in let room = c.requires.room.layers in absurd (omega (arith, full, room))

pub returns-in_err-push-2-clause-ok : goal.returns-in_err-push-2-clause-ok
returns-in_err-push-2-clause-ok c = let full = c.in_err-push-2.ensures.full in let room = c.requires.room.tables in absurd (omega (arith, full, room))

pub returns-in_err-push-2-clause-told : goal.returns-in_err-push-2-clause-told
returns-in_err-push-2-clause-told c = let full = c.in_err-push-2.ensures.full in let room = c.requires.room.tables in absurd (omega (arith, full, room))

pub returns-in_err-push-2-clause-appended : goal.returns-in_err-push-2-clause-appended
returns-in_err-push-2-clause-appended c = let full = c.in_err-push-2.ensures.full in let room = c.requires.room.tables in absurd (omega (arith, full, room))

pub returns-in_err-push-3-clause-ok : goal.returns-in_err-push-3-clause-ok
returns-in_err-push-3-clause-ok c = let full = c.in_err-push-3.ensures.full in let room = c.requires.room.masks in absurd (omega (arith, full, room))

pub returns-in_err-push-3-clause-told : goal.returns-in_err-push-3-clause-told
returns-in_err-push-3-clause-told c = let full = c.in_err-push-3.ensures.full in let room = c.requires.room.masks in absurd (omega (arith, full, room))

pub returns-in_err-push-3-clause-appended : goal.returns-in_err-push-3-clause-appended
returns-in_err-push-3-clause-appended c = let full = c.in_err-push-3.ensures.full in let room = c.requires.room.masks in absurd (omega (arith, full, room))

pub returns-clause-appended : goal.returns-clause-appended
returns-clause-appended c =
    let old = shown_piece c.args.piece.now in
    let masks = c.write_masks.new.masks in
    let new : List ℕ → Piece = λ ms. record { first = old.first; told = old.told; layers = c.push.new.self.items; tables = c.push-2.new.self.items; masks = ms } in
    subst (λ ms. IsAppended old c.args.layer c.args.cells c.args.changed.now (new ms)) (sym (with_items_is c.push-3.new.self masks (c.write_masks.auto.masks ∙ ap length c.deref_mut.ensures.value ∙ sym c.push-3.new.self.ok.0)))
    (appended-made old c.args.layer c.args.cells c.args.changed.now c.deref_mut.result.now masks c.push.new.self.items c.push-2.new.self.items
    c.in_ok-push.ensures.items c.in_ok-push-2.ensures.items (c.deref_mut.ensures.value ∙ c.in_ok-push-3.ensures.items) c.write_masks.auto.masks c.write_masks.ensures)
