use Rattle.std.proofs.Common.{◌≡◌, ◌+◌, ap, ◌∙◌, subst}
use Rattle.online_commit.specs.inside.Pieces.{IsAppended, Piece, Settles, shown_piece}
use Rattle.online_commit.proofs.Extended.{extended-made}
use Rattle.online_commit.proofs.feeding.extend.Goals as goal

-- `append_point` speaks of the piece with room
pub returns-clause-ok : goal.returns-clause-ok
returns-clause-ok c =
    let old = shown_piece c.args.piece.now in
    let mid = shown_piece c.make_room.new.piece in
    let made = c.append_point.new.piece in
    let changed = c.in_ok-changed.changed.items in
    let items = c.in_ok-changed.items in
    let new : Piece = record { first = made.first; told = made.told + c.len.result; layers = made.layers.items; tables = made.tables.items; masks = made.masks.items } in
    let room : mid ≡ old = c.make_room.ensures.same in
    let settled : Settles old c.args.layer c.args.cells changed items = subst (λ cs. Settles old c.args.layer cs changed items) c.as_slice.ensures c.in_ok-changed.ensures in
    let appended : IsAppended mid c.args.layer c.args.cells c.deref.result.now new = record {
      first = c.append_point.ensures.appended.first;
      layers = c.append_point.ensures.appended.layers;
      tables = c.append_point.ensures.appended.tables;
      count = c.append_point.ensures.appended.count;
      masks = c.append_point.ensures.appended.masks;
    } in
    extended-made old c.args.layer c.args.cells changed new items c.requires
    (subst (λ cs. IsAppended old c.args.layer c.args.cells cs new) c.deref.ensures.value (subst (λ a. IsAppended a c.args.layer c.args.cells c.deref.result.now new) room appended)) settled.masks settled.settled
    (ap (λ k. k + c.len.result) (c.append_point.ensures.told ∙ ap (λ a. a.told) room) ∙ ap (λ k. old.told + k) c.len.ensures)
