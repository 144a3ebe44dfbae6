use Rattle.std.proofs.Common.{◌+◌, ◌≤◌, ◌∷◌, [], ◌++◌, length, subst}
use Rattle.online_commit.specs.inside.Masks.{AreMasks, mask_after}
use Rattle.online_commit.specs.inside.Pieces.{shown_piece}
use Rattle.online_commit.specs.inside.Steps.{AreSettled}
use Rattle.online_commit.proofs.feeding.settle.Goals as goal

-- the calls speak of what is lent to them
pub returns : goal.returns
returns c =
    let old = shown_piece c.args.piece.now in
    let cells = c.args.cells.now in
    let layer = c.args.layer.now in
    let changed = c.in_ok-changed.changed.items in
    let items = c.in_ok-items.items in
    record {
      few = subst (λ ms. length changed ≤ length ms + 1) c.deref-2.ensures.value c.in_ok-changed.ensures.1;
      masks = subst (λ ts. AreMasks (ts ++ cells ∷ []) (mask_after old.masks changed) (length ts + 1)) c.deref.ensures.value
          (subst (λ ms. AreMasks (c.deref.result.now ++ cells ∷ []) (mask_after ms changed) (length c.deref.result.now + 1)) c.deref-2.ensures.value c.in_ok-changed.ensures.2);
      settled = subst (λ ls. AreSettled old.first (ls ++ layer ∷ []) (mask_after old.masks changed) old.told items) c.deref-3.ensures.value
          (subst (λ ms. AreSettled old.first (c.deref-3.result.now ++ layer ∷ []) (mask_after ms changed) old.told items) c.deref-4.ensures.value
          (subst (λ cs. AreSettled old.first (c.deref-3.result.now ++ layer ∷ []) (mask_after c.deref-4.result.now cs) old.told items) c.deref-5.ensures.value c.in_ok-items.ensures));
    }
