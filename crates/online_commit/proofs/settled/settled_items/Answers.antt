use Rattle.std.proofs.Common.{◌+◌, ◌≤◌, ◌∷◌, [], ◌++◌, length, ap, sym, subst, arith}
use Rattle.std.proofs.lemmas.List.{length_push}
use Rattle.online_commit.specs.declared.items.Item.TheVariants.{At}
use Rattle.online_commit.specs.inside.Masks.{IsNotOne, IsOnlyRank, mask_after}
use Rattle.online_commit.proofs.Settling.{IsSettledSoFar, settled-begin, settled-ends, settled-more}
use Rattle.online_commit.proofs.settled.settled_items.Goals as goal

pub loop-point-init : goal.loop-point-init
loop-point-init c =
    let piece = c.args.piece.now in
    subst (IsSettledSoFar piece.first (piece.layers.now ++ piece.layer.now ∷ []) (mask_after piece.masks.now piece.changed.now) c.args.start c.args.start) (sym c.new-items.ensures)
    (settled-begin piece.first (piece.layers.now ++ piece.layer.now ∷ []) (mask_after piece.masks.now piece.changed.now) c.args.start)

pub loop-point-preserved : goal.loop-point-preserved
loop-point-preserved c =
    let piece = c.args.piece.now in
    let layers = piece.layers.now ++ piece.layer.now ∷ [] in
    let mask = mask_after piece.masks.now piece.changed.now in
    let point = c.loop-point.point in
    let only : IsOnlyRank (mask point) c.in-Some.rank = subst (λ m. IsOnlyRank m c.in-Some.rank) c.mask_after.ensures c.in-Some.ensures in
    subst (IsSettledSoFar piece.first layers mask c.args.start (point + 1)) (sym c.in_ok-push.ensures.ok)
    (settled-more piece.first layers mask c.args.start point c.in-Some.rank c.loop-point.items (At (piece.first + point) c.candidate_at.result) c.loop-point.auto.point c.loop-point.invariant only
    (ap (At (piece.first + point)) c.candidate_at.ensures))

pub returns-in_default : goal.returns-in_default
returns-in_default c =
    let piece = c.args.piece.now in
    let layers = piece.layers.now ++ piece.layer.now ∷ [] in
    let mask = mask_after piece.masks.now piece.changed.now in
    let point = c.loop-point.point in
    let lt = c.loop-point-test.true in
    settled-ends piece.first layers mask c.args.start point c.loop-point.items c.loop-point.auto.point (omega (arith, lt, length_push piece.layers.now piece.layer.now)) c.loop-point.invariant
    (λ k. subst IsNotOne c.mask_after.ensures c.in_default.ensures)

pub returns : goal.returns
returns c =
    let piece = c.args.piece.now in
    let layers = piece.layers.now ++ piece.layer.now ∷ [] in
    let mask = mask_after piece.masks.now piece.changed.now in
    let point = c.loop-point.point in
    let ge = c.loop-point-test.false in
    let len = length_push piece.layers.now piece.layer.now in
    let start = c.requires.start in
    let end : point ≤ length layers = omega (arith, len, start) in
    settled-ends piece.first layers mask c.args.start point c.loop-point.items c.loop-point.auto.point end c.loop-point.invariant (λ k. absurd (omega (arith, k, ge, len)))
