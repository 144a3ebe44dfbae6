use Rattle.std.proofs.Common.{◌≡◌, ◌+◌, ◌<◌, ◌∷◌, [], ◌++◌, not, if◌then◌else◌, length, ap, ◌∙◌, sym, subst, arith}
use Rattle.std.proofs.lemmas.List.{get_or_default}
use Rattle.matching.specs.Layers.{candidate_of_rank}
use Rattle.route_rebuild.specs.Routes.{no_layer}
use Rattle.online_commit.specs.inside.Masks.{IsOnlyRank, mask_at}
use Rattle.online_commit.specs.inside.Pieces.{AreFirstSettled, shown_piece}
use Rattle.online_commit.proofs.LettingGo.{first-more, first-none}
use Rattle.online_commit.proofs.letting_go.settle_first.Goals as goal

pub loop-point-init : goal.loop-point-init
loop-point-init c = first-none (shown_piece c.args.tail.now) c.args.settled.now.items

pub loop-point-preserved : goal.loop-point-preserved
loop-point-preserved c =
    let a = shown_piece c.args.tail.now in
    let old = c.loop-point.settled.items in
    let x = c.candidate.result in
    let point = c.loop-point.point in
    let lt = c.loop-point-test.true in
    let few = c.requires.1 in
    let count = c.requires.0.masks_count in
    let inside : point < length a.layers = omega (arith, lt, few) in
    let only : IsOnlyRank (mask_at a.masks point) c.in-Some.rank =
    subst (λ m. IsOnlyRank m c.in-Some.rank) (c.index.ensures ∙ get_or_default a.masks point c.index.result.now 0 (omega (arith, inside, count))) c.in-Some.ensures in
    let pushed : c.push.new.self.items ≡ old ++ x ∷ [] =
    c.push.ensures.items ∙ ap (λ b. if b then old ++ x ∷ [] else old) (c.is_err.ensures.negation ∙ ap not c.if-is_err.false) in
    subst (AreFirstSettled a c.args.settled.now.items (point + 1)) (sym pushed)
    (first-more a c.args.settled.now.items old point c.in-Some.rank x c.loop-point.invariant only
    (c.candidate.ensures ∙ ap (λ l. candidate_of_rank l c.in-Some.rank) (c.index-in-loop-point.ensures ∙ get_or_default a.layers point c.index-in-loop-point.result.now no_layer inside)))
