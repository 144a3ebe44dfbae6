use Rattle.std.proofs.Common.{◌+◌, ◌-◌, ◌∷◌, [], ◌++◌, ap, sym, ◌∙◌}
use Rattle.matching.specs.Layers.{candidate_of_rank}
use Rattle.route_rebuild.specs.Routes.{no_layer}
use Rattle.online_commit.specs.declared.items.Item.TheVariants.{At}
use Rattle.online_commit.specs.inside.Steps.{rank_in, ranked_items}
use Rattle.online_commit.proofs.NextCells.{read-at}
use Rattle.online_commit.proofs.Settling.{ranked-more, ranked-none}
use Rattle.online_commit.proofs.closing.labelled.Goals as goal

pub loop-point-init : goal.loop-point-init
loop-point-init c = c.new-items.ensures ∙ sym (ranked-none c.args.first c.args.layers.now (rank_in c.args.ranks.now) c.args.start)

pub loop-point-preserved : goal.loop-point-preserved
loop-point-preserved c =
    let layers = c.args.layers.now in
    let rank = rank_in c.args.ranks.now in
    let point = c.loop-point.point in
    let before = ranked_items c.args.first layers rank c.args.start (point - c.args.start) in
    let layer = read-at layers point c.index-layers-point.result no_layer c.loop-point-test.true c.index-layers-point.is in
    c.in_ok-push.ensures.ok ∙ ap (λ ys. ys ++ At (c.args.first + point) c.candidate.result ∷ []) c.loop-point.invariant
    ∙ ap (λ x. before ++ At (c.args.first + point) x ∷ []) (c.candidate.ensures ∙ ap (λ l. candidate_of_rank l (rank point)) layer)
    ∙ sym (ranked-more c.args.first layers rank c.args.start point c.loop-point.auto.point)
