use Rattle.std.proofs.Common.{◌+◌, ap, ◌∙◌, sym, subst}
use Rattle.matching.specs.Layers.{candidate_of_rank}
use Rattle.route_rebuild.specs.Routes.{no_layer}
use Rattle.online_commit.specs.inside.Steps.{AreAllChosen, rank_in}
use Rattle.online_commit.proofs.ClosedRun.{all-more, all-none}
use Rattle.online_commit.proofs.NextCells.{read-at}
use Rattle.online_commit.proofs.closing.chosen.Goals as goal

pub loop-point-init : goal.loop-point-init
loop-point-init c = all-none c.args.settled.now c.args.layers.now c.args.ranks.now c.in_ok-chosen.chosen.items c.in_ok-chosen.ensures.items

pub loop-point-preserved : goal.loop-point-preserved
loop-point-preserved c =
    let layers = c.args.layers.now in
    let ranks = c.args.ranks.now in
    let point = c.loop-point.point in
    let layer = read-at layers point c.index-layers-point.result no_layer c.loop-point-test.true c.index-layers-point.is in
    subst (AreAllChosen c.args.settled.now layers ranks (point + 1)) (sym c.in_ok-push.ensures.items)
    (all-more c.args.settled.now layers ranks point c.loop-point.chosen.items c.candidate.result c.loop-point.invariant
    (c.candidate.ensures ∙ ap (λ l. candidate_of_rank l (rank_in ranks point)) layer))
