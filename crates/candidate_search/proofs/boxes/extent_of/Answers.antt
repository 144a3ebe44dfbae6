use Rattle.std.proofs.Common.{sym, subst, take}
use Rattle.std.proofs.lemmas.List.{map_more}
use Rattle.candidate_search.specs.declared.placed.Placed.{Placed}
use Rattle.candidate_search.specs.inside.Boxes.{HoldsPoints}
use Rattle.candidate_search.specs.inside.Placed.{points_of}
use Rattle.candidate_search.proofs.EdgeBoxes.{holds_none, no_point, one_more_inside}
use Rattle.candidate_search.proofs.boxes.extent_of.Goals as goal

pub loop-point-init : goal.loop-point-init
loop-point-init c = holds_none c.extent_at-extent.result c.extent_at-extent.ensures

pub loop-point-preserved : goal.loop-point-preserved
loop-point-preserved c =
    let s = c.loop-point in
    let group = c.args.group.now in
    subst (λ l. HoldsPoints l c.with_point-extent.result) (sym (map_more (λ (x : Placed). x.at) group s.point-index no_point c.loop-point-test.true))
    (one_more_inside (points_of (take s.point-index group)) _ s.extent c.with_point-extent.result s.invariant c.with_point-extent.ensures)
