use Rattle.std.proofs.Common.{List, length, ap, arith, ◌∙◌}
use Rattle.std.specs.List.{sum_by}
use Rattle.std.proofs.lemmas.List.{take_all}
use Rattle.match_text.specs.declared.matched.Routed.{Routed}
use Rattle.match_work.proofs.TownTexts.{cost_more}
use Rattle.match_work.proofs.towns.add_costs.Goals as goal

pub loop-piece-preserved : goal.loop-piece-preserved
loop-piece-preserved c =
    let pieces : List Routed = c.as_slice-piece-items.result.now in
    record {
      is = cost_more pieces c.loop-piece.piece-index c.loop-piece.cost c.from-cost.result c.piece-item.result c.loop-piece-test.true c.piece-item.is c.from-cost.ensures c.loop-piece.invariant.is;
      small = omega arith;
    }

pub returns : goal.returns
returns c =
    let pieces : List Routed = c.as_slice-piece-items.result.now in
    let all = take_all c.loop-piece.piece-index pieces c.loop-piece-test.false in
    let size = ap (λ (ps : List Routed). length ps) c.as_slice-piece-items.ensures in
    record {
      is = c.loop-piece.invariant.is ∙ ap (sum_by (λ (piece : Routed). piece.cost)) (all ∙ c.as_slice-piece-items.ensures);
      small = omega (arith, size);
    }
