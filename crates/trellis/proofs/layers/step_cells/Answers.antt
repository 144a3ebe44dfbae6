use Rattle.std.proofs.Common.{◌≡◌, ◌+◌, ◌∙◌, length, drop, refl, rules}
use Rattle.bounded_table.proofs.Asking.{asks_done, asks_err, asks_ok}
use Rattle.trellis.proofs.Learning.{all_more, asks_any, asks_dead, asks_more, only_any}
use Rattle.trellis.proofs.OfferedCells.{asks_origin, offer_taken, passed_over}
use Rattle.trellis.proofs.layers.step_cells.Goals as goal

pub loop-rank-preserved-in_default : goal.loop-rank-preserved-in_default
loop-rank-preserved-in_default g c =
    let step = c.args.step.now in
    let rank = c.loop-rank.rank in
    let inv = c.loop-rank.invariant in
    let dead = c.in_default.ensures.dead in
    record {
      offered = passed_over step rank c.loop-rank.cells dead inv.offered;
      asks = all_more step.net.now step.before.now step.costs.now rank inv.asks
          (asks_dead step.net.now step.before.now step.costs.now rank (g.R.Rows.state c.loop-rank.rows) dead);
      pairs = inv.pairs;
    }

pub loop-rank-preserved : goal.loop-rank-preserved
loop-rank-preserved g c =
    let step = c.args.step.now in
    let rank = c.loop-rank.rank in
    let inv = c.loop-rank.invariant in
    let from = c.in-Some.from in
    let at = c.in-Some.ensures.live in
    let new = c.offer_from.new.cells in
    let one = asks_origin step rank _ from at refl c.offer_from.ensures.asks in
    let asks = asks_more step.net.now step.before.now step.costs.now rank inv.asks one in
    record {
      offered = offer_taken step rank from c.loop-rank.cells new (drop (length new) c.loop-rank.cells) at inv.offered c.in_ok-offer_from.ensures.cells;
      asks = asks_ok asks c.in_ok-offer_from.was;
      pairs = c.offer_from.ensures.pairs ∙ inv.pairs;
    }

pub returns-in_err-offer_from-clause-asks : goal.returns-in_err-offer_from-clause-asks
returns-in_err-offer_from-clause-asks g c =
    let step = c.args.step.now in
    let rank = c.loop-rank.rank in
    let one = asks_origin step rank _ c.in-Some.from c.in-Some.ensures.live refl c.offer_from.ensures.asks in
    let asks = asks_more step.net.now step.before.now step.costs.now rank c.loop-rank.invariant.asks one in
    asks_err (only_any step.net.now step.before.now step.costs.now (rank + 1) asks.only) c.from_residual-in_err-offer_from.ensures.0

pub returns-clause-asks : goal.returns-clause-asks
returns-clause-asks g c =
    let step = c.args.step.now in
    let all : c.loop-rank.rank ≡ length step.costs.now = search rules in
    asks_done (asks_any step.net.now step.before.now step.costs.now c.loop-rank.rank all c.loop-rank.invariant.asks)
