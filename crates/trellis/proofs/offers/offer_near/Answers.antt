use Rattle.std.proofs.Common.{◌<◌, ◌+◌, ◌∙◌, ℕ, length, ap, sym, subst, arith}
use Rattle.matching.specs.Cells.{cell_at}
use Rattle.trellis.specs.Offers.{offered}
use Rattle.trellis.specs.Steps.{AreOfferedUpTo}
use Rattle.trellis.proofs.OfferedCells.{up_to_next, up_to_same}
use Rattle.trellis.proofs.offers.offer_near.Goals.{in-Costs, in-Further+else-not-cannot_win_further}
use Rattle.trellis.proofs.offers.offer_near.Goals as goal

pub loop-j-preserved : goal.loop-j-preserved
loop-j-preserved c =
    let step = c.args.from.now.step.now in
    let rank : ℕ = c.args.from.now.rank in
    let j : ℕ = c.loop-j.j in
    let cells = c.loop-j.cells in
    let inv = c.loop-j.invariant in
    let lt : j < length cells = omega arith in
    let after : AreOfferedUpTo step rank (j + 1) c.match-way_to.cells = elim c.match-way_to.branch [
      | in-Costs w ↦
          let is = w.offer.ensures ∙ ap (λ way. offered (cell_at cells j) rank way) w.in-Costs.ensures.way in
          subst (AreOfferedUpTo step rank (j + 1)) (sym w.cells-is) (up_to_next step rank j cells w.offer.result inv.cells lt is)
      | in-Further+else-not-cannot_win_further w ↦
          subst (AreOfferedUpTo step rank (j + 1)) (sym w.cells-is) (up_to_same step rank j cells inv.cells lt (w.cannot_win_further.ensures w.if-not-cannot_win_further.false))
    ] in
    record { cells = after; same = c.way_to.ensures.same ∙ inv.same }
