use Rattle.std.proofs.Common.{ℕ, ◌-◌, List, length, slice_index_or, subst, arith, refl, ap}
use Rattle.std.proofs.lemmas.List.{take_all}
use Rattle.road_network.specs.declared.Arc.{Arc}
use Rattle.std.specs.Prelude.{nat_le}
use Rattle.bounded_table.specs.inside.Tally.{IsTally}
use Rattle.bounded_table.proofs.Arcs.{no_arc}
use Rattle.bounded_table.proofs.Tallies.{tally_next}
use Rattle.bounded_table.proofs.word_check.tally_few.Goals as goal

pub loop-tried-preserved : goal.loop-tried-preserved
loop-tried-preserved c =
    let arcs : List Arc = c.args.arcs.now in
    tally_next c.args.words.now c.args.base c.loop-tried.tried (length arcs - 1) arcs (slice_index_or arcs c.min.result no_arc) (nat_le c.loop-tried.tried (length arcs - 1)) c.loop-tried.tally c.look-tally.result (omega arith)
    (ap (λ (k : ℕ). slice_index_or arcs k no_arc) c.min.ensures)
    refl
    (record { given = c.look-tally.ensures.given; short = c.look-tally.ensures.short })
    c.loop-tried.invariant

pub returns : goal.returns
returns c = subst (λ (k : List Arc). IsTally c.args.words.now c.args.base k c.loop-tried.tally) (take_all c.loop-tried.tried c.args.arcs.now (omega arith)) c.loop-tried.invariant
