use Rattle.std.proofs.Common.{List, subst, arith}
use Rattle.std.proofs.lemmas.List.{take_all}
use Rattle.road_network.specs.declared.Arc.{Arc}
use Rattle.bounded_table.specs.inside.Tally.{IsTally}
use Rattle.bounded_table.proofs.Tallies.{tally_more}
use Rattle.bounded_table.proofs.word_check.tally_each.Goals as goal

pub loop-arc-preserved : goal.loop-arc-preserved
loop-arc-preserved c =
    tally_more c.args.words.now c.args.base c.loop-arc.arc-index c.args.arcs.now c.loop-arc.tally c.look-tally.result (omega arith)
    (record { given = c.look-tally.ensures.given; short = c.look-tally.ensures.short })
    c.loop-arc.invariant

pub returns : goal.returns
returns c = subst (λ (k : List Arc). IsTally c.args.words.now c.args.base k c.loop-arc.tally) (take_all c.loop-arc.arc-index c.args.arcs.now (omega arith)) c.loop-arc.invariant
