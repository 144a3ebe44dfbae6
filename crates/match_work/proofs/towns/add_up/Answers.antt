use Rattle.std.proofs.Common.{refl, subst, arith}
use Rattle.std.proofs.lemmas.List.{take_all}
use Rattle.match_work.specs.inside.TownsDone.{AreMatchCosts}
use Rattle.match_work.proofs.TraceMatches.{room_next}
use Rattle.match_work.proofs.TownTexts.{costs_next}
use Rattle.match_work.proofs.towns.add_up.Goals as goal

pub loop-matched-init : goal.loop-matched-init
loop-matched-init c = record { pieces_are = refl; is = refl; small = omega arith }

pub add_costs-requires : goal.add_costs-requires
add_costs-requires c =
    let room = room_next c.args.matches.now c.loop-matched.matched-index c.matched-item.result c.loop-matched-test.true c.matched-item.is in
    omega (arith, room, c.requires)

pub loop-matched-preserved : goal.loop-matched-preserved
loop-matched-preserved c =
    costs_next c.args.matches.now c.loop-matched.matched-index c.matched-item.result c.loop-matched.costs _ c.len.result c.add_costs.result c.loop-matched-test.true c.matched-item.is c.loop-matched.invariant c.len.ensures c.add_costs.ensures refl

pub returns : goal.returns
returns c = subst (λ m. AreMatchCosts m c.loop-matched.costs) (take_all c.loop-matched.matched-index c.args.matches.now c.loop-matched-test.false) c.loop-matched.invariant
