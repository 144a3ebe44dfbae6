use Rattle.std.proofs.Common.{◌≡◌, ◌-◌, ◌^◌, Bool, true, is_some, List, sym, ap, ◌∙◌, subst}
use Rattle.std.specs.List.{list_any}
use Rattle.matching.specs.declared.parts.Cell.{Cell}
use Rattle.matching.specs.Growth.{CostAtMost}
use Rattle.cert_checker.specs.Case.{width}
use Rattle.cert_checker.specs.inside.CaseSeen.{case_seen}
use Rattle.cert_checker.specs.inside.Columns.{AreWaysOf}
use Rattle.cert_checker.proofs.StepWays.{AreParts, can_step, has_live, step_ways, stepped_of}
use Rattle.cert_checker.proofs.step_ways.ways_by_step.Goals as goal

pub invariant_of-step : goal.invariant_of-step
invariant_of-step c =
    let s = case_seen c.args.case.now in
    record {
      is = can_step s c.args.i c.layer-before.result.now c.table-costs.result.now c.layer-layer.result.now c.straight.result c.requires.ready
          (record { m-is = c.layer-before.ensures; before-is = c.table-costs.ensures; l-is = c.layer-layer.ensures }) c.if-not-are_small.ensures c.straight.ensures.value;
    }

pub returns-clause-ways : goal.returns-clause-ways
returns-clause-ways c =
    let s = case_seen c.args.case.now in
    let parts : AreParts s c.args.i c.layer-before.result.now c.table-costs.result.now c.layer-layer.result.now =
    record { m-is = c.layer-before.ensures; before-is = c.table-costs.ensures; l-is = c.layer-layer.ensures } in
    let small = subst (λ (cells : List Cell). CostAtMost (2 ^ 64 - 2 ^ 43) cells) c.table-costs.ensures c.if-not-are_small.ensures in
    let same = sym c.as_slice.ensures ∙ c.if-not-are_same.ensures ∙ c.table-own.ensures in
    let stepped = stepped_of s c.args.i c.layer-before.result.now c.table-costs.result.now c.layer-layer.result.now c.in_ok-cells.cells parts same c.in_ok-cells.ensures.cells in
    let live : c.has_live.result ≡ has_live s c.args.i = c.has_live.ensures ∙ ap (λ (cells : List Cell). list_any (λ (cell : Cell). is_some (cell.cost)) cells) c.table-own.ensures in
    subst (λ (any : Bool). AreWaysOf s c.args.i (width s c.args.i) (record { any = any; relaxed = true; tight = true; least = true })) (sym live)
    (step_ways s c.args.i c.requires.ready c.invariants.ensures small stepped)
