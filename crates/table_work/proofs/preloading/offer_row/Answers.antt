use Rattle.std.proofs.Common.{◌≡◌, true, false, rules}
use Rattle.table_work.proofs.TriedRows.{IsTried, right_said, wrong_said}
use Rattle.table_work.proofs.preloading.offer_row.Goals as goal

pub returns-then-not-check-clause-said : goal.returns-then-not-check-clause-said
returns-then-not-check-clause-said c =
    let no : c.check.result ≡ false = search rules in
    let tried : IsTried c.args.roads.now c.args.checker.now c.args.row c.origin-origin.result.0 c.check.result =
    record { lawful = c.invariants.ensures; has = c.requires.node; network = c.requires.networks.0; of_origin = c.origin-origin.ensures; answer = c.check.ensures.row } in
    wrong_said c.args.roads.now c.args.checker.now c.args.row c.origin-origin.result.0 c.node_name.result c.refuse_fault.result (rw no at tried) c.node_name.ensures c.refuse_fault.ensures

pub returns-clause-said : goal.returns-clause-said
returns-clause-said c =
    let yes : c.check.result ≡ true = search rules in
    let tried : IsTried c.args.roads.now c.args.checker.now c.args.row c.origin-origin.result.0 c.check.result =
    record { lawful = c.invariants.ensures; has = c.requires.node; network = c.requires.networks.0; of_origin = c.origin-origin.ensures; answer = c.check.ensures.row } in
    right_said c.args.roads.now c.args.checker.now c.args.row c.origin-origin.result.0 (rw yes at tried)
