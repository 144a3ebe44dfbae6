use Rattle.std.proofs.Common.{◌↔◌, ℕ, arith, subst}
use Rattle.std.specs.Prelude.{IsTrue}
use Rattle.bounded_table.specs.Table.{IsRow}
use Rattle.bounded_table.proofs.RightRows.{tried_is}
use Rattle.cert_checker.proofs.rows.is_right.Goals as goal

pub returns-then-origin-node_count : goal.returns-then-origin-node_count
returns-then-origin-node_count c =
    let net = c.args.net.now in
    let row = c.args.row.now in
    let t = c.check_row.result in
    tried_is net c.args.bound row t c.invariants.ensures (omega (arith, c.if-origin-node_count.true, c.origin.ensures, c.node_count.ensures))
    (subst (λ (v : ℕ). IsTrue t ↔ IsRow net c.args.bound v row) c.origin-then-origin-node_count.ensures c.check_row.ensures)
