use Rattle.std.proofs.Common.{◌↔◌, ℕ, arith, subst}
use Rattle.std.specs.Prelude.{IsTrue}
use Rattle.road_network.specs.Net.{Net}
use Rattle.bounded_table.specs.Table.{IsRow}
use Rattle.bounded_table.proofs.RightRows.{tried_is}
use Rattle.cert_checker.proofs.checked_rows.is_right.Goals as goal

pub returns-then-origin-node_count-clause-right : goal.returns-then-origin-node_count-clause-right
returns-then-origin-node_count-clause-right c =
    let net = c.args.net.now in
    let bound = c.args.checker.now.bound in
    let row = c.args.row.now in
    let t = c.check.result in
    tried_is net bound row t c.invariants.ensures (omega (arith, c.if-origin-node_count.true, c.origin.ensures, c.node_count.ensures))
    (subst (λ (v : ℕ). IsTrue t ↔ IsRow net bound v row) c.origin-then-origin-node_count.ensures
    (subst (λ (n : Net). IsTrue t ↔ IsRow n bound c.origin-then-origin-node_count.result.0 row) c.requires c.check.ensures.row))
