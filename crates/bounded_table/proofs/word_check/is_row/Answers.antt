use Rattle.std.proofs.Common.{◌≡◌, ℕ, sym, subst, arith}
use Rattle.std.proofs.lemmas.Bool.Decides.{nat_tests}
use Rattle.road_network.specs.Net.{HasNode}
use Rattle.bounded_table.specs.Table.{IsRow}
use Rattle.bounded_table.proofs.GivenRows.{closed_is}
use Rattle.bounded_table.proofs.RowChecks.{row_is}
use Rattle.bounded_table.proofs.word_check.is_row.Goals as goal

pub returns-then-eq-clause-row : goal.returns-then-eq-clause-row
returns-then-eq-clause-row c =
    let n = c.args.net.now in
    let bound = c.args.bound in
    let row = c.args.row.now in
    let same : row.origin ≡ c.args.origin.0 = grind (arith, nat_tests) in
    let has : HasNode n row.origin = subst (HasNode n) (sym same) c.requires.origin in
    let is = row_is n bound row c.invariants.ensures c.invariants-2.ensures in
    let given = closed_is n bound row c.invariants.ensures c.invariants-2.ensures has in
    let test = rw c.entries.ensures at c.gives_all.ensures.given in (
      λ t. subst (λ (s : ℕ). IsRow n bound s row) same (is.0 (given.0 (test.0 t))),
      λ h. test.1 (given.1 (is.1 (subst (λ (s : ℕ). IsRow n bound s row) (sym same) h))),
    )
