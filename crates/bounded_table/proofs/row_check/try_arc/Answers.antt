use Rattle.std.proofs.Common.{◌≡◌, ◌≤◌, ◌+◌, ℕ, Some, ap, rules, arith}
use Rattle.std.proofs.lemmas.Bool.Decides.{nat_tests}
use Rattle.std.proofs.lemmas.Grind.{common_steps}
use Rattle.std.specs.Option.{option_map}
use Rattle.bounded_table.specs.Table.{entry_in, label_in, label_of}
use Rattle.bounded_table.proofs.Arcs.{listed_by}
use Rattle.bounded_table.proofs.row_check.try_arc.Goals as goal

pub returns-clause-some : goal.returns-clause-some
returns-clause-some c =
    let entries = c.args.row.now.entries in
    let arc = c.args.arc in
    let at : ℕ = c.args.distance + arc.length in
    let found : entry_in entries arc.to.0 ≡ Some c.in_ok-found.found = search (rules, common_steps) in
    let by = listed_by (label_in entries) arc.to.0 arc.edge.0 at (label_of c.in_ok-found.found) (ap (option_map label_of) found) in
    let test = rw (c.from.ensures, c.from-2.ensures) at c.compare.ensures.some in
    let short : at ≤ c.args.bound = grind (arith, nat_tests) in (
      λ some inside. by.0 (test.0 some),
      λ relaxed. test.1 (by.1 (relaxed short)),
    )

pub returns-in_err-found-clause-given : goal.returns-in_err-found-clause-given
returns-in_err-found-clause-given c = rw c.from_residual.ensures tt
