use Rattle.std.proofs.Common.{◌<◌, length, subst, arith}
use Rattle.bounded_table.specs.Known.{IsKnownList}
use Rattle.bounded_table.specs.Rows.{RowsState}
use Rattle.bounded_table.proofs.KnownNodes.{known_inside, known_rises}
use Rattle.row_search.proofs.own_rows.OwnRows.invariants.Goals as goal

pub returns : goal.returns
returns c =
    let rows = c.self.inside.rows.items in
    let inv = c.self.invariant in
    subst (λ (o : RowsState). IsKnownList o.network o.known) c.self.view_is (record {
      rising = known_rises 0 rows;
      nodes = λ v known. let lt : v < length rows = known_inside rows v known in omega (arith, inv.holds.places_count);
    })
