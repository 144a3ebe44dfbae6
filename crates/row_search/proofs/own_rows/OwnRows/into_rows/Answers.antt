use Rattle.std.proofs.Common.{map, ap, ◌∙◌}
use Rattle.std.proofs.lemmas.Result.{IfOk-weaker}
use Rattle.bounded_table.specs.RowValue.{row_of}
use Rattle.bounded_table.specs.Rows.{RowsState}
use Rattle.row_search.proofs.own_rows.OwnRows.into_rows.Goals as goal

pub returns : goal.returns
returns c =
    IfOk-weaker c.rows_in.result _ _
    (λ found held. held c.self.inside.searcher c.invariants.ensures c.self.invariant.holds ∙ ap (λ (o : RowsState). map (row_of o.network o.bound) o.known) c.self.view_is)
    c.rows_in.ensures
