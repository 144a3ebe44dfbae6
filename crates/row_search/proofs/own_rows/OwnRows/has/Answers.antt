use Rattle.std.proofs.Common.{◌≡◌, ◌<◌, ℕ, List, Option, Some, length, rules}
use Rattle.std.specs.Prelude.{slice_get}
use Rattle.bounded_table.specs.Table.{TableRow}
use Rattle.bounded_table.proofs.KnownNodes.{get_at, knows_by}
use Rattle.row_search.proofs.own_rows.OwnRows.has.Goals as goal

pub returns : goal.returns
returns c =
    let rows : List (Option TableRow) = c.self.inside.rows.items in
    let n : ℕ = c.args.n.0 in
    let lt : n < length rows = search rules in
    let at : slice_get rows n ≡ Some c.index.result.now = get_at rows n c.index.result.now lt c.index.ensures in
    rw (← c.self.view_is, c.is_some.ensures) (knows_by rows n c.index.result.now at)
