use Rattle.std.proofs.Common.{◌≡◌, ◌<◌, ℕ, List, Option, Some, Contains, length, sym, ap, subst, ◌∙◌, arith}
use Rattle.std.specs.Prelude.{slice_get}
use Rattle.std.specs.Option.{option_copied}
use Rattle.bounded_table.specs.Known.{known_nodes}
use Rattle.bounded_table.specs.Rows.{RowsState}
use Rattle.bounded_table.specs.Table.{TableRow, IsRow}
use Rattle.bounded_table.proofs.KnownNodes.{get_at, known_inside, knows_by}
use Rattle.row_search.proofs.own_rows.OwnRows.get.Goals as goal

pub index-requires : goal.index-requires
index-requires c =
    let lt : c.args.n.0 < length c.self.inside.rows.items = known_inside c.self.inside.rows.items c.args.n.0 (rw (← c.self.view_is) at c.requires) in
    omega arith

pub unwrap-requires : goal.unwrap-requires
unwrap-requires c =
    let rows : List (Option TableRow) = c.self.inside.rows.items in
    let n : ℕ = c.args.n.0 in
    let known : Contains (known_nodes rows) n = rw (← c.self.view_is) at c.requires in
    let at : slice_get rows n ≡ Some c.index.result.now = get_at rows n c.index.result.now (known_inside rows n known) c.index.ensures in
    c.as_ref.ensures.variant ∙ (knows_by rows n c.index.result.now at).1 known

pub returns : goal.returns
returns c =
    let rows : List (Option TableRow) = c.self.inside.rows.items in
    let n : ℕ = c.args.n.0 in
    let known : Contains (known_nodes rows) n = rw (← c.self.view_is) at c.requires in
    let at : slice_get rows n ≡ Some c.index.result.now = get_at rows n c.index.result.now (known_inside rows n known) c.index.ensures in
    let holds : slice_get rows n ≡ Some (Some c.unwrap.result.now) = at ∙ ap Some (sym c.as_ref.ensures.value ∙ ap option_copied c.unwrap.ensures) in
    subst (λ (o : RowsState). IsRow o.network o.bound n c.unwrap.result.now) c.self.view_is (c.self.invariant.holds.rows n c.unwrap.result.now holds)
