use Rattle.std.proofs.Common.{refl, ap, ◌∙◌}
use Rattle.std.proofs.lemmas.Result.{err_from_is_err_and}
use Rattle.bounded_table.specs.Rows.{RowsState}
use Rattle.bounded_table.proofs.Asking.{asks_err}
use Rattle.row_search.proofs.TwoBounds.{only_of, row_named}
use Rattle.row_search.proofs.near_rows.NearRowsRows.row.Goals as goal

pub returns-in_err-fill-2 : goal.returns-in_err-fill-2
returns-in_err-fill-2 c =
    let p = err_from_is_err_and c.from_residual-in_err-fill-2.result c.from_residual-in_err-fill-2.ensures.1 in
    let only = only_of c.in_err-fill-2.ensures.asks.only.keeps.bound c.in_ok-fill.ensures.asks.only in (
      (refl, λ _. tt, asks_err (rw c.self.view_is at only) c.from_residual-in_err-fill-2.ensures.0),
      record { value = rw p.1 tt; after = tt },
    )

pub returns : goal.returns
returns c =
    let near = c.in_ok-fill.ensures.asks in
    let whole = c.in_ok-fill-2.ensures.asks.only.keeps in
    let only = only_of whole.bound near.only in
    let network = whole.network ∙ c.self.invariant.network ∙ ap (λ (k : RowsState). k.network) c.self.view_is in
    let bound = whole.bound ∙ ap (λ (k : RowsState). k.bound) c.self.view_is in (
      (refl, λ _. tt, record { only = rw c.self.view_is at only; all = near.all }),
      record { value = row_named network bound c.get.ensures; after = tt },
    )
