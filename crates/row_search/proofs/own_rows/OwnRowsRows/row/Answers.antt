use Rattle.std.proofs.Common.{refl}
use Rattle.std.proofs.lemmas.Bool.{false≢true}
use Rattle.std.proofs.lemmas.Result.{err_from_is_err_and}
use Rattle.bounded_table.proofs.Asking.{asks_err}
use Rattle.row_search.proofs.own_rows.OwnRowsRows.row.Goals as goal

pub get-requires : goal.get-requires
get-requires c = c.in_ok-fill.ensures.asks.all c.args.n.0 refl

pub fill-requires : goal.fill-requires
fill-requires c = c.requires

pub returns-in_err-fill : goal.returns-in_err-fill
returns-in_err-fill c =
    let p = err_from_is_err_and c.from_residual.result c.from_residual.ensures.1 in (
      (refl, λ _. tt, asks_err c.in_err-fill.ensures.asks.only c.from_residual.ensures.0),
      record { value = rw p.1 tt; again = λ known. absurd (false≢true (c.in_err-fill.ensures.again known)); after = tt },
    )

pub returns : goal.returns
returns c =
    let f = c.in_ok-fill.ensures.asks in
    let row = rw (f.only.keeps.network, f.only.keeps.bound) at c.get.ensures in (
      (refl, λ _. tt, record { only = f.only; all = f.all }),
      record { value = row; again = λ _. refl; after = tt },
    )
