use Rattle.std.proofs.lemmas.Result.{err_from_is_err_and}
use Rattle.row_search.proofs.refusing_rows.RefusingRows.open.Goals as goal

pub returns-in_err-rows : goal.returns-in_err-rows
returns-in_err-rows c = let p = err_from_is_err_and c.from_residual.result c.from_residual.ensures.1 in rw p.1 tt
