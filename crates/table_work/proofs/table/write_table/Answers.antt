use Rattle.std.proofs.lemmas.Result.{err_from_is_err_and}
use Rattle.program_frame.specs.declared.stop.Refusal.TheVariants.{TooLong}
use Rattle.program_frame.proofs.Stages.{accepts_performs, accepts_refuses, ends_performs, loads_fails, loads_performs}
use Rattle.table_work.proofs.table.write_table.Goals as goal

pub returns-in_err-roads : goal.returns-in_err-roads
returns-in_err-roads g c =
    let p = err_from_is_err_and c.from_residual.result c.from_residual.ensures.1 in
    rw (p.1, p.2) (loads_fails _ (λ e. cc) c.in_err-roads.ensures)

pub returns-in_err-text : goal.returns-in_err-text
returns-in_err-text g c =
    let p = err_from_is_err_and c.from_residual-in_err-text.result c.from_residual-in_err-text.ensures.1 in
    loads_performs _ _ c.in_ok-roads.ensures (rw (p.1, p.2) (accepts_refuses TooLong _ _ (λ e. cc) c.in_err-text.ensures))

pub returns : goal.returns
returns g c =
    loads_performs _ _ c.in_ok-roads.ensures (accepts_performs _ _ c.in_ok-text.ensures (ends_performs c.as_slice.ensures c.put_text.ensures))
