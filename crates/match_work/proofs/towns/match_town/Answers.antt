use Rattle.std.proofs.Common.{◌∙◌}
use Rattle.std.proofs.lemmas.Result.{err_from_is_err_and}
use Rattle.program_frame.proofs.Stages.{ends_performs, memory_performs}
use Rattle.match_work.proofs.towns.match_town.Goals as goal

pub returns-in_err-text : goal.returns-in_err-text
returns-in_err-text g c shelf =
    let p = err_from_is_err_and c.from_residual.result c.from_residual.ensures.1 in
    rw (p.1, p.2) (memory_performs _ shelf (g.K.Sink.state c.args.out.now))

pub returns : goal.returns
returns g c shelf = ends_performs (c.as_slice.ensures ∙ c.in_ok-text.ensures) c.put_text.ensures
