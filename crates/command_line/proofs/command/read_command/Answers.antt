use Rattle.std.proofs.Common.{map, string_bytes}
use Rattle.command_line.proofs.Taken.{at_err, at_ok, of_error, of_matches}
use Rattle.command_line.proofs.command.read_command.Goals as goal

pub returns-in-Err-clause-err : goal.returns-in-Err-clause-err
returns-in-Err-clause-err c = of_error _ (map string_bytes c.args.words.now) c.in-Err.error c.refusal_of.result
    c.in_ok-program.ensures c.in-Err.ensures.kinds c.refusal_of.ensures.memory c.refusal_of.ensures.either

pub returns-clause-ok : goal.returns-clause-ok
returns-clause-ok c = at_ok _ c.command_in.result (of_matches _ (map string_bytes c.args.words.now) c.in-Ok.matches _
    c.in_ok-program.ensures c.in-Ok.ensures.kinds c.in-Ok.ensures.matches c.command_in.ensures.value)

pub returns-clause-err : goal.returns-clause-err
returns-clause-err c = at_err _ c.command_in.result (of_matches _ (map string_bytes c.args.words.now) c.in-Ok.matches _
    c.in_ok-program.ensures c.in-Ok.ensures.kinds c.in-Ok.ensures.matches c.command_in.ensures.value)
