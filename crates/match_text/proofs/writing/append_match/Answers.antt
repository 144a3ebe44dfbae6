use Rattle.std.proofs.Common.{rules}
use Rattle.std.proofs.lemmas.Result.{on_ok_weaker}
use Rattle.match_text.proofs.Written.{text_written}
use Rattle.match_text.proofs.writing.append_match.Goals as goal

pub returns-clause-ok : goal.returns-clause-ok
returns-clause-ok c = on_ok_weaker c.write_end.result (λ e. text_written c.args.m.now c.args.into.now c.write_trace.new.into c.append_points.new.into _ (search rules) (search rules) e) c.write_end.ensures.ok
