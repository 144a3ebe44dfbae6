use Rattle.std.proofs.Common.{rules}
use Rattle.std.proofs.lemmas.Result.{on_ok_weaker}
use Rattle.match_text.proofs.Written.{piece_written}
use Rattle.match_text.proofs.line.append_piece.Goals as goal

pub returns-clause-ok : goal.returns-clause-ok
returns-clause-ok c = on_ok_weaker c.extend_from_slice.result (λ e. piece_written c.args.piece.now c.args.into.now c.write_head.new.into c.append_numbers.new.into _ (search rules) (search rules) e) c.extend_from_slice.ensures.ok
