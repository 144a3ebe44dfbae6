use Rattle.std.proofs.Common.{rules}
use Rattle.std.proofs.lemmas.Result.{on_ok_weaker}
use Rattle.row_text.proofs.Written.{row_written}
use Rattle.row_text.proofs.writing.append_row.Goals as goal

pub returns-clause-ok : goal.returns-clause-ok
returns-clause-ok c = on_ok_weaker c.extend_from_slice-2.result (λ e. row_written c.args.row.now c.args.into.now c.extend_from_slice.new.self c.write_unsigned.new.into c.append_entries.new.into _ (search rules) (search rules) (search rules) e) c.extend_from_slice-2.ensures.ok
