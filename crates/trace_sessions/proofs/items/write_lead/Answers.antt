use Rattle.std.proofs.Common.{arith}
use Rattle.decimal_text.proofs.Laws.{length-decimal}
use Rattle.trace_sessions.proofs.items.write_lead.Goals as goal

pub write_digits-start-requires : goal.write_digits-start-requires
write_digits-start-requires c = let long = (length-decimal c.from.result (omega arith)).1 in (omega (arith, long), omega arith)
