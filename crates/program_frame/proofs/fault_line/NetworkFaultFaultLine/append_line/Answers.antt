use Rattle.std.proofs.lemmas.Result.{on_ok_weaker}
use Rattle.program_frame.proofs.fault_line.NetworkFaultFaultLine.append_line.Goals as goal

pub returns-clause-some : goal.returns-clause-some
returns-clause-some c = on_ok_weaker c.write_line.result (λ e. c.in_default.not-Memory) c.write_line.ensures.ok
