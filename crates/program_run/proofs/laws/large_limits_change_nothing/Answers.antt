use Rattle.program_run.proofs.LargeProgram.{large_limits_change_nothing}
use Rattle.program_run.proofs.laws.large_limits_change_nothing.Goals as goal

pub returns : goal.returns
returns c = large_limits_change_nothing
