use Rattle.program_run.proofs.Statuses.{statuses_tell}
use Rattle.program_run.proofs.laws.statuses_tell_commands.Goals as goal

pub returns : goal.returns
returns c = statuses_tell
