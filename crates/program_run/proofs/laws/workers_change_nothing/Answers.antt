use Rattle.program_run.proofs.Workers.{workers_change_nothing}
use Rattle.program_run.proofs.laws.workers_change_nothing.Goals as goal

pub returns : goal.returns
returns c = workers_change_nothing
