use Rattle.program_run.proofs.ProvedRuns.{proved_runs_are_accepted}
use Rattle.program_run.proofs.laws.proved_runs_are_accepted.Goals as goal

pub returns : goal.returns
returns c = proved_runs_are_accepted
