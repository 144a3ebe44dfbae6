use Rattle.program_run.proofs.ProvedFiles.{proved_files_are_accepted}
use Rattle.program_run.proofs.laws.proved_files_are_accepted.Goals as goal

pub returns : goal.returns
returns c = proved_files_are_accepted
