use Rattle.program_run.proofs.TableFiles.{table_files_change_nothing}
use Rattle.program_run.proofs.laws.table_files_change_nothing.Goals as goal

pub returns : goal.returns
returns c = table_files_change_nothing
