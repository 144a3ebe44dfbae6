use Rattle.listed_files.proofs.Traces.{traces_are_read}
use Rattle.listed_files.proofs.traces_are_read.Goals as goal

pub returns : goal.returns
returns c = traces_are_read c.files_are_read_by_line.ensures
