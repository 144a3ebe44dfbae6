use Rattle.trace_reader.proofs.LineByLine.{read_by_line}
use Rattle.trace_reader.proofs.laws_of_reading.files_are_read_by_line.Goals as goal

pub returns : goal.returns
returns c = λ bytes within. read_by_line bytes within
