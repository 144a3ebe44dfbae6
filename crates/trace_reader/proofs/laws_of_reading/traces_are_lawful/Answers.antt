use Rattle.trace_reader.proofs.Lawful.{IsLawfulTrace-closed, IsLawfulTrace-file_traces}
use Rattle.trace_reader.proofs.laws_of_reading.traces_are_lawful.Goals as goal

pub returns : goal.returns
returns c = λ bytes. record { each = IsLawfulTrace-closed bytes; in_file = IsLawfulTrace-file_traces bytes }
