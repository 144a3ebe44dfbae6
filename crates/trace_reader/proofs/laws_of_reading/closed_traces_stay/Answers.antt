use Rattle.trace_reader.proofs.Laws.{closed-append, file_traces-append}
use Rattle.trace_reader.proofs.laws_of_reading.closed_traces_stay.Goals as goal

pub returns : goal.returns
returns c = λ bytes later. record { kept = closed-append bytes later; in_file = file_traces-append bytes later }
