use Rattle.trace_reader.proofs.Laws.{closed_stays, fault_in_stays, file_fault_known, file_traces_known}
use Rattle.trace_reader.proofs.laws_of_reading.known_faults_stay.Goals as goal

pub returns : goal.returns
returns c = λ bytes later fault known. record {
  kept = fault_in_stays bytes later fault known;
  of_file = file_fault_known bytes later fault known;
  no_more = closed_stays bytes later fault known;
  in_file = file_traces_known bytes later fault known;
}
