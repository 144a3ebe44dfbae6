-- What `prove` writes of two files, `check` finds proved.
use Rattle.std.proofs.Common.{◌≡◌, ◌<◌, ◌^◌, List, Result, Ok, Err, ap, subst}
use Rattle.std.specs.List.{All}
use Rattle.cert_checker.specs.Laws.{HaveShortIds}
use Rattle.program_frame.specs.Refusals.{said}
use Rattle.road_network.specs.Net.{Net}
use Rattle.road_network.specs.NetworkFile.{network_of}
use Rattle.road_network.specs.declared.fault.NetworkFault.{NetworkFault}
use Rattle.trace_reader.specs.declared.trace.Trace.{Trace}
use Rattle.trace_reader.specs.Reading.{file_fault, file_traces}
use Rattle.program_frame.proofs.TakenTraces.{taken_lawful, traces_taken}
use Rattle.program_run.specs.ProvedFiles.{ProvedFilesAreAccepted}
use Rattle.program_run.proofs.ProvedTexts.{proved_texts_are_accepted}
use Rattle.follow_work.proofs.ReadIds.{read_ids}
use Rattle.program_run.proofs.ReadNetworks.{read_lawful, read_names}

network_read : (read : Result Net NetworkFault) (n : Net) → said read ≡ Ok n → read ≡ Ok n
network_read (Ok m) n e = ap (λ (k : Net). let r : Result Net NetworkFault = Ok k in r) (cc e)
network_read (Err f) n e = absurd (cc e)

pub proved_files_are_accepted : ProvedFilesAreAccepted
proved_files_are_accepted limits network traces p n taken text accepted net_is traces_are e =
    let read = network_read (network_of limits network) n net_is in
    let same = traces_taken (file_traces traces) (file_fault traces) taken traces_are in
    let short : HaveShortIds n taken = record { of_edges = read_names limits network n read; of_traces = subst (λ (ts : List Trace). All (λ (x : Trace). x.id < 2 ^ 32) ts) same (read_ids traces) } in
    proved_texts_are_accepted (record { network = n; params = p }) taken text (read_lawful limits network n read) accepted
    (taken_lawful traces taken traces_are) short e
