-- How what was read is accepted or refused.
use Rattle.std.specs.Prelude.{ℕ, List, ◌≡◌, Result, Ok, Err, ◌≢◌}
use Rattle.program_frame.specs.declared.stop.Refusal.{Refusal}
use Rattle.program_frame.specs.declared.stop.Stop.{Stop}
use Rattle.program_frame.specs.Loads.{RefusesLoad}
use Rattle.command_line.specs.FaultLine.{fault_line as words_fault_line}
use Rattle.command_line.specs.declared.fault.WordsFault.{WordsFault}
use Rattle.command_line.specs.declared.fault.WordsFault.TheVariants as words_faults
use Rattle.program_frame.specs.Stops.{RefusesFault}
use Rattle.program_frame.specs.declared.stop.Refusal.TheVariants as refusals
use Rattle.road_network.specs.FaultLine.{fault_line as network_fault_line}
use Rattle.road_network.specs.declared.fault.NetworkFault.{NetworkFault}
use Rattle.road_network.specs.declared.fault.NetworkFault.TheVariants as network_faults
use Rattle.trace_reader.specs.Fault.{fault_line as trace_fault_line}
use Rattle.trace_reader.specs.declared.fault.TraceFault.{TraceFault}
use Rattle.trace_reader.specs.declared.fault.TraceFault.TheVariants as trace_faults

-- bytes that were accepted or refused
abbrev pub Accepts : {A : Type 0} → Refusal → Result A (List ℕ) → Result A Stop → Type 0
Accepts refusal said (Ok value) = said ≡ Ok value
Accepts refusal said (Err stop) = RefusesLoad refusal said stop

-- the ending where the words, the network or the traces have this fault, or memory ran out
abbrev pub RefusesWords : WordsFault → Stop → Type 0
RefusesWords fault = RefusesFault refusals.Words (fault ≢ words_faults.Memory) (words_fault_line fault)

abbrev pub RefusesNetwork : NetworkFault → Stop → Type 0
RefusesNetwork fault =
    RefusesFault refusals.Network (fault ≢ network_faults.Memory) (network_fault_line fault)

abbrev pub RefusesTraces : TraceFault → Stop → Type 0
RefusesTraces fault =
    RefusesFault refusals.Traces (fault ≢ trace_faults.Memory) (trace_fault_line fault)
