-- The lines by which words, a network and traces are refused.
use Rattle.std.specs.Prelude.{◌≡◌, ◌⊎◌, ℕ, List, Result, Ok, Err, Some, option_map}
use Rattle.std.specs.declared.option.Option.{Option}
use Rattle.command_line.specs.Words.{command_or_line}
use Rattle.road_network.specs.FaultLine.{fault_line as network_fault_line}
use Rattle.road_network.specs.Net.{Net}
use Rattle.road_network.specs.NetworkFile.{network_of}
use Rattle.road_network.specs.declared.fault.NetworkFault.{NetworkFault}
use Rattle.road_network.specs.declared.limits.NetworkLimits.{NetworkLimits}
use Rattle.trace_reader.specs.Fault.{fault_line as trace_fault_line}
use Rattle.trace_reader.specs.Reading.{file_fault}

-- the line of a fault in place of the fault
abbrev pub said : Result Net NetworkFault → Result Net (List ℕ)
said (Ok net) = Ok net
said (Err fault) = Err (network_fault_line fault)

-- the network of a file within these limits, or the line of its first fault
abbrev pub network_said : NetworkLimits → List ℕ → Result Net (List ℕ)
network_said limits bytes = said (network_of limits bytes)

abbrev pub trace_limit : ℕ
trace_limit = 1_099_511_627_776

-- the line of the first fault of a trace file
abbrev pub traces_line : List ℕ → Option (List ℕ)
traces_line bytes = option_map trace_fault_line (file_fault bytes)

-- the table of lines, a row for each status: what is said of words, of a network and of traces
abbrev pub refusal_lines : ℕ → List ℕ → Type 0
refusal_lines status line =
    ((status ≡ 2) × ((words : List (List ℕ)) × (command_or_line words ≡ Err line)))
    ⊎ ((status ≡ 5)
    × ((limits : NetworkLimits) × (bytes : List ℕ) × (network_said limits bytes ≡ Err line)))
    ⊎ ((status ≡ 6) × ((bytes : List ℕ) × (traces_line bytes ≡ Some line)))
