-- Laws of a town: its files have no fault, and say its network and its traces.
use Rattle.std.specs.Prelude.{◌≡◌, ℕ, ◌≤◌, List, length, All, Ok, None}
use Rattle.road_network.specs.declared.limits.NetworkLimits.TheVariants.{Standard}
use Rattle.road_network.specs.NetworkFile.{network_of}
use Rattle.trace_reader.specs.Reading.{file_fault, file_traces}
use Rattle.trace_reader.specs.Trace.{IsLawfulTrace}
use Rattle.trace_reader.specs.declared.trace.Trace.{Trace}
use Rattle.town.specs.Network.{network_text, town_net}
use Rattle.town.specs.Traces.{town_trace_list, traces_text}

-- the network file of a town has no fault within the standard limits, and says its network
abbrev pub NetworkIsLawful : Type 0
NetworkIsLawful =
    (n : ℕ) → 2 ≤ n → n ≤ 100 → network_of Standard (network_text n) ≡ Ok (town_net n)

-- a lawful trace of 20 fixes
pub record IsTownTrace (trace : Trace) : Type 0 where
  pub lawful : IsLawfulTrace trace
  pub fixes : length trace.fixes ≡ 20

-- a trace file has no fault, and says these traces
pub record SaysTraces (bytes : List ℕ) (traces : List Trace) : Type 0 where
  pub faultless : file_fault bytes ≡ None
  pub are : file_traces bytes ≡ traces

-- the trace file of a town has no fault, and says t lawful traces of 20 fixes
pub record AreTownTraces (n t seed : ℕ) : Type 0 where
  pub says : SaysTraces (traces_text n t seed) (town_trace_list n t seed)
  pub count : length (town_trace_list n t seed) ≡ t
  pub each : All IsTownTrace (town_trace_list n t seed)

abbrev pub TracesAreLawful : Type 0
TracesAreLawful =
    (n t seed : ℕ) → 2 ≤ n → n ≤ 100 → 1 ≤ t → t ≤ 2_000 → AreTownTraces n t seed
