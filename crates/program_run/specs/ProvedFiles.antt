-- What `prove` writes of two files, `check` finds proved.
use Rattle.std.specs.Prelude.{◌≡◌, ℕ, List, Ok}
use Rattle.cost_model.specs.declared.params.Params.{Params}
use Rattle.cost_model.specs.Options.{IsAccepted}
use Rattle.program_frame.specs.Refusals.{network_said}
use Rattle.program_frame.specs.WholeTraces.{traces_said}
use Rattle.prove_work.specs.Certificates.{certificate_of}
use Rattle.road_network.specs.Net.{Net}
use Rattle.road_network.specs.declared.limits.NetworkLimits.{NetworkLimits}
use Rattle.trace_reader.specs.declared.trace.Trace.{Trace}
use Rattle.check_work.specs.Check.{check_said, proved_line}
use Rattle.prove_work.specs.Prove.{prove_said}

-- where the files are accepted, a text that `prove` writes of them is accepted by `check`, with the
-- same files and options
abbrev pub ProvedFilesAreAccepted : Type 0
ProvedFilesAreAccepted =
    (limits : NetworkLimits) (network traces : List ℕ) (p : Params) (n : Net)
    (taken : List Trace) (text : List ℕ)
    → IsAccepted p → network_said limits network ≡ Ok n → traces_said traces ≡ Ok taken
    → prove_said (record { network = n; params = p }) taken ≡ Ok text
    → check_said (record { network = n; params = p }) taken text
    ≡ Ok (proved_line (certificate_of (record { network = n; params = p }) taken))
