-- What `prove` writes, `check` finds proved.
use Rattle.std.specs.Prelude.{◌≡◌, ℕ, List, Ok, All}
use Rattle.cert_checker.specs.Laws.{HaveShortIds}
use Rattle.cost_model.specs.Options.{IsAccepted}
use Rattle.prove_work.specs.Certificates.{certificate_of}
use Rattle.road_network.specs.Net.{IsLawful}
use Rattle.trace_reader.specs.Trace.{IsLawfulTrace}
use Rattle.trace_reader.specs.declared.trace.Trace.{Trace}
use Rattle.trace_match.specs.Setting.{Setting}
use Rattle.check_work.specs.Check.{check_said, proved_line}
use Rattle.prove_work.specs.Prove.{prove_said}

-- a text that `prove` writes of these traces is accepted by `check`, with the same traces and options
abbrev pub ProvedTextsAreAccepted : Type 0
ProvedTextsAreAccepted =
    (on : Setting) (traces : List Trace) (text : List ℕ)
    → IsLawful on.network → IsAccepted on.params → All IsLawfulTrace traces
    → HaveShortIds on.network traces
    → prove_said on traces ≡ Ok text
    → check_said on traces text ≡ Ok (proved_line (certificate_of on traces))
