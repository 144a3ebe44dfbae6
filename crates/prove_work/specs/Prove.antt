-- `prove NET TRACES`: the certificate text of the matches of all traces.
use Rattle.std.specs.Prelude.{ℕ, List, [], ◌∷◌, ◌++◌, Result, Ok, Err, codes, if◌then◌else◌, length, nat_lt}
use Rattle.cost_model.specs.declared.params.Params.{Params}
use Rattle.potential_certificate.specs.CertificateText.{certificate_text, certificate_text_limit}
use Rattle.program_frame.specs.Outcome.{done_with}
use Rattle.program_frame.specs.Plan.{Plan, accepts, loads}
use Rattle.program_frame.specs.Plan.Plan.{ends}
use Rattle.program_frame.specs.Refusals.{network_said, trace_limit}
use Rattle.program_frame.specs.WholeTraces.{traces_said}
use Rattle.program_frame.specs.declared.stop.File.TheVariants.{Network, Traces}
use Rattle.prove_work.specs.Certificates.{certificate_of}
use Rattle.road_network.specs.Limits.{file_limit}
use Rattle.road_network.specs.declared.limits.NetworkLimits.{NetworkLimits}
use Rattle.trace_reader.specs.declared.trace.Trace.{Trace}
use Rattle.trace_match.specs.Setting.{Setting}

abbrev pub certificate_too_long : List ℕ
certificate_too_long = codes "fmm: certificate too long" ++ 10 ∷ []

-- the text of the certificate of these traces
abbrev pub text_of_proofs : Setting → List Trace → List ℕ
text_of_proofs on traces = certificate_text on.params (certificate_of on traces)

-- the text, or the line where it is too long
abbrev pub prove_said : Setting → List Trace → Result (List ℕ) (List ℕ)
prove_said on traces =
    if nat_lt certificate_text_limit (length (text_of_proofs on traces))
    then Err certificate_too_long else Ok (text_of_proofs on traces)

-- the network is read and accepted, then the traces, and then their certificate is written, or
-- refused as too long
abbrev pub prove_plan : NetworkLimits → (network traces : List ℕ) (options : Params) → Plan
prove_plan limits network traces options =
    loads Network network (file_limit limits) 5 (network_said limits)
    (λ net. loads Traces traces trace_limit 6 traces_said
    (λ taken. accepts 8 (prove_said (record { network = net; params = options }) taken)
    (λ text. ends (done_with text))))
