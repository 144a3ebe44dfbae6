-- A certificate that is being written.
use Rattle.std.specs.Prelude.{◌≡◌, ℕ, ◌<◌, ◌≤◌, List, Result, Ok, Err, length}
use Rattle.potential_certificate.specs.CertificateText.{certificate_text_limit}
use Rattle.potential_certificate.specs.declared.fault.WriteFault.{WriteFault}
use Rattle.potential_certificate.specs.declared.fault.WriteFault.TheVariants.{TooLong, Memory}
use Rattle.trace_reader.specs.declared.trace.Trace.{Trace}
use Rattle.trace_match.specs.Setting.{Setting}
use Rattle.prove_work.specs.Prove.{text_of_proofs}

-- the text of the certificate of these traces, which is within the limit or is not
abbrev pub WritesProofs : Setting → List Trace → Result (List ℕ) WriteFault → Type 0
WritesProofs on traces (Ok text) =
    (text ≡ text_of_proofs on traces) × (length text ≤ certificate_text_limit)
WritesProofs on traces (Err TooLong) = certificate_text_limit < length (text_of_proofs on traces)
WritesProofs on traces (Err Memory) = Unit {0}
