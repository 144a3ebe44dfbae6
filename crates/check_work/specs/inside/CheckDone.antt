-- A certificate that is read and checked.
use Rattle.std.specs.Prelude.{◌≢◌, ℕ, List, Result, Ok, Err, codes}
use Rattle.cert_checker.specs.declared.subject.Subject.{Subject}
use Rattle.cert_checker.specs.declared.verdict.Condition.TheVariants.{Row}
use Rattle.cert_checker.specs.declared.verdict.Finding.{Finding}
use Rattle.cert_checker.specs.declared.verdict.Finding.TheVariants.{BadRow, Judged}
use Rattle.cert_checker.specs.declared.verdict.Verdict.TheVariants.{Proved, Refused}
use Rattle.edge_io.specs.State.{ShelfState}
use Rattle.potential_certificate.specs.CertificateText.{certificate_text_limit}
use Rattle.potential_certificate.specs.declared.fault.CertFault.TheVariants.{Memory}
use Rattle.program_frame.specs.Loads.{Loads}
use Rattle.program_frame.specs.declared.stop.File.TheVariants.{Certificate as OfCertificate}
use Rattle.program_frame.specs.declared.stop.Refusal.TheVariants.{Certificate}
use Rattle.program_frame.specs.declared.stop.Stop.{Stop}
use Rattle.trace_reader.specs.declared.trace.Trace.{Trace}
use Rattle.trace_match.specs.Setting.{Setting}
use Rattle.check_work.specs.declared.verdicts.CertificateFault.{CertificateFault}
use Rattle.check_work.specs.declared.verdicts.CertificateFault.TheVariants as faults
use Rattle.check_work.specs.Check.{certificate_fault_line, check_said, refused_trace_line, refused_whole_line}

-- want of memory has no line
abbrev pub has_checked_fault_line : CertificateFault → Type 0
has_checked_fault_line (faults.Text fault) = fault ≢ Memory
has_checked_fault_line (faults.BadRow place) = Unit {0}
has_checked_fault_line (faults.Failed x trace place) = Unit {0}

abbrev pub checked_fault_line : CertificateFault → List ℕ
checked_fault_line (faults.Text fault) = certificate_fault_line fault
checked_fault_line (faults.BadRow place) = refused_whole_line (codes "row") place Row
checked_fault_line (faults.Failed x trace place) = refused_trace_line x trace place

-- the network and the options of what a certificate is about
abbrev pub setting : Subject → Setting
setting subject = record { network = subject.net.now; params = subject.params.now }

-- the certificate of these traces was read, and its line is said, or it is refused
abbrev pub LoadsCertificate : Setting → List Trace → (name : List ℕ) → (shelf shelf' : ShelfState)
    → Result (List ℕ) Stop → Type 0
LoadsCertificate on traces name shelf shelf' result =
    Loads Certificate OfCertificate name certificate_text_limit (check_said on traces) shelf shelf' result

-- what is said of what was found of a certificate
abbrev pub finding_said : Finding → Result (Unit {0}) (List ℕ)
finding_said (BadRow place) = Err (checked_fault_line (faults.BadRow place))
finding_said (Judged Proved) = Ok tt
finding_said (Judged (Refused x trace place)) = Err (checked_fault_line (faults.Failed x trace place))
