-- `check NET TRACES CERT`: what is said of a certificate.
use Rattle.std.specs.Prelude.{ℕ, List, [], ◌∷◌, ◌++◌, Option, Some, None, Result, Ok, Err, codes, length}
use Rattle.std.specs.List.{sum_by}
use Rattle.std.specs.Result.{result_map_both}
use Rattle.cert_checker.specs.Rows.{first_bad_row}
use Rattle.cert_checker.specs.Whole.{verdict}
use Rattle.cert_checker.specs.declared.verdict.Condition.{Condition}
use Rattle.cert_checker.specs.declared.verdict.Condition.TheVariants.{Candidates, FirstCost, Relaxed, Tight, Pointer, Chosen, Break, Row, Route, Trace as TraceIds}
use Rattle.cert_checker.specs.declared.verdict.Verdict.{Verdict}
use Rattle.cert_checker.specs.declared.verdict.Verdict.TheVariants.{Proved, Refused}
use Rattle.command_line.specs.Options.{and_then}
use Rattle.cost_model.specs.declared.params.Params.{Params}
use Rattle.decimal_text.specs.Number.{decimal}
use Rattle.potential_certificate.specs.CertificateText.{certificate_text_limit}
use Rattle.potential_certificate.specs.Reading.{certificate_of_text}
use Rattle.potential_certificate.specs.declared.fault.CertFault.{CertFault}
use Rattle.potential_certificate.specs.declared.fault.CertFault.TheVariants.{BadLine, Cut, TooLong, Memory}
use Rattle.potential_certificate.specs.declared.proof.Certificate.{Certificate}
use Rattle.potential_certificate.specs.declared.proof.TraceProof.{TraceProof}
use Rattle.program_frame.specs.Outcome.{done_with}
use Rattle.program_frame.specs.Plan.{Plan, loads}
use Rattle.program_frame.specs.Plan.Plan.{ends}
use Rattle.program_frame.specs.Refusals.{network_said, trace_limit}
use Rattle.program_frame.specs.Total.{worded}
use Rattle.program_frame.specs.WholeTraces.{traces_said}
use Rattle.program_frame.specs.declared.stop.File.TheVariants.{Certificate as OfCertificate, Network, Traces}
use Rattle.road_network.specs.Limits.{file_limit}
use Rattle.road_network.specs.Net.{Net}
use Rattle.road_network.specs.declared.limits.NetworkLimits.{NetworkLimits}
use Rattle.trace_reader.specs.declared.trace.Trace.{Trace}
use Rattle.trace_match.specs.Setting.{Setting}

-- ---- the text

-- the line of a fault of the text; want of memory has none
abbrev pub certificate_fault_line : CertFault → List ℕ
certificate_fault_line (BadLine number) =
    codes "certificate line " ++ decimal number ++ codes ": bad line" ++ 10 ∷ []
certificate_fault_line Cut = codes "certificate: cut" ++ 10 ∷ []
certificate_fault_line TooLong = codes "certificate: too long" ++ 10 ∷ []
certificate_fault_line Memory = []

-- the certificate of a text, or the line of its fault
abbrev pub certificate_in : Params → List ℕ → Result Certificate (List ℕ)
certificate_in p bytes = result_map_both (λ c. c) certificate_fault_line (certificate_of_text p bytes)

-- ---- the verdict

abbrev pub condition_name : Condition → List ℕ
condition_name Candidates = codes "Candidates"
condition_name FirstCost = codes "FirstCost"
condition_name Relaxed = codes "Relaxed"
condition_name Tight = codes "Tight"
condition_name Pointer = codes "Pointer"
condition_name Chosen = codes "Chosen"
condition_name Break = codes "Break"
condition_name Row = codes "Row"
condition_name Route = codes "Route"
condition_name TraceIds = codes "Trace"

abbrev pub named : Condition → List ℕ
named x = codes ": " ++ condition_name x ++ 10 ∷ []

-- a condition that fails at this place of the rows or of the traces
abbrev pub refused_whole_line : List ℕ → ℕ → Condition → List ℕ
refused_whole_line subject place x =
    codes "refused " ++ subject ++ codes " " ++ decimal place ++ named x

-- a condition that fails at this point of this trace
abbrev pub refused_point_line : ℕ → ℕ → Condition → List ℕ
refused_point_line trace point x =
    codes "refused trace " ++ decimal trace ++ codes " point " ++ decimal point ++ named x

-- where all rows are right, only the condition on ids speaks of the whole
abbrev pub refused_trace_line : Condition → ℕ → ℕ → List ℕ
refused_trace_line TraceIds trace place =
    refused_whole_line (codes "traces place") place TraceIds
refused_trace_line x trace place = refused_point_line trace place x

-- the line of a refusal, where this is the place of the first row that is not right
abbrev pub refused_line : Option ℕ → Condition → ℕ → ℕ → List ℕ
refused_line (Some row) x trace place = refused_whole_line (codes "row") place x
refused_line None x trace place = refused_trace_line x trace place

abbrev pub verdict_said : Option ℕ → Verdict → Result (Unit {0}) (List ℕ)
verdict_said bad_row Proved = Ok tt
verdict_said bad_row (Refused x trace place) = Err (refused_line bad_row x trace place)

-- what the verdict on a certificate says, with the place of the first row that is not right
abbrev pub proofs_said : Net → Params → List Trace → Certificate → Result (Unit {0}) (List ℕ)
proofs_said net p traces c =
    verdict_said (first_bad_row net p.bound c.rows) (verdict net p traces c)

-- ---- what is written

-- how many pieces the proofs have
abbrev pub proved_piece_count : List TraceProof → ℕ
proved_piece_count proofs = sum_by (λ proof. length proof.pieces) proofs

abbrev pub pieces_proved : Certificate → ℕ
pieces_proved c = proved_piece_count c.proofs

-- `proved traces T pieces Q rows R`
abbrev pub proved_line : Certificate → List ℕ
proved_line c =
    worded (codes "proved traces ") (length c.proofs)
    ++ worded (codes " pieces ") (pieces_proved c)
    ++ worded (codes " rows ") (length c.rows)
    ++ 10 ∷ []

-- the line of a certificate of these traces that is proved, or the line of its refusal
abbrev pub proved_or_refused : Setting → List Trace → Certificate → Result (List ℕ) (List ℕ)
proved_or_refused on traces c =
    result_map_both (λ _. proved_line c) (λ line. line)
    (proofs_said on.network on.params traces c)

abbrev pub check_said : Setting → List Trace → List ℕ → Result (List ℕ) (List ℕ)
check_said on traces bytes =
    and_then (certificate_in on.params bytes) (proved_or_refused on traces)

-- ---- the plan

-- the network is read and accepted, then the traces, and then the certificate, which is refused where
-- its text has a fault or it is not proved
abbrev pub check_plan : NetworkLimits → (network traces certificate : List ℕ) (options : Params)
    → Plan
check_plan limits network traces certificate options =
    loads Network network (file_limit limits) 5 (network_said limits)
    (λ net. loads Traces traces trace_limit 6 traces_said
    (λ taken. loads OfCertificate certificate certificate_text_limit 7
    (check_said (record { network = net; params = options }) taken)
    (λ text. ends (done_with text))))
