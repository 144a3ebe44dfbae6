-- The verdict on a certificate: first its rows, then whose proofs it has, then trace by trace.
use Rattle.std.specs.Prelude.{ℕ, ◌+◌, ◌==◌, if◌then◌else◌, List, [], ◌∷◌, Option, Some, None}
use Rattle.cost_model.specs.declared.params.Params.{Params}
use Rattle.road_network.specs.Net.{Net}
use Rattle.trace_reader.specs.declared.trace.Trace.{Trace}
use Rattle.bounded_table.specs.Table.{TableRow}
use Rattle.potential_certificate.specs.declared.proof.Certificate.{Certificate}
use Rattle.potential_certificate.specs.declared.proof.TraceProof.{TraceProof}
use Rattle.cert_checker.specs.declared.verdict.Condition.{Condition}
use Rattle.cert_checker.specs.declared.verdict.Condition.TheVariants.{Row, Trace as TraceIds}
use Rattle.cert_checker.specs.declared.verdict.Finding.{Finding}
use Rattle.cert_checker.specs.declared.verdict.Finding.TheVariants.{BadRow, Judged}
use Rattle.cert_checker.specs.declared.verdict.Verdict.{Verdict}
use Rattle.cert_checker.specs.declared.verdict.Verdict.TheVariants.{Proved, Refused}
use Rattle.cert_checker.specs.Rows.{first_bad_row}
use Rattle.cert_checker.specs.Verdicts.{case_of, or_else, trace_verdict}

-- the first place where a proof or a trace is missing or their ids differ; the first of these is
-- number k
abbrev pub apart_from : ℕ → List Trace → List TraceProof → Option ℕ
apart_from k [] [] = None
apart_from k [] (proof ∷ proofs) = Some k
apart_from k (trace ∷ traces) [] = Some k
apart_from k (trace ∷ traces) (proof ∷ proofs) =
    if proof.id == trace.id then apart_from (k + 1) traces proofs else Some k

-- a condition that fails at this place of the whole
abbrev pub refused_whole : Condition → Option ℕ → Verdict
refused_whole x None = Proved
refused_whole x (Some place) = Refused x 0 place

-- the first verdict that refuses a trace; the first of these is number k
abbrev pub verdict_from : Net → Params → List TableRow → ℕ → List Trace → List TraceProof → Verdict
verdict_from n p rows k [] proofs = Proved
verdict_from n p rows k (trace ∷ traces) [] = Proved
verdict_from n p rows k (trace ∷ traces) (proof ∷ proofs) =
    or_else (trace_verdict k (case_of n p rows trace proof))
    (verdict_from n p rows (k + 1) traces proofs)

-- the verdict on a certificate of these traces
unfoldable pub verdict : Net → Params → List Trace → Certificate → Verdict
verdict n p traces c =
    or_else (refused_whole Row (first_bad_row n p.bound c.rows))
    (or_else (refused_whole TraceIds (apart_from 0 traces c.proofs))
    (verdict_from n p c.rows 0 traces c.proofs))

-- what is found of it: the first bad row, or the verdict where no row is bad
abbrev pub found_of : Option ℕ → Verdict → Finding
found_of None v = Judged v
found_of (Some place) v = BadRow place

abbrev pub finding : Net → Params → List Trace → Certificate → Finding
finding n p traces c = found_of (first_bad_row n p.bound c.rows) (verdict n p traces c)
