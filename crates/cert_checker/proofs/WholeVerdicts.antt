-- The verdict on a certificate, trace by trace.
use Rattle.std.proofs.Common.{◌≡◌, ◌<◌, ◌≤◌, ◌==◌, ℕ, zero, suc, ◌+◌, min, Bool, true, false, cond, List, [], ◌∷◌, length, get_or, drop, Option, Some, None, refl, sym, ◌∙◌, ap, arith}
use Rattle.std.specs.Prelude.{slice_index_or}
use Rattle.std.proofs.lemmas.List.{drop_all}
use Rattle.std.proofs.lemmas.List.Elements.{All-map}
use Rattle.cost_model.specs.declared.params.Params.{Params}
use Rattle.cost_model.specs.Options.{IsAccepted}
use Rattle.road_network.specs.Net.{Net}
use Rattle.trace_reader.specs.declared.trace.Trace.{Trace}
use Rattle.trace_reader.specs.Trace.{IsLawfulTrace}
use Rattle.bounded_table.specs.Table.{TableRow}
use Rattle.matching.specs.declared.parts.Layer.{Layer}
use Rattle.matching.specs.Layers.{IsLayer}
use Rattle.matching.proofs.CandidateLayers.{candidates_narrow, layer_of_candidates}
use Rattle.matching.proofs.Lists.{drop-at}
use Rattle.potential_certificate.specs.declared.proof.TraceProof.{TraceProof}
use Rattle.trace_match.specs.Match.{layer_of}
use Rattle.cert_checker.specs.declared.verdict.Condition.{Condition}
use Rattle.cert_checker.specs.declared.verdict.Finding.TheVariants.{BadRow, Judged}
use Rattle.cert_checker.specs.declared.verdict.Verdict.{Verdict}
use Rattle.cert_checker.specs.declared.verdict.Verdict.TheVariants.{Proved, Refused}
use Rattle.cert_checker.specs.inside.CaseSeen.{IsCheckable}
use Rattle.cert_checker.specs.Rows.{first_bad_row}
use Rattle.cert_checker.specs.Verdicts.{case_of, or_else, trace_verdict}
use Rattle.cert_checker.specs.Whole.{apart_from, finding, found_of, refused_whole, verdict, verdict_from}
use Rattle.cert_checker.specs.declared.verdict.Condition.TheVariants.{Row, Trace as TraceIds}
use Rattle.potential_certificate.specs.declared.proof.Certificate.{Certificate}

-- the case of a lawful trace with right rows can be checked
pub case_checkable : (n : Net) (p : Params) (rows : List TableRow) (trace : Trace) (proof : TraceProof) → IsAccepted p → IsLawfulTrace trace → first_bad_row n p.bound rows ≡ None
    → IsCheckable (case_of n p rows trace proof)
case_checkable n p rows trace proof accepted lawful right = record {
  options = accepted;
  layers = All-map (IsLayer n p) (layer_of n p) trace.fixes
      (λ k d lt. layer_of_candidates n p (layer_of n p (slice_index_or trace.fixes k d)) (lawful.in_range k d lt) refl);
  narrow = All-map (λ (l : Layer). length l.candidates ≤ 32) (layer_of n p) trace.fixes
      (λ k d lt. let few = candidates_narrow n p (layer_of n p (slice_index_or trace.fixes k d)) accepted refl in omega (arith, few));
  rows = right;
}

-- where one list is shorter, its end is the first place
pub apart_short : (k place : ℕ) (traces : List Trace) (proofs : List TraceProof) → place ≡ min (length traces) (length proofs) → (length traces ≡ length proofs → ⊥)
    → Some k ≡ apart_from k (drop place traces) (drop place proofs)
apart_short k zero [] [] e ne = absurd (ne refl)
apart_short k zero [] (p ∷ proofs) e ne = refl
apart_short k zero (t ∷ traces) [] e ne = refl
apart_short k zero (t ∷ traces) (p ∷ proofs) e ne = absurd (omega (arith, e))
apart_short k (suc place) [] proofs e ne = absurd (omega (arith, e))
apart_short k (suc place) (t ∷ traces) [] e ne = absurd (omega (arith, e))
apart_short k (suc place) (t ∷ traces) (p ∷ proofs) e ne = apart_short k place traces proofs (omega (arith, e)) (λ same. ne (ap suc same))

apart_first : (b : Bool) (rest : Option ℕ) (k : ℕ) → cond b rest (Some k) ≡ None → rest ≡ None
apart_first true rest k h = h
apart_first false rest k h = absurd (cc)

-- where no ids are apart, there are as many proofs as traces
pub as_many : (k : ℕ) (traces : List Trace) (proofs : List TraceProof) → apart_from k traces proofs ≡ None → length traces ≡ length proofs
as_many k [] [] h = refl
as_many k [] (p ∷ proofs) h = absurd (cc)
as_many k (t ∷ traces) [] h = absurd (cc)
as_many k (t ∷ traces) (p ∷ proofs) h = ap suc (as_many (k + 1) traces proofs (apart_first (p.id == t.id) (apart_from (k + 1) traces proofs) k h))

-- the verdict from a place on: that on its trace, or those behind it
verdict_next : (n : Net) (p : Params) (rows : List TableRow) (number k : ℕ) (traces : List Trace) (proofs : List TraceProof) (t : Trace) (proof : TraceProof)
    → k < length traces → k < length proofs → t ≡ get_or traces k t → proof ≡ get_or proofs k proof
    → verdict_from n p rows number (drop k traces) (drop k proofs)
    ≡ or_else (trace_verdict number (case_of n p rows t proof)) (verdict_from n p rows (number + 1) (drop (k + 1) traces) (drop (k + 1) proofs))
verdict_next n p rows number k traces proofs t proof lt lp ist isp =
    ap (λ xs. verdict_from n p rows number xs (drop k proofs)) (drop-at traces k t (record { below = lt; is = ist }))
    ∙ ap (verdict_from n p rows number (t ∷ drop (k + 1) traces)) (drop-at proofs k proof (record { below = lp; is = isp }))

refused_first : (v rest : Verdict) (x : Condition) (trace place : ℕ) → v ≡ Refused x trace place → v ≡ or_else v rest
refused_first v rest x trace place e = e ∙ sym (ap (λ w. or_else w rest) e)

pub refused_here : (n : Net) (p : Params) (rows : List TableRow) (number k : ℕ) (traces : List Trace) (proofs : List TraceProof) (t : Trace) (proof : TraceProof) (v : Verdict) (x : Condition) (trace place : ℕ)
    → k < length traces → k < length proofs → t ≡ get_or traces k t → proof ≡ get_or proofs k proof → v ≡ trace_verdict number (case_of n p rows t proof) → v ≡ Refused x trace place
    → v ≡ verdict_from n p rows number (drop k traces) (drop k proofs)
refused_here n p rows number k traces proofs t proof v x trace place lt lp ist isp is refused =
    let rest = verdict_from n p rows (number + 1) (drop (k + 1) traces) (drop (k + 1) proofs) in
    refused_first v rest x trace place refused ∙ ap (λ w. or_else w rest) is ∙ sym (verdict_next n p rows number k traces proofs t proof lt lp ist isp)

pub proved_here : (n : Net) (p : Params) (rows : List TableRow) (number k : ℕ) (traces : List Trace) (proofs : List TraceProof) (t : Trace) (proof : TraceProof) (v : Verdict)
    → k < length traces → k < length proofs → t ≡ get_or traces k t → proof ≡ get_or proofs k proof → v ≡ trace_verdict number (case_of n p rows t proof) → v ≡ Proved
    → verdict_from n p rows (number + 1) (drop (k + 1) traces) (drop (k + 1) proofs) ≡ verdict_from n p rows number (drop k traces) (drop k proofs)
proved_here n p rows number k traces proofs t proof v lt lp ist isp is proved =
    let rest = verdict_from n p rows (number + 1) (drop (k + 1) traces) (drop (k + 1) proofs) in
    sym (verdict_next n p rows number k traces proofs t proof lt lp ist isp ∙ ap (λ w. or_else w rest) (sym is ∙ proved))

-- at the end nothing refuses
pub none_behind : (n : Net) (p : Params) (rows : List TableRow) (number k : ℕ) (traces : List Trace) (proofs : List TraceProof) → length traces ≤ k → Proved ≡ verdict_from n p rows number (drop k traces) proofs
none_behind n p rows number k traces proofs le = sym (ap (λ xs. verdict_from n p rows number xs proofs) (drop_all k traces le))

-- the parts of the verdict on a certificate
pub refused_by_rows : (n : Net) (p : Params) (traces : List Trace) (c : Certificate) (place : ℕ) → Some place ≡ first_bad_row n p.bound c.rows → Refused Row 0 place ≡ verdict n p traces c
unfolding verdict
refused_by_rows n p traces c place is =
    ap (λ o. or_else (refused_whole Row o) (or_else (refused_whole TraceIds (apart_from 0 traces c.proofs)) (verdict_from n p c.rows 0 traces c.proofs))) is

pub refused_by_ids : (n : Net) (p : Params) (traces : List Trace) (c : Certificate) (place : ℕ) → None ≡ first_bad_row n p.bound c.rows → Some place ≡ apart_from 0 traces c.proofs → Refused TraceIds 0 place ≡ verdict n p traces c
unfolding verdict
refused_by_ids n p traces c place right is =
    ap (λ o. or_else (refused_whole TraceIds o) (verdict_from n p c.rows 0 traces c.proofs)) is
    ∙ ap (λ o. or_else (refused_whole Row o) (or_else (refused_whole TraceIds (apart_from 0 traces c.proofs)) (verdict_from n p c.rows 0 traces c.proofs))) right

pub by_traces : (n : Net) (p : Params) (traces : List Trace) (c : Certificate) → None ≡ first_bad_row n p.bound c.rows → None ≡ apart_from 0 traces c.proofs → verdict_from n p c.rows 0 traces c.proofs ≡ verdict n p traces c
unfolding verdict
by_traces n p traces c right same =
    ap (λ o. or_else (refused_whole TraceIds o) (verdict_from n p c.rows 0 traces c.proofs)) same
    ∙ ap (λ o. or_else (refused_whole Row o) (or_else (refused_whole TraceIds (apart_from 0 traces c.proofs)) (verdict_from n p c.rows 0 traces c.proofs))) right

-- the verdict of what was found
row_of_found : (bad : Option ℕ) (v : Verdict) (place : ℕ) → BadRow place ≡ found_of bad v → Some place ≡ bad
row_of_found None v place e = absurd cc
row_of_found (Some k) v place e = cc

verdict_of_found : (bad : Option ℕ) (v w : Verdict) → Judged w ≡ found_of bad v → w ≡ v
verdict_of_found None v w e = cc
verdict_of_found (Some k) v w e = absurd cc

pub bad_row_found : (n : Net) (p : Params) (traces : List Trace) (c : Certificate) (place : ℕ) → BadRow place ≡ finding n p traces c → Refused Row 0 place ≡ verdict n p traces c
bad_row_found n p traces c place e = refused_by_rows n p traces c place (row_of_found (first_bad_row n p.bound c.rows) (verdict n p traces c) place e)

pub judged : (n : Net) (p : Params) (traces : List Trace) (c : Certificate) (v : Verdict) → Judged v ≡ finding n p traces c → v ≡ verdict n p traces c
judged n p traces c v e = verdict_of_found (first_bad_row n p.bound c.rows) (verdict n p traces c) v e
