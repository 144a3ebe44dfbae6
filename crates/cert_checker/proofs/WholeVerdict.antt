-- A certificate is proved exactly where it is one of the matches of the traces.
use Rattle.std.proofs.Common.{◌≡◌, ℕ, ◌+◌, ◌==◌, Bool, true, false, cond, List, [], ◌∷◌, get_or, Option, Some, None, refl, ◌∙◌, ap, arith}
use Rattle.std.specs.List.{All}
use Rattle.std.proofs.lemmas.Bool.{eq-eqb, eqb-true}
use Rattle.std.proofs.lemmas.List.Elements.{All-head, All-tail}
use Rattle.cost_model.specs.declared.params.Params.{Params}
use Rattle.cost_model.specs.Options.{IsAccepted}
use Rattle.road_network.specs.Net.{IsLawful, Net}
use Rattle.trace_reader.specs.declared.trace.Trace.{Trace}
use Rattle.trace_reader.specs.Trace.{IsLawfulTrace}
use Rattle.bounded_table.specs.Table.{TableRow}
use Rattle.matching.proofs.Lists.{all-cons}
use Rattle.potential_certificate.specs.declared.proof.TraceProof.{TraceProof}
use Rattle.cert_checker.specs.declared.verdict.Condition.{Condition}
use Rattle.cert_checker.specs.declared.verdict.Condition.TheVariants.{Row, Trace as TraceIds}
use Rattle.cert_checker.specs.declared.verdict.Verdict.TheVariants.{Proved}
use Rattle.cert_checker.specs.Laws.{AreProofsOf, HasAskedRows, MatchesAreProved, ProvedAreTheMatches, with_rows_where}
use Rattle.cert_checker.specs.Rows.{first_bad_row}
use Rattle.cert_checker.specs.Verdicts.{case_of, or_else, trace_verdict}
use Rattle.cert_checker.specs.Whole.{apart_from, refused_whole, verdict, verdict_from}
use Rattle.cert_checker.proofs.EachPoint.{both_proved}
use Rattle.cert_checker.proofs.AskedNodes.{asked_node}
use Rattle.cert_checker.proofs.RisingRows.{right_rows_pass, rows_are_right, rows_where_has, rows_where_right}
use Rattle.cert_checker.proofs.TheMatch.{match_proved, proved_match}

none_apart : (x : Condition) (o : Option ℕ) → refused_whole x o ≡ Proved → o ≡ None
none_apart x None e = refl
none_apart x (Some place) e = absurd (cc)

same_id : (b : Bool) (k : ℕ) (rest : Option ℕ) → cond b rest (Some k) ≡ None → (b ≡ true) × (rest ≡ None)
same_id true k rest e = (refl, e)
same_id false k rest e = absurd (cc)

-- what is known of the traces that are left
abbrev AreMatched : Net → Params → List TableRow → List Trace → List TraceProof → Type 0
AreMatched n p rows traces proofs = AreProofsOf n p traces proofs × All (HasAskedRows n p rows) traces

traces_told : (n : Net) (p : Params) (rows : List TableRow) (k : ℕ) (traces : List Trace) (proofs : List TraceProof)
    → IsLawful n → IsAccepted p → All IsLawfulTrace traces → apart_from k traces proofs ≡ None → verdict_from n p rows k traces proofs ≡ Proved → AreMatched n p rows traces proofs
traces_told n p rows k [] [] lawful accepted fixes same e = (tt, λ i d lt. absurd (omega (arith, lt)))
traces_told n p rows k [] (proof ∷ proofs) lawful accepted fixes same e = absurd (cc)
traces_told n p rows k (trace ∷ traces) [] lawful accepted fixes same e = absurd (cc)
traces_told n p rows k (trace ∷ traces) (proof ∷ proofs) lawful accepted fixes same e =
    let id = same_id (proof.id == trace.id) k (apart_from (k + 1) traces proofs) same in
    let parts = both_proved (trace_verdict k (case_of n p rows trace proof)) (verdict_from n p rows (k + 1) traces proofs) e in
    let here = proved_match k n p rows trace proof lawful accepted (All-head IsLawfulTrace trace traces fixes) parts.0 in
    let later = traces_told n p rows (k + 1) traces proofs lawful accepted (All-tail IsLawfulTrace trace traces fixes) id.1 parts.1 in
    ((eqb-true proof.id trace.id id.0, here.0, later.0), all-cons (HasAskedRows n p rows) trace traces here.1 later.1)

ids_agree : (n : Net) (p : Params) (k : ℕ) (traces : List Trace) (proofs : List TraceProof) → AreProofsOf n p traces proofs → apart_from k traces proofs ≡ None
ids_agree n p k [] [] h = refl
ids_agree n p k [] (proof ∷ proofs) h = absurd h
ids_agree n p k (trace ∷ traces) [] h = absurd h
ids_agree n p k (trace ∷ traces) (proof ∷ proofs) h =
    ap (λ v. cond v (apart_from (k + 1) traces proofs) (Some k)) (eq-eqb proof.id trace.id h.0) ∙ ids_agree n p (k + 1) traces proofs h.2

traces_proved : (n : Net) (p : Params) (rows : List TableRow) (k : ℕ) (traces : List Trace) (proofs : List TraceProof)
    → IsLawful n → IsAccepted p → All IsLawfulTrace traces → AreMatched n p rows traces proofs → verdict_from n p rows k traces proofs ≡ Proved
traces_proved n p rows k [] proofs lawful accepted fixes h = refl
traces_proved n p rows k (trace ∷ traces) [] lawful accepted fixes h = refl
traces_proved n p rows k (trace ∷ traces) (proof ∷ proofs) lawful accepted fixes h =
    ap (λ v. or_else v (verdict_from n p rows (k + 1) traces proofs))
    (match_proved k n p rows trace proof lawful accepted (All-head IsLawfulTrace trace traces fixes) (h.0.1, All-head (HasAskedRows n p rows) trace traces h.1))
    ∙ traces_proved n p rows (k + 1) traces proofs lawful accepted (All-tail IsLawfulTrace trace traces fixes) (h.0.2, All-tail (HasAskedRows n p rows) trace traces h.1)

pub proved_are_the_matches : ProvedAreTheMatches
unfolding verdict
proved_are_the_matches n p traces c lawful accepted fixes = (
  λ e.
      let rows = both_proved (refused_whole Row (first_bad_row n p.bound c.rows)) (or_else (refused_whole TraceIds (apart_from 0 traces c.proofs)) (verdict_from n p c.rows 0 traces c.proofs)) e in
      let ids = both_proved (refused_whole TraceIds (apart_from 0 traces c.proofs)) (verdict_from n p c.rows 0 traces c.proofs) rows.1 in
      let told = traces_told n p c.rows 0 traces c.proofs lawful accepted fixes (none_apart TraceIds (apart_from 0 traces c.proofs) ids.0) ids.1 in
      record {
        rows = rows_are_right n p.bound c.rows (none_apart Row (first_bad_row n p.bound c.rows) rows.0);
        proofs = told.0;
        asked = told.1;
      },
  λ h.
      ap (λ o. or_else (refused_whole Row o) (or_else (refused_whole TraceIds (apart_from 0 traces c.proofs)) (verdict_from n p c.rows 0 traces c.proofs))) (right_rows_pass n p.bound c.rows h.rows)
      ∙ ap (λ o. or_else (refused_whole TraceIds o) (verdict_from n p c.rows 0 traces c.proofs)) (ids_agree n p 0 traces c.proofs h.proofs)
      ∙ traces_proved n p c.rows 0 traces c.proofs lawful accepted fixes (h.proofs, h.asked),
)

pub matches_are_proved : MatchesAreProved
matches_are_proved n p traces proofs test lawful accepted fixes are asked =
    (proved_are_the_matches n p traces (with_rows_where n p.bound test proofs) lawful accepted fixes).1
    (record {
      rows = rows_where_right n p.bound test;
      proofs = are;
      asked = λ k d lt v e. rows_where_has n p.bound v test (asked k d lt v e) (asked_node n p (get_or traces k d) v lawful accepted (fixes k d lt) e);
    })
