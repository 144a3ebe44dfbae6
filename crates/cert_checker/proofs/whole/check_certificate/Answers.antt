use Rattle.std.specs.List.{AllZip}
use Rattle.std.proofs.Common.{◌≡◌, ℕ, IfOk, Option, None, List, length, map, subst, sym, ap, ◌∙◌}
use Rattle.road_network.specs.Net.{Net}
use Rattle.potential_certificate.specs.declared.proof.TraceProof.{TraceProof}
use Rattle.bounded_table.specs.Table.{TableRow}
use Rattle.cert_checker.specs.Rows.{first_bad_row}
use Rattle.cert_checker.specs.Whole.{apart_from, found_of, verdict}
use Rattle.cert_checker.specs.declared.verdict.Finding.TheVariants.{Judged}
use Rattle.cert_checker.specs.declared.verdict.Verdict.{Verdict}
use Rattle.cert_checker.specs.declared.batch.Batch.{Batch}
use Rattle.cert_checker.specs.inside.Batches.{AreBatchesOf, batch_verdict, first_refused}
use Rattle.cert_checker.proofs.BatchLists.{batches_verdict, to_verdicts}
use Rattle.cert_checker.proofs.WholeVerdicts.{as_many, by_traces, refused_by_ids}
use Rattle.cert_checker.proofs.whole.check_certificate.Goals as goal

-- the first part of what was tried
tried_rows : (tried : Option ℕ × Net) (bad : Option ℕ) (n : Net) → tried ≡ (bad, n) → tried.0 ≡ bad
tried_rows tried bad n are = ap (λ (t : Option ℕ × Net). t.0) are

pub returns-in-Some : goal.returns-in-Some
returns-in-Some g c =
    let n = c.args.subject.now.net.now in
    let p = c.args.subject.now.params.now in
    let v : Verdict = verdict n p c.args.subject.now.traces.now c.args.c.now in
    ap (λ (b : Option ℕ). found_of b v)
    (sym c.in-Some.is ∙ tried_rows _ (first_bad_row n p.bound c.as_slice.result.now) n c.in_ok-bad.ensures ∙ ap (first_bad_row n p.bound) c.as_slice.ensures)

pub returns-in-Some-first_apart : goal.returns-in-Some-first_apart
returns-in-Some-first_apart g c =
    let n = c.args.subject.now.net.now in
    let p = c.args.subject.now.params.now in
    let traces = c.args.subject.now.traces.now in
    let right : None ≡ first_bad_row n p.bound c.args.c.now.rows = sym c.in_default.is ∙ tried_rows _ (first_bad_row n p.bound c.as_slice.result.now) n c.in_ok-bad.ensures ∙ ap (first_bad_row n p.bound) c.as_slice.ensures in
    ap (λ (v : Verdict). Judged v) (refused_by_ids n p traces c.args.c.now c.in-Some-first_apart.place right (c.in-Some-first_apart.ensures ∙ ap (apart_from 0 traces) c.as_slice-2.ensures))
    ∙ ap (λ (b : Option ℕ). found_of b (verdict n p traces c.args.c.now)) right

pub batches-requires-clause-proofs : goal.batches-requires-clause-proofs
batches-requires-clause-proofs g c =
    let same : None ≡ apart_from 0 c.args.subject.now.traces.now c.args.c.now.proofs = sym c.in_default-first_apart.is ∙ c.first_apart.ensures ∙ ap (apart_from 0 c.args.subject.now.traces.now) c.as_slice-2.ensures in
    ap (λ (proofs : List TraceProof). length proofs) c.as_slice-4.ensures ∙ sym (as_many 0 c.args.subject.now.traces.now c.args.c.now.proofs (sym same))

pub returns : goal.returns
returns g c =
    let n = c.args.subject.now.net.now in
    let p = c.args.subject.now.params.now in
    let traces = c.args.subject.now.traces.now in
    let whole = c.args.c.now in
    let right : None ≡ first_bad_row n p.bound whole.rows = sym c.in_default.is ∙ tried_rows _ (first_bad_row n p.bound c.as_slice.result.now) n c.in_ok-bad.ensures ∙ ap (first_bad_row n p.bound) c.as_slice.ensures in
    let same = sym c.in_default-first_apart.is ∙ c.first_apart.ensures ∙ ap (apart_from 0 traces) c.as_slice-2.ensures in
    let bs : List Batch = c.in_ok-batches.batches in
    let rows : c.in_ok-placed.placed ≡ whole.rows = c.in_ok-placed.ensures ∙ c.as_slice-3.ensures in
    let are : AreBatchesOf traces whole.proofs bs = subst (λ (proofs : List TraceProof). AreBatchesOf traces proofs bs) c.as_slice-4.ensures c.in_ok-batches.ensures in
    let placed = c.in_ok-placed.placed in
    let answers = c.in_ok-answers.answers.items in
    let found = to_verdicts (batch_verdict n p placed) bs answers (subst (λ (xs : List Batch). AllZip (λ b r. IfOk r (λ v. v ≡ batch_verdict n p placed b)) xs answers) c.as_slice-5.ensures c.in_ok-answers.ensures) in
    let given = subst (λ rs. AllZip (λ v r. IfOk r (λ w. w ≡ v)) (map (batch_verdict n p placed) bs) rs) (sym c.as_slice-6.ensures.value) found in
    let is = c.in_ok-verdict.ensures (map (batch_verdict n p placed) bs) given in
    let told : c.in_ok-verdict.verdict ≡ verdict n p traces whole = is
    ∙ ap (λ (rs : List TableRow). first_refused (map (batch_verdict n p rs) bs)) rows
    ∙ batches_verdict n p whole.rows traces whole.proofs bs are
    ∙ by_traces n p traces whole right same in
    ap (λ (v : Verdict). Judged v) told ∙ ap (λ (b : Option ℕ). found_of b (verdict n p traces whole)) right
