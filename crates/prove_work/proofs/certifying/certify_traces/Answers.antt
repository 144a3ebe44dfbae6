use Rattle.std.proofs.Common.{◌∙◌, List, ap, map}
use Rattle.bounded_table.specs.Table.{TableRow}
use Rattle.potential_certificate.specs.declared.proof.Certificate.{Certificate}
use Rattle.potential_certificate.specs.declared.proof.TraceProof.{TraceProof}
use Rattle.prove_work.specs.Certificates.{proof_of}
use Rattle.prove_work.proofs.KnownRows.{asked_of}
use Rattle.prove_work.proofs.certifying.certify_traces.Goals as goal

pub returns : goal.returns
returns c =
    let on = c.args.matcher.now in
    let traces = c.args.traces.now in
    let rows = c.in_ok-rows-2.ensures ∙ asked_of on traces c.in_ok-rows.rows c.prove_all.new.rows c.in_ok-rows.ensures c.in_ok-proofs.ensures.asks c.invariants.ensures in
    ap (λ (proofs : List TraceProof). let x : Certificate = record { proofs = proofs; rows = c.in_ok-rows-2.rows } in x) c.in_ok-proofs.ensures.proofs
    ∙ ap (λ (found : List TableRow). let x : Certificate = record { proofs = map (proof_of on.network on.params) traces; rows = found } in x) rows
