use Rattle.std.proofs.Common.{◌∙◌, ap}
use Rattle.std.proofs.lemmas.Result.{IfOk-weaker}
use Rattle.bounded_table.proofs.Asking.{asks_done, asks_err, asks_ok}
use Rattle.potential_certificate.specs.declared.proof.TraceProof.{TraceProof}
use Rattle.prove_work.proofs.TraceProofs.{proof_made}
use Rattle.prove_work.proofs.certifying.prove_trace.Goals as goal

pub match_one-requires-clause-ground : goal.match_one-requires-clause-ground
match_one-requires-clause-ground c = rw (c.network-net.ensures, c.params-params.ensures.is) c.grid-grid.ensures

pub match_one-requires-clause-rows : goal.match_one-requires-clause-rows
match_one-requires-clause-rows c = rw (c.network-net.ensures, c.params-params.ensures.is) c.requires.rows

pub returns-clause-proof : goal.returns-clause-proof
returns-clause-proof c =
    let answer = c.in_ok-answer.answer in
    let trace = c.args.trace.now in
    let is = rw (c.network-net.ensures, c.params-params.ensures.is) at c.in_ok-answer.ensures.answer in
    IfOk-weaker c.certify.result _ _ (λ proof made.
    made
    ∙ ap (λ pieces. let x : TraceProof = record { id = trace.id; ranks = answer.solved.ranks; tables = answer.solved.tables; pieces = pieces } in x) c.as_slice-pieces.ensures
    ∙ proof_made c.args.matcher.now.network c.args.matcher.now.params trace answer is) c.certify.ensures

pub returns-in_err-answer-clause-asks : goal.returns-in_err-answer-clause-asks
returns-in_err-answer-clause-asks c =
    asks_err (rw (c.network-net.ensures, c.params-params.ensures.is) at c.match_one.ensures.asks.only) c.from_residual.ensures.0

pub returns-clause-asks : goal.returns-clause-asks
returns-clause-asks c = asks_done (asks_ok (rw (c.network-net.ensures, c.params-params.ensures.is) at c.match_one.ensures.asks) c.in_ok-answer.was)
