use Rattle.std.proofs.Common.{◌≡◌, ◌∙◌, map, subst}
use Rattle.std.proofs.lemmas.List.{take_all}
use Rattle.bounded_table.proofs.Asking.{asks_ok}
use Rattle.trace_match.specs.inside.Asked.{AsksTraces}
use Rattle.trace_match.proofs.AskedRows.{asks_next, asks_none}
use Rattle.prove_work.specs.Certificates.{proof_of}
use Rattle.prove_work.proofs.TraceProofs.{proved_next}
use Rattle.prove_work.proofs.certifying.prove_all.Goals as goal

pub loop-trace-init : goal.loop-trace-init
loop-trace-init c = record {
  proofs = c.from_vec-proofs.ensures ∙ c.in_ok-with_capacity.ensures.items;
  asks = asks_none c.args.matcher.now c.args.rows.now c.requires.rows;
}

pub loop-trace-preserved : goal.loop-trace-preserved
loop-trace-preserved c =
    let on = c.args.matcher.now in
    let i = c.loop-trace.invariant in
    record {
      proofs = c.in_ok-push.ensures.ok ∙ proved_next on.network on.params c.args.traces.now c.loop-trace.trace-index c.trace-item.result c.in_ok-proof.proof c.loop-trace.proofs c.loop-trace-test.true c.trace-item.is i.proofs c.in_ok-proof.ensures.proof;
      asks = asks_next on c.args.traces.now c.loop-trace.trace-index c.trace-item.result c.args.rows.now c.loop-trace.rows c.prove_trace.new.rows c.loop-trace-test.true c.trace-item.is i.asks (asks_ok c.prove_trace.ensures.asks c.in_ok-proof.was);
    }

pub returns-clause-proofs : goal.returns-clause-proofs
returns-clause-proofs c =
    subst (λ ts. c.loop-trace.proofs ≡ map (proof_of c.args.matcher.now.network c.args.matcher.now.params) ts) (take_all c.loop-trace.trace-index c.args.traces.now c.loop-trace-test.false) c.loop-trace.invariant.proofs

pub returns-clause-asks : goal.returns-clause-asks
returns-clause-asks c =
    let on = c.args.matcher.now in
    subst (λ ts. AsksTraces on ts c.args.rows.now c.loop-trace.rows) (take_all c.loop-trace.trace-index c.args.traces.now c.loop-trace-test.false) c.loop-trace.invariant.asks
