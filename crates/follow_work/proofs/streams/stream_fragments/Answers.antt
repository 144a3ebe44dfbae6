use Rattle.std.proofs.Common.{ℕ, ◌+◌, Ok, subst, arith}
use Rattle.std.proofs.lemmas.List.{take_all}
use Rattle.std.proofs.lemmas.Result.{err_from_is_err_and}
use Rattle.trace_sessions.specs.declared.sessions.SessionFault.{SessionFault}
use Rattle.trace_sessions.specs.StreamText.{points_in}
use Rattle.trace_sessions.specs.Streaming.{AsksStream, TakesPoints}
use Rattle.follow_work.proofs.StreamJobs.{no-fragments, taken-can, taken-few, taken-next, taken-refused, taken-refused-asks, taken-rows}
use Rattle.follow_work.proofs.streams.stream_fragments.Goals as goal

pub loop-trace-init : goal.loop-trace-init
loop-trace-init c = no-fragments c.args.sessions.now c.args.into.now c.args.rows.now

pub stream-requires-clause-rows : goal.stream-requires-clause-rows
stream-requires-clause-rows c = taken-rows _ _ _ _ _ _ _ _ _ c.requires.fragments.can c.requires.rows c.loop-trace.invariant

pub stream-requires-clause-can : goal.stream-requires-clause-can
stream-requires-clause-can c =
    taken-can _ _ c.args.traces.now c.loop-trace.trace-index c.trace-item.result _ _ _ _ _ c.loop-trace-test.true c.trace-item.is c.requires.fragments.bounded c.requires.fragments.can c.loop-trace.invariant

pub returns-in_err-count-clause-streams : goal.returns-in_err-count-clause-streams
returns-in_err-count-clause-streams c =
    let p = err_from_is_err_and c.from_residual.result c.from_residual.ensures.1 in
    rw (p.1, p.2) (taken-refused _ _ c.stream.new.self c.args.traces.now c.loop-trace.trace-index c.trace-item.result _ _ _ _ _ _ _ c.loop-trace-test.true c.trace-item.is c.loop-trace.invariant c.in_err-count.ensures.streams)

pub returns-in_err-count-clause-asks : goal.returns-in_err-count-clause-asks
returns-in_err-count-clause-asks c =
    taken-refused-asks _ _ c.args.traces.now c.loop-trace.trace-index c.trace-item.result _ _ _ _ _ _ _ _ c.from_residual.result c.loop-trace-test.true c.trace-item.is c.requires.fragments.can c.loop-trace.invariant
    c.stream.ensures.asks c.from_residual.ensures.0

pub overflow_add-pieces : goal.overflow_add-pieces
overflow_add-pieces c =
    let next = taken-next _ _ _ c.args.traces.now c.loop-trace.trace-index c.trace-item.result _ _ _ _ _ _ _ _ _ _ c.loop-trace-test.true c.trace-item.is c.requires.fragments.can c.loop-trace.invariant c.stream.ensures.streams c.stream.ensures.asks c.in_ok-count.was in
    let few = taken-few _ _ c.args.traces.now (c.loop-trace.trace-index + 1) _ _ _ _ _ c.requires.accepted c.requires.fragments.bounded c.requires.fragments.can next in
    omega (arith, few)

pub loop-trace-preserved : goal.loop-trace-preserved
loop-trace-preserved c =
    taken-next _ _ _ c.args.traces.now c.loop-trace.trace-index c.trace-item.result _ _ _ _ _ _ _ _ _ _ c.loop-trace-test.true c.trace-item.is c.requires.fragments.can c.loop-trace.invariant c.stream.ensures.streams c.stream.ensures.asks c.in_ok-count.was

pub returns-clause-streams : goal.returns-clause-streams
returns-clause-streams c pairs keeps =
    subst (λ ts. TakesPoints c.args.sessions.now pairs (points_in ts) c.loop-trace.sessions c.args.into.now c.loop-trace.into c.loop-trace.pieces)
    (take_all c.loop-trace.trace-index c.args.traces.now c.loop-trace-test.false) (c.loop-trace.invariant.takes pairs keeps)

pub returns-clause-asks : goal.returns-clause-asks
returns-clause-asks c =
    subst (λ ts. AsksStream {A = ℕ} {E = SessionFault} c.args.sessions.now (points_in ts) c.args.rows.now (Ok c.loop-trace.pieces) c.loop-trace.rows)
    (take_all c.loop-trace.trace-index c.args.traces.now c.loop-trace-test.false) c.loop-trace.invariant.asks
