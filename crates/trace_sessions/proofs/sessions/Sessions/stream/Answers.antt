use Rattle.std.proofs.Common.{ℕ, Ok, subst, arith}
use Rattle.std.proofs.lemmas.Result.{err_from_is_err_and}
use Rattle.trace_sessions.specs.declared.sessions.SessionFault.{SessionFault}
use Rattle.trace_sessions.specs.Streaming.{AsksStream, TakesPoints}
use Rattle.trace_sessions.proofs.FragmentTakes.{all-points, none-streamed, refused-asks, streamed-can, streamed-few, streamed-next, streamed-refused, streamed-rows}
use Rattle.trace_sessions.proofs.sessions.Sessions.stream.Goals as goal

pub loop-fix-init : goal.loop-fix-init
loop-fix-init g c = none-streamed c.args.self.now c.args.trace.now c.args.into.now (g.R.Rows.state c.args.rows.now)

pub stream_fix-requires-clause-rows : goal.stream_fix-requires-clause-rows
stream_fix-requires-clause-rows g c = streamed-rows _ _ _ _ _ _ _ _ _ _ c.requires.can c.requires.rows c.loop-fix.invariant

pub stream_fix-requires-clause-can : goal.stream_fix-requires-clause-can
stream_fix-requires-clause-can g c =
    streamed-can _ _ _ c.as_slice-fix-items.result.now c.loop-fix.fix-index _ _ _ _ _ c.as_slice-fix-items.ensures c.loop-fix-test.true c.requires.trace c.requires.can c.loop-fix.invariant

pub returns-in_err-count-clause-streams : goal.returns-in_err-count-clause-streams
returns-in_err-count-clause-streams g c =
    let p = err_from_is_err_and c.from_residual.result c.from_residual.ensures.1 in
    rw (p.1, p.2) (streamed-refused _ _ c.stream_fix.new.self _ c.as_slice-fix-items.result.now c.loop-fix.fix-index _ _ _ _ _ _ _ _ c.as_slice-fix-items.ensures c.loop-fix-test.true c.loop-fix.invariant c.in_err-count.ensures.streams)

pub returns-in_err-count-clause-asks : goal.returns-in_err-count-clause-asks
returns-in_err-count-clause-asks g c =
    refused-asks _ _ _ c.as_slice-fix-items.result.now c.loop-fix.fix-index _ _ _ _ _ _ _ _ _ c.from_residual.result c.as_slice-fix-items.ensures c.loop-fix-test.true c.requires.can c.loop-fix.invariant
    c.stream_fix.ensures.asks c.from_residual.ensures.0

pub overflow_add-pieces : goal.overflow_add-pieces
overflow_add-pieces g c =
    let next = streamed-next _ _ _ _ _ _ _ _ _ _ _ _ _ _ _ _ _ c.as_slice-fix-items.ensures c.loop-fix-test.true c.requires.can c.loop-fix.invariant c.stream_fix.ensures.streams c.stream_fix.ensures.asks c.in_ok-count.was in
    let few = streamed-few _ _ _ _ _ _ _ _ _ _ c.as_slice-fix-items.ensures c.loop-fix-test.true c.invariants.ensures.accepted c.requires.trace c.requires.can next in
    omega (arith, few)

pub loop-fix-preserved : goal.loop-fix-preserved
loop-fix-preserved g c =
    streamed-next _ _ _ _ _ _ _ _ _ _ _ _ _ _ _ _ _ c.as_slice-fix-items.ensures c.loop-fix-test.true c.requires.can c.loop-fix.invariant c.stream_fix.ensures.streams c.stream_fix.ensures.asks c.in_ok-count.was

pub returns-clause-streams : goal.returns-clause-streams
returns-clause-streams g c pairs keeps =
    subst (λ ps. TakesPoints c.args.self.now pairs ps c.loop-fix.self c.args.into.now c.loop-fix.into c.loop-fix.pieces)
    (all-points c.args.trace.now c.as_slice-fix-items.result.now c.loop-fix.fix-index c.as_slice-fix-items.ensures c.loop-fix-test.false) (c.loop-fix.invariant.takes pairs keeps)

pub returns-clause-asks : goal.returns-clause-asks
returns-clause-asks g c =
    subst (λ ps. AsksStream {A = ℕ} {E = SessionFault} c.args.self.now ps (g.R.Rows.state c.args.rows.now) (Ok c.loop-fix.pieces) (g.R.Rows.state c.loop-fix.rows))
    (all-points c.args.trace.now c.as_slice-fix-items.result.now c.loop-fix.fix-index c.as_slice-fix-items.ensures c.loop-fix-test.false) c.loop-fix.invariant.asks
