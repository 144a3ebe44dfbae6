use Rattle.std.proofs.Common.{◌∙◌, ap, arith}
use Rattle.std.proofs.lemmas.Result.{err_from_is_err_and}
use Rattle.trace_sessions.proofs.StreamEnds.{all-ended, emptied, ended-can, ended-cut, ended-err, ended-few, ended-next, ended-rows, none-ended}
use Rattle.trace_sessions.proofs.sessions.Sessions.close_all.Goals as goal

pub loop-id-init : goal.loop-id-init
loop-id-init g c =
    none-ended c.args.self.now c.replace-sessions.result c.args.into.now (g.R.Rows.state c.args.rows.now)
    (c.replace-sessions.ensures.value ∙ ap (λ s. s.sessions) c.self.view_is)

pub end_session-requires-clause-rows : goal.end_session-requires-clause-rows
end_session-requires-clause-rows g c =
    ended-rows _ c.self.inside.net.now _ _ _ _ _ _ _ _ _ _ (ap (λ s. s.network) c.self.view_is) c.requires.rows c.requires.can c.in-Some.ensures.steps c.loop-id.invariant

pub end_session-requires-clause-can : goal.end_session-requires-clause-can
end_session-requires-clause-can g c =
    ended-can _ c.self.inside.net.now _ _ _ _ _ _ _ _ _ _ (ap (λ s. s.network) c.self.view_is) c.invariants.ensures.accepted c.requires.can c.in-Some.ensures.steps c.loop-id.invariant

pub returns-in_err-count-clause-asks : goal.returns-in_err-count-clause-asks
returns-in_err-count-clause-asks g c = ended-err _ _ _ _ _ _ _ _ _ _ _ c.in-Some.ensures.steps c.loop-id.invariant c.end_session.ensures.asks

pub returns-in_err-count-clause-ends : goal.returns-in_err-count-clause-ends
returns-in_err-count-clause-ends g c pairs keeps =
    let p = err_from_is_err_and c.from_residual.result c.from_residual.ensures.1 in
    rw p.1 (ended-cut _ c.self.inside.net.now _ _ _ _ _ _ _ _ _ _ (ap (λ s. s.network) c.self.view_is) c.in-Some.ensures.steps c.loop-id.invariant c.in_err-count.ensures.ends pairs keeps)

pub overflow_add-pieces : goal.overflow_add-pieces
overflow_add-pieces g c =
    let next = ended-next _ c.self.inside.net.now _ _ _ _ _ _ _ _ _ _ _ c.in_ok-count.count (ap (λ s. s.network) c.self.view_is) c.in-Some.ensures.steps c.loop-id.invariant c.in_ok-count.ensures.ends c.end_session.ensures.asks in
    let few = ended-few _ _ _ _ _ _ _ _ c.invariants.ensures.accepted c.requires.can next in
    omega (arith, few)

pub loop-id-preserved : goal.loop-id-preserved
loop-id-preserved g c =
    ended-next _ c.self.inside.net.now _ _ _ _ _ _ _ _ _ _ _ c.in_ok-count.count (ap (λ s. s.network) c.self.view_is) c.in-Some.ensures.steps c.loop-id.invariant c.in_ok-count.ensures.ends c.end_session.ensures.asks

pub returns-clause-ends : goal.returns-clause-ends
returns-clause-ends g c = all-ended _ _ _ _ _ _ _ c.in_default.ensures.steps.0 c.loop-id.invariant

pub returns-clause-asks : goal.returns-clause-asks
returns-clause-asks g c pairs keeps = (c.loop-id.invariant pairs keeps).asks

pub returns-in_err-count-clause-none : goal.returns-in_err-count-clause-none
returns-in_err-count-clause-none g c =
    emptied c.args.self.now c.self.inside.net.now c.self.inside.params c.replace-sessions.new.dest (ap (λ s. s.network) c.self.view_is) (ap (λ s. s.params) c.self.view_is)
    (c.replace-sessions.ensures.after ∙ c.new-none.ensures)

pub returns-clause-none : goal.returns-clause-none
returns-clause-none g c =
    emptied c.args.self.now c.self.inside.net.now c.self.inside.params c.replace-sessions.new.dest (ap (λ s. s.network) c.self.view_is) (ap (λ s. s.params) c.self.view_is)
    (c.replace-sessions.ensures.after ∙ c.new-none.ensures)
