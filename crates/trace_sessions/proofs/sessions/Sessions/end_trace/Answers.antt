use Rattle.std.proofs.Common.{◌∙◌, Ok, Err, refl, sym, ap, subst, nat_eq}
use Rattle.std.specs.Map.{lookup}
use Rattle.std.proofs.lemmas.Result.{err_from_is_err_and}
use Rattle.trace_sessions.specs.declared.sessions.SessionFault.{SessionFault}
use Rattle.trace_sessions.specs.declared.sessions.SessionFault.TheVariants.{Memory}
use Rattle.trace_sessions.specs.Sessions.{AsksClosed, RepresentsPairs}
use Rattle.trace_sessions.specs.Streaming.{EndsId, EndsNone}
use Rattle.trace_sessions.specs.inside.SessionsInside.{AreOf}
use Rattle.trace_sessions.proofs.SessionPairs.{remove-none}
use Rattle.trace_sessions.proofs.SessionFixes.{state}
use Rattle.trace_sessions.proofs.TraceEnds.{are-gone, none-ended-here, trace-asks, trace-can, trace-ended, trace-rows}
use Rattle.trace_sessions.proofs.sessions.Sessions.end_trace.Goals as goal

pub end_session-requires-clause-rows : goal.end_session-requires-clause-rows
end_session-requires-clause-rows g c =
    trace-rows c.args.self.now c.self.inside.net.now c.args.id c.in-Some.session (g.R.Rows.state c.args.rows.now) 0 (ap (λ s. s.network) c.self.view_is) c.requires.rows c.requires.can
    (ap (λ s. lookup (nat_eq c.args.id) s.sessions) (sym c.self.view_is) ∙ sym c.in-Some.ensures.value)

pub end_session-requires-clause-can : goal.end_session-requires-clause-can
end_session-requires-clause-can g c =
    trace-can c.args.self.now c.self.inside.net.now c.args.id c.in-Some.session 0 (ap (λ s. s.network) c.self.view_is) c.invariants.ensures.accepted c.requires.can
    (ap (λ s. lookup (nat_eq c.args.id) s.sessions) (sym c.self.view_is) ∙ sym c.in-Some.ensures.value)

pub returns-in_err-pieces-clause-ends : goal.returns-in_err-pieces-clause-ends
returns-in_err-pieces-clause-ends g c pairs keeps =
    let a = c.self.inside in
    let e = err_from_is_err_and c.from_residual.result c.from_residual.ensures.1 in
    let new = c.remove.new.self in
    rw (e.1, e.2)
    (subst (λ x. EndsId x pairs c.args.id (state a.net.now a.params new) c.args.into.now c.end_session.new.into (Err Memory)) c.self.view_is
    (trace-ended {E = SessionFault} a.net.now a.params c.args.id a.sessions new c.in-Some.session pairs c.args.into.now c.end_session.new.into (Err Memory)
    (sym c.in-Some.ensures.value) c.remove.ensures.entries (subst (λ x. RepresentsPairs x pairs) (sym c.self.view_is) keeps) c.in_err-pieces.ensures.ends))

pub returns-in_err-pieces-clause-asks : goal.returns-in_err-pieces-clause-asks
returns-in_err-pieces-clause-asks g c =
    let a = c.self.inside in
    subst (λ x. AsksClosed x c.args.id (g.R.Rows.state c.args.rows.now) (g.R.Rows.state c.end_session.new.rows)) c.self.view_is
    (trace-asks a.net.now a.params c.args.id a.sessions c.in-Some.session (g.R.Rows.state c.args.rows.now) (g.R.Rows.state c.end_session.new.rows) (sym c.in-Some.ensures.value) c.end_session.ensures.asks)

pub returns-clause-ends : goal.returns-clause-ends
returns-clause-ends g c pairs keeps =
    let a = c.self.inside in
    let new = c.remove.new.self in
    subst (λ x. EndsId x pairs c.args.id (state a.net.now a.params new) c.args.into.now c.end_session.new.into (Ok c.in_ok-pieces.pieces)) c.self.view_is
    (trace-ended {E = SessionFault} a.net.now a.params c.args.id a.sessions new c.in-Some.session pairs c.args.into.now c.end_session.new.into (Ok c.in_ok-pieces.pieces)
    (sym c.in-Some.ensures.value) c.remove.ensures.entries (subst (λ x. RepresentsPairs x pairs) (sym c.self.view_is) keeps) c.in_ok-pieces.ensures.ends)

pub returns-clause-asks : goal.returns-clause-asks
returns-clause-asks g c =
    let a = c.self.inside in
    subst (λ x. AsksClosed x c.args.id (g.R.Rows.state c.args.rows.now) (g.R.Rows.state c.end_session.new.rows)) c.self.view_is
    (trace-asks a.net.now a.params c.args.id a.sessions c.in-Some.session (g.R.Rows.state c.args.rows.now) (g.R.Rows.state c.end_session.new.rows) (sym c.in-Some.ensures.value) c.end_session.ensures.asks)

pub returns-in_default-clause-ends : goal.returns-in_default-clause-ends
returns-in_default-clause-ends g c pairs keeps =
    let a = c.self.inside in
    let new = c.remove.new.self in (
      refl,
      subst (λ x. EndsNone x pairs c.args.id (state a.net.now a.params new) c.args.into.now c.args.into.now) c.self.view_is
          (none-ended-here a.net.now a.params c.args.id a.sessions new pairs c.args.into.now (sym c.remove.ensures.value ∙ c.in_default.is)
          (c.remove.ensures.entries ∙ remove-none (nat_eq c.args.id) a.sessions (sym c.remove.ensures.value ∙ c.in_default.is)) (subst (λ x. RepresentsPairs x pairs) (sym c.self.view_is) keeps)),
    )

pub invariant_of-self-in_err-pieces : goal.invariant_of-self-in_err-pieces
invariant_of-self-in_err-pieces g c =
    let a = c.self.inside in
    record { ground = c.self.invariant.ground; are = are-gone a.net.now a.params c.args.id a.sessions c.remove.new.self c.remove.ensures.entries c.self.invariant.are }

pub invariant_of-self-2 : goal.invariant_of-self-2
invariant_of-self-2 g c =
    let a = c.self.inside in
    record { ground = c.self.invariant.ground; are = are-gone a.net.now a.params c.args.id a.sessions c.remove.new.self c.remove.ensures.entries c.self.invariant.are }

pub invariant_of-self : goal.invariant_of-self
invariant_of-self g c =
    let a = c.self.inside in
    let none = sym c.remove.ensures.value ∙ c.in_default.is in
    record {
      ground = c.self.invariant.ground;
      are = subst (AreOf a.net.now a.params) (sym (c.remove.ensures.entries ∙ remove-none (nat_eq c.args.id) a.sessions none)) c.self.invariant.are;
    }
