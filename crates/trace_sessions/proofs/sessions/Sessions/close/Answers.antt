use Rattle.std.proofs.Common.{IfErr, IfOk, sym, subst}
use Rattle.bounded_table.specs.Rows.{AreRowsOf}
use Rattle.trace_sessions.specs.Sessions.{AsksClosed, ClosesSession, IsCloseFault}
use Rattle.trace_sessions.proofs.SessionPairs.{are-finished, rows-at}
use Rattle.trace_sessions.proofs.SessionFixes.{close-asks, close-fault, closes, state}
use Rattle.trace_sessions.proofs.sessions.Sessions.close.Goals as goal

pub finish_session-requires : goal.finish_session-requires
finish_session-requires g c =
    let a = c.self.inside in
    let rows = g.R.Rows.state c.args.rows.now in
    record {
      rows = rows-at rows a.net.now a.params c.args.id a.sessions c.self.invariant.are
          (subst (λ x. AreRowsOf rows x.network x.params.bound) (sym c.self.view_is) c.requires.rows);
    }

pub invariant_of-self : goal.invariant_of-self
invariant_of-self g c =
    let a = c.self.inside in
    let e = c.finish_session.ensures in
    record {
      ground = c.self.invariant.ground;
      are = are-finished a.net.now a.params c.args.id a.sessions c.finish_session.new.sessions c.finish_session.result c.self.invariant.are e.finished e.err;
    }

pub returns-clause-closed : goal.returns-clause-closed
returns-clause-closed g c =
    let a = c.self.inside in
    let e = c.finish_session.ensures in
    let new = c.finish_session.new.sessions in
    subst (λ x. IfOk c.finish_session.result (ClosesSession x c.args.id (state a.net.now a.params new))) c.self.view_is
    (closes a.net.now a.params c.args.id a.sessions new c.finish_session.result e.finished)

pub returns-clause-fault : goal.returns-clause-fault
returns-clause-fault g c =
    let a = c.self.inside in
    subst (λ x. IfErr c.finish_session.result (IsCloseFault x c.args.id)) c.self.view_is
    (close-fault a.net.now a.params c.args.id a.sessions c.finish_session.result c.finish_session.ensures.fault)

pub returns-clause-asks : goal.returns-clause-asks
returns-clause-asks g c =
    let a = c.self.inside in
    let old = g.R.Rows.state c.args.rows.now in
    let new = g.R.Rows.state c.finish_session.new.rows in
    subst (λ x. AsksClosed x c.args.id old new) c.self.view_is
    (close-asks a.net.now a.params c.args.id a.sessions old new c.finish_session.ensures.asks)
