use Rattle.std.proofs.Common.{◌≡◌, ◌<◌, ◌≤◌, Ok, OnOk, refl, sym, subst, arith}
use Rattle.bounded_table.specs.Rows.{AreRowsOf}
use Rattle.online_commit.specs.Session.{fed_position_count}
use Rattle.trace_sessions.specs.declared.sessions.SessionFault.{SessionFault}
use Rattle.trace_sessions.specs.declared.sessions.SessionFault.TheVariants.{TooLong}
use Rattle.trace_sessions.specs.Sessions.{AsksFedTo, IsFeedFault, TakesFix}
use Rattle.trace_sessions.specs.inside.SessionsInside.{session_in}
use Rattle.trace_sessions.proofs.SessionFixes.{are-taken, feed-asks, few-fed, layer-fed, no-ok, opened-is, rows-fed, state, takes, too-long}
use Rattle.trace_sessions.proofs.sessions.Sessions.feed.Goals as goal

pub returns-then-points-ge100000-clause-refused : goal.returns-then-points-ge100000-clause-refused
returns-then-points-ge100000-clause-refused g c =
    let a = c.self.inside in
    let now = state a.net.now a.params a.sessions in
    let count : c.points.result ≡ fed_position_count (session_in now c.args.id) =
    subst (λ x. c.points.result ≡ fed_position_count (session_in x c.args.id)) (sym c.self.view_is) c.points.ensures in
    let many : 100_000 ≤ fed_position_count (session_in now c.args.id) = omega (arith, count, c.if-points-ge100000.true) in
    record {
      why = subst (λ x. IsFeedFault x c.args.id (TooLong c.args.id)) c.self.view_is (too-long a.net.now a.params c.args.id a.sessions many);
      unchanged = refl;
    }

pub feed_session-requires-clause-rows : goal.feed_session-requires-clause-rows
feed_session-requires-clause-rows g c =
    let a = c.self.inside in
    let rows = g.R.Rows.state c.args.rows.now in
    rows-fed rows a.net.now a.params c.args.id a.sessions c.open-opened.result c.self.invariant.are c.open-opened.ensures.opened
    (subst (λ x. AreRowsOf rows x.network x.params.bound) (sym c.self.view_is) c.requires.rows)

pub feed_session-requires-clause-layer : goal.feed_session-requires-clause-layer
feed_session-requires-clause-layer g c =
    let a = c.self.inside in
    let now = state a.net.now a.params a.sessions in
    let count : c.points.result ≡ fed_position_count (session_in now c.args.id) =
    subst (λ x. c.points.result ≡ fed_position_count (session_in x c.args.id)) (sym c.self.view_is) c.points.ensures in
    let few : fed_position_count (session_in now c.args.id) < 100_000 = omega (arith, count, c.if-points-ge100000.false) in (
      layer-fed a.net.now a.params c.args.id a.sessions c.open-opened.result c.args.fix c.in_ok-layer.layer c.self.invariant.are c.open-opened.ensures.opened
          c.self.invariant.ground.options c.requires.place c.in_ok-layer.ensures,
      few-fed a.net.now a.params c.args.id a.sessions c.open-opened.result c.open-opened.ensures.opened few,
    )

pub returns-in_err-items-clause-asks : goal.returns-in_err-items-clause-asks
returns-in_err-items-clause-asks g c =
    let a = c.self.inside in
    let old = g.R.Rows.state c.args.rows.now in
    let new = g.R.Rows.state c.feed_session.new.rows in
    let told = c.from_residual-in_err-items.result in
    subst (λ x. AsksFedTo x c.args.id c.args.fix old told new) c.self.view_is
    (feed-asks a.net.now a.params c.args.id c.args.fix a.sessions c.open-opened.result c.in_ok-layer.layer old new c.feed_session.result told
    (opened-is a.net.now a.params c.open-opened.result c.open-opened.ensures.opened) c.in_ok-layer.ensures c.feed_session.ensures.asks
    (λ P h. no-ok told P c.from_residual-in_err-items.ensures.0))

pub invariant_of-self-2 : goal.invariant_of-self-2
invariant_of-self-2 g c =
    let a = c.self.inside in
    record {
      ground = c.self.invariant.ground;
      are = are-taken a.net.now a.params c.args.id a.sessions c.feed_session.new.sessions c.open-opened.result c.in_ok-layer.layer c.in_ok-items.items
          c.self.invariant.are c.open-opened.ensures.opened c.in_ok-items.ensures.fed;
    }

pub returns-clause-fed : goal.returns-clause-fed
returns-clause-fed g c =
    let a = c.self.inside in
    let now = state a.net.now a.params a.sessions in
    let count : c.points.result ≡ fed_position_count (session_in now c.args.id) =
    subst (λ x. c.points.result ≡ fed_position_count (session_in x c.args.id)) (sym c.self.view_is) c.points.ensures in
    let few : fed_position_count (session_in now c.args.id) < 100_000 = omega (arith, count, c.if-points-ge100000.false) in
    let new = c.feed_session.new.sessions in
    subst (λ x. TakesFix x c.args.id c.args.fix (state a.net.now a.params new) c.in_ok-items.items) c.self.view_is
    (takes a.net.now a.params c.args.id c.args.fix a.sessions new c.open-opened.result c.in_ok-layer.layer c.in_ok-items.items
    (opened-is a.net.now a.params c.open-opened.result c.open-opened.ensures.opened) c.in_ok-layer.ensures
    (few-fed a.net.now a.params c.args.id a.sessions c.open-opened.result c.open-opened.ensures.opened few)
    c.in_ok-items.ensures.fed)

pub returns-clause-asks : goal.returns-clause-asks
returns-clause-asks g c =
    let a = c.self.inside in
    let old = g.R.Rows.state c.args.rows.now in
    let new = g.R.Rows.state c.feed_session.new.rows in
    subst (λ x. AsksFedTo {E = SessionFault} x c.args.id c.args.fix old (Ok c.in_ok-items.items) new) c.self.view_is
    (feed-asks {F = SessionFault} a.net.now a.params c.args.id c.args.fix a.sessions c.open-opened.result c.in_ok-layer.layer old new c.feed_session.result (Ok c.in_ok-items.items)
    (opened-is a.net.now a.params c.open-opened.result c.open-opened.ensures.opened) c.in_ok-layer.ensures c.feed_session.ensures.asks
    (λ P h. subst (λ r. OnOk r P) c.in_ok-items.was h))
