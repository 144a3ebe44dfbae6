use Rattle.std.proofs.Common.{◌∙◌, ◌++◌, Ok, OnOk, sym, ap, subst}
use Rattle.std.specs.List.{concat}
use Rattle.std.proofs.lemmas.Result.{err_from_is_err_and}
use Rattle.trace_sessions.specs.declared.sessions.SessionFault.{SessionFault}
use Rattle.trace_sessions.specs.Following.{pieces_among}
use Rattle.trace_sessions.specs.ItemText.{AddsPrefix, AreItemsOf}
use Rattle.trace_sessions.specs.inside.StreamingInside.{lines_of_items}
use Rattle.trace_sessions.proofs.SessionFixes.{no-ok}
use Rattle.trace_sessions.proofs.OnePointTaken.{items-lie, point-cut, point-refused, point-taken}
use Rattle.trace_sessions.proofs.StreamTakes.{point-asks, points-in}
use Rattle.trace_sessions.proofs.sessions.Sessions.stream_fix.Goals as goal

pub returns-in_err-items-clause-asks : goal.returns-in_err-items-clause-asks
returns-in_err-items-clause-asks g c =
    let told = c.from_residual.result in
    point-asks c.args.self.now c.args.id c.args.fix _ _ c.feed.result told c.feed.ensures.asks (λ P h. no-ok told P c.from_residual.ensures.0)

pub write_point-requires : goal.write_point-requires
write_point-requires g c =
    let s = c.args.self.now in
    let can = c.requires.can in
    let fed = c.in_ok-items.ensures.fed in
    let lies = items-lie s.network s.params can.pairs c.args.id c.args.fix c.in_ok-items.items c.invariants.ensures.lawful c.invariants.ensures.accepted can.lawful c.requires.place
    (fed.room can.pairs can.keeps) (fed.handed_on can.pairs can.keeps) in
    subst (λ m. AreItemsOf m c.as_slice.result.now) (sym fed.network) (subst (AreItemsOf s.network) (sym c.as_slice.ensures) lies)

pub returns-in_err-write_point-clause-asks : goal.returns-in_err-write_point-clause-asks
returns-in_err-write_point-clause-asks g c =
    let told = c.from_residual-in_err-write_point.result in
    point-asks c.args.self.now c.args.id c.args.fix _ _ c.feed.result told c.feed.ensures.asks (λ P h. no-ok told P c.from_residual-in_err-write_point.ensures.0)

pub returns-clause-streams : goal.returns-clause-streams
returns-clause-streams g c pairs keeps =
    let s = c.args.self.now in
    let fed = c.in_ok-items.ensures.fed in
    let old = c.args.into.now in
    point-taken s c.feed.new.self pairs c.args.id c.args.fix c.in_ok-items.items c.points-point.result c.count_pieces.result old c.write_point.new.into keeps fed
    (c.points-point.ensures ∙ points-in s pairs c.args.id keeps)
    (c.count_pieces.ensures ∙ ap pieces_among c.as_slice-2.ensures)
    (c.in_ok-write_point.ensures.ok
    ∙ ap (λ m. old ++ concat (lines_of_items m c.args.id c.points-point.result c.as_slice.result.now)) fed.network
    ∙ ap (λ xs. old ++ concat (lines_of_items s.network c.args.id c.points-point.result xs)) c.as_slice.ensures)

pub returns-clause-asks : goal.returns-clause-asks
returns-clause-asks g c =
    point-asks {F = SessionFault} c.args.self.now c.args.id c.args.fix _ _ c.feed.result (Ok c.count_pieces.result) c.feed.ensures.asks (λ P h. subst (λ r. OnOk r P) c.in_ok-items.was h)

pub returns-in_err-write_point-clause-streams : goal.returns-in_err-write_point-clause-streams
returns-in_err-write_point-clause-streams g c pairs keeps =
    let s = c.args.self.now in
    let fed = c.in_ok-items.ensures.fed in
    let old = c.args.into.now in
    let new = c.write_point.new.into in
    let e = err_from_is_err_and c.from_residual-in_err-write_point.result c.from_residual-in_err-write_point.ensures.1 in
    let cut = subst (λ xs. AddsPrefix old (concat (lines_of_items s.network c.args.id c.points-point.result xs)) new) c.as_slice.ensures
    (subst (λ m. AddsPrefix old (concat (lines_of_items m c.args.id c.points-point.result c.as_slice.result.now)) new) fed.network c.in_err-write_point.ensures.err) in
    rw (e.1, e.2) (point-cut s c.feed.new.self pairs c.args.id c.args.fix c.in_ok-items.items c.points-point.result old new keeps fed (c.points-point.ensures ∙ points-in s pairs c.args.id keeps) cut)

pub returns-in_err-items-clause-streams : goal.returns-in_err-items-clause-streams
returns-in_err-items-clause-streams g c pairs keeps =
    let e = err_from_is_err_and c.from_residual.result c.from_residual.ensures.1 in
    let refused = c.in_err-items.ensures.refused in
    rw (e.1, e.2) (point-refused c.args.self.now c.feed.new.self pairs c.args.id c.args.fix _ c.args.into.now keeps refused.why refused.unchanged)
