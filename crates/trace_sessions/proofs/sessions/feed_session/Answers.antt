use Rattle.std.proofs.Common.{nat_eq, refl, sym, subst}
use Rattle.std.specs.List.{IsDistinct}
use Rattle.std.specs.Map.{set_value}
use Rattle.std.proofs.lemmas.Map.{keys-set_value}
use Rattle.trace_sessions.proofs.SessionFixes.{feeds-at, stays-at}
use Rattle.trace_sessions.proofs.sessions.feed_session.Goals as goal

pub returns-in-Some-clause-fed : goal.returns-in-Some-clause-fed
returns-in-Some-clause-fed g c =
    let es = c.args.sessions.now in
    let t = nat_eq c.args.id in
    feeds-at c.args.id es (set_value t es c.feed.new.self) c.args.opened c.in-Some.session.now c.feed.new.self c.args.layer c.feed.result
    (sym c.in-Some.ensures.value) c.feed.ensures.fed refl (subst (IsDistinct nat_eq) (sym (keys-set_value t es c.feed.new.self)) c.get_mut.ensures.unique)

pub returns-in-Some-clause-err : goal.returns-in-Some-clause-err
returns-in-Some-clause-err g c =
    let es = c.args.sessions.now in
    stays-at c.args.id es (set_value (nat_eq c.args.id) es c.feed.new.self) c.in-Some.session.now c.feed.new.self c.feed.result
    (sym c.in-Some.ensures.value) c.feed.ensures.err refl
