use Rattle.std.proofs.Common.{◌≡◌, Some, None, nat_eq, sym, ap, subst, ◌∙◌}
use Rattle.std.specs.Map.{lookup, remove_entry}
use Rattle.follow_work.specs.inside.Times.{AreQueued, RisesBetween, times_in}
use Rattle.follow_work.proofs.TimesKept.{rises-remove, times-remove}
use Rattle.follow_work.proofs.TimesQueued.{queued-ended, remove-none}
use Rattle.follow_work.proofs.times.Times.remove.Goals as goal

pub invariant_of-self : goal.invariant_of-self
invariant_of-self c =
    let a = c.self.inside in
    let t = nat_eq c.args.id in
    let some : lookup t a.drives ≡ Some c.in-Some.drive = sym c.remove.ensures.value ∙ c.in-Some.is in
    record {
      different = c.remove.ensures.unique;
      rises = subst (RisesBetween 0 a.begun) (sym c.remove.ensures.entries) (rises-remove t 0 a.begun a.drives c.self.invariant.rises);
      queued = queued-ended c.args.id c.in-Some.drive a.drives c.remove.new.self a.queue c.remove-in-Some.new.self c.self.invariant.queued c.self.invariant.different some
          c.remove.ensures.entries c.remove-in-Some.ensures.updates.0;
    }

pub invariant_of-self-in_default : goal.invariant_of-self-in_default
invariant_of-self-in_default c =
    let a = c.self.inside in
    let t = nat_eq c.args.id in
    let none : lookup t a.drives ≡ None = sym c.remove.ensures.value ∙ c.in_default.is in
    let same = c.remove.ensures.entries ∙ remove-none t a.drives none in
    record {
      different = c.remove.ensures.unique;
      rises = subst (RisesBetween 0 a.begun) (sym same) c.self.invariant.rises;
      queued = subst (λ l. AreQueued l a.queue) (sym same) c.self.invariant.queued;
    }

pub returns-in-Some : goal.returns-in-Some
returns-in-Some c =
    let t = nat_eq c.args.id in
    ap times_in c.remove.ensures.entries ∙ times-remove t c.self.inside.drives ∙ ap (remove_entry t) c.self.view_is

pub returns-in_default : goal.returns-in_default
returns-in_default c =
    let t = nat_eq c.args.id in
    ap times_in c.remove.ensures.entries ∙ times-remove t c.self.inside.drives ∙ ap (remove_entry t) c.self.view_is
