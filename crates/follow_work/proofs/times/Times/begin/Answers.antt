use Rattle.std.proofs.Common.{rules, ◌≡◌, None, nat_eq, refl, sym, ap, subst, ◌∙◌}
use Rattle.std.specs.Map.{lookup}
use Rattle.indexmap.specs.IndexMap.{insert_entry}
use Rattle.follow_work.specs.declared.times.Drive.{Drive}
use Rattle.follow_work.specs.inside.Times.{RisesBetween, times_in}
use Rattle.follow_work.proofs.TimesKept.{no-drive, rises-insert, times-insert}
use Rattle.follow_work.proofs.TimesQueued.{on-err, on-ok, queued-back, queued-begun}
use Rattle.follow_work.proofs.times.Times.begin.Goals as goal

pub invariant_of-self-then-is_err : goal.invariant_of-self-then-is_err
invariant_of-self-then-is_err c =
    let a = c.self.inside in
    let d : Drive = record { newest = c.args.time; number = a.begun } in
    let none : lookup (nat_eq c.args.id) a.drives ≡ None = no-drive c.args.id a.drives (ap (lookup (nat_eq c.args.id)) c.self.view_is ∙ c.requires) in
    let same : c.insert-kept.new.self ≡ a.drives = on-err c.insert-kept.result (sym c.is_err.ensures.value ∙ c.if-is_err.true) c.insert-kept.ensures.err in
    record {
      different = c.insert-kept.ensures.unique;
      rises = subst (RisesBetween 0 a.begun) (sym same) c.self.invariant.rises;
      queued = queued-back c.args.id d a.drives c.insert-kept.new.self a.queue c.insert.new.self c.self.invariant.queued c.remove.new.self none same
          c.in_ok-insert.ensures.updates.0 c.remove.ensures.updates.0;
    }

pub invariant_of-self-2 : goal.invariant_of-self-2
invariant_of-self-2 c =
    let a = c.self.inside in
    let d : Drive = record { newest = c.args.time; number = a.begun } in
    let none : lookup (nat_eq c.args.id) a.drives ≡ None = no-drive c.args.id a.drives (ap (lookup (nat_eq c.args.id)) c.self.view_is ∙ c.requires) in
    let is : c.insert-kept.new.self ≡ insert_entry nat_eq a.drives c.args.id d =
    on-ok c.insert-kept.result (sym c.is_err.ensures.value ∙ c.if-is_err.false) c.insert-kept.ensures.ok in
    record {
      different = c.insert-kept.ensures.unique;
      rises = subst (λ l. RisesBetween 0 c.in-Some.begun l) (sym is) (subst (λ n. RisesBetween 0 n (insert_entry nat_eq a.drives c.args.id d)) (search rules) (rises-insert 0 a.begun c.args.id d a.drives none refl c.self.invariant.rises));
      queued = queued-begun c.args.id d a.drives c.insert-kept.new.self a.queue c.insert.new.self c.self.invariant.queued none is c.in_ok-insert.ensures.updates.0;
    }

pub returns : goal.returns
returns c =
    let a = c.self.inside in
    let d : Drive = record { newest = c.args.time; number = a.begun } in
    let is : c.insert-kept.new.self ≡ insert_entry nat_eq a.drives c.args.id d =
    on-ok c.insert-kept.result (sym c.is_err.ensures.value ∙ c.if-is_err.false) c.insert-kept.ensures.ok in
    ap times_in is ∙ times-insert c.args.id d a.drives ∙ ap (λ l. insert_entry nat_eq l c.args.id c.args.time) c.self.view_is
