use Rattle.std.proofs.Common.{◌≡◌, ◌-◌, IfOk, ap, subst, ◌∙◌}
use Rattle.std.specs.BTreeMap.{IsFromIterResult}
use Rattle.std.specs.Ordering.{nat_cmp}
use Rattle.follow_work.specs.inside.Times.{idle_ids, numbered, places_before}
use Rattle.follow_work.proofs.IdlePlaces.{ids-noted}
use Rattle.follow_work.proofs.times.Times.idle_ids.Goals as goal

pub returns : goal.returns
returns c =
    let a = c.self.inside in
    let kept = c.self.invariant in
    let are : IsFromIterResult nat_cmp (numbered (places_before (c.args.clock - c.args.idle) a.queue)) c.in_ok-noted.noted =
    subst (λ n. IsFromIterResult nat_cmp (numbered (places_before n a.queue)) c.in_ok-noted.noted) c.saturating_sub.ensures c.in_ok-noted.ensures in
    subst (λ l. IfOk c.ids_of.result (λ ids. ids ≡ l))
    (ids-noted a.drives a.begun c.args.idle c.args.clock a.queue c.in_ok-noted.noted kept.different kept.rises kept.queued are ∙ ap (idle_ids c.args.idle c.args.clock) c.self.view_is) c.ids_of.ensures
