use Rattle.std.proofs.Common.{◌≤◌, List, length, subst, sym}
use Rattle.candidate_search.proofs.Visiting.{stays, far_box}
use Rattle.candidate_search.specs.declared.best.NearEdge.{NearEdge}
use Rattle.candidate_search.specs.inside.Best.{AreApart, IsLimit}
use Rattle.candidate_search.proofs.visit.look_at_box.Goals as goal

pub limit_for-limit-requires-clause-apart : goal.limit_for-limit-requires-clause-apart
limit_for-limit-requires-clause-apart c = subst AreApart (sym c.as_slice.ensures.value) c.requires.best.apart

pub returns-then-d2-limit-clause-seen : goal.returns-then-d2-limit-clause-seen
returns-then-d2-limit-clause-seen c =
    let limit = c.limit_for-limit.result in
    let search = c.args.search in
    let is = subst (λ l. IsLimit search l limit) c.as_slice.ensures.value c.limit_for-limit.ensures in
    far_box c.args.net.now search c.args.found.now.items c.args.run limit c.args.d2 c.invariants.ensures c.requires.run is c.if-d2-limit.true c.requires.d2.least

pub limit_for-limit-requires-clause-few : goal.limit_for-limit-requires-clause-few
limit_for-limit-requires-clause-few c = subst (λ (l : List NearEdge). length l ≤ c.args.search.k) (sym c.as_slice.ensures.value) c.requires.best.few

pub returns-then-d2-limit-clause-steps : goal.returns-then-d2-limit-clause-steps
returns-then-d2-limit-clause-steps c = stays c.args.net.now c.args.search c.args.found.now.items c.requires.best

pub measure_run-requires-clause-limit : goal.measure_run-requires-clause-limit
measure_run-requires-clause-limit c = subst (λ l. IsLimit c.args.search l c.limit_for-limit.result) c.as_slice.ensures.value c.limit_for-limit.ensures
