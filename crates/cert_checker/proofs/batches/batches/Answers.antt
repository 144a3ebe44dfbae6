use Rattle.std.proofs.Common.{◌≤◌, refl, sym, ap, subst, ◌∙◌, arith}
use Rattle.std.specs.List.{flat_map}
use Rattle.cert_checker.specs.declared.batch.Batch.{Batch}
use Rattle.cert_checker.specs.inside.Batches.{FollowFrom}
use Rattle.cert_checker.proofs.BatchLists.{follow_more, part_length, parts_more}
use Rattle.cert_checker.proofs.batches.batches.Goals as goal

pub loop-first-preserved : goal.loop-first-preserved
loop-first-preserved c =
    let at = c.loop-first in
    let end = c.batch_end-end.result in
    let e = c.batch_end-end.ensures in
    let le : at.first ≤ end = omega arith in
    let traces = c.args.traces.now in
    let proofs = c.args.proofs.now in
    let pushed = c.in_ok-push.ensures.ok in
    record {
      within = e.within;
      follow = subst (λ bs. FollowFrom 0 bs end) (sym pushed) (follow_more 0 at.batches _ at.first end at.invariant.follow refl (part_length at.first end traces le e.within));
      traces_are = ap (flat_map (λ (b : Batch). b.traces.now)) pushed ∙ parts_more (λ b. b.traces.now) at.batches _ at.first end traces le at.invariant.traces_are refl;
      proofs_are = ap (flat_map (λ (b : Batch). b.proofs.now)) pushed ∙ parts_more (λ b. b.proofs.now) at.batches _ at.first end proofs le at.invariant.proofs_are refl;
    }
