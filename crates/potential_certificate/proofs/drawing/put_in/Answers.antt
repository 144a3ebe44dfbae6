use Rattle.std.proofs.Common.{◌<◌, All, length, length-set, sym, ap, subst, ◌∙◌}
use Rattle.std.specs.Vec.Iter.{into_iter_items}
use Rattle.std.proofs.lemmas.List.Elements.{All-tail}
use Rattle.potential_certificate.specs.inside.Gathering.{put_at_places}
use Rattle.potential_certificate.specs.declared.drawing.PlacedRead.{PlacedRead}
use Rattle.potential_certificate.proofs.drawing.put_in.Goals as goal

pub loop-place-preserved : goal.loop-place-preserved
loop-place-preserved c =
    let at = c.loop-place in
    let step = c.in-Some.ensures.steps.0 in
    let P : PlacedRead → Type 0 = λ p. p.place < length c.args.reads.now in
    record {
      count = length-set _ _ _ ∙ at.invariant.count;
      inside = All-tail P c.in-Some.field-0 (into_iter_items c.next.new.self) (subst (All P) step at.invariant.inside);
      reads = sym (ap (put_at_places at.reads) step) ∙ at.invariant.reads;
    }
