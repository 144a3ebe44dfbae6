use Rattle.std.proofs.Common.{◌≡◌, ◌<◌, All, Bor, IfOk, List, Result, ℕ, length, vec_len, sym, ap, subst, ◌∙◌, arith}
use Rattle.std.specs.Vec.Iter.{into_iter_items}
use Rattle.std.specs.declared.alloc.AllocError.{AllocError}
use Rattle.std.proofs.lemmas.List.{with_items_is}
use Rattle.std.proofs.lemmas.List.Elements.{All-head, All-tail, All-weaker}
use Rattle.std.proofs.lemmas.Slice.Zip.{AllZip-long}
use Rattle.potential_certificate.specs.inside.Gathering.{AreEachReadOf, IsPlacedIn, IsReadOf}
use Rattle.potential_certificate.specs.declared.drawing.PlacedRead.{PlacedRead}
use Rattle.potential_certificate.specs.declared.parts.PartRead.{PartRead}
use Rattle.potential_certificate.proofs.Drawings.{put_each}
use Rattle.potential_certificate.proofs.drawing.read_each.Goals as goal
use Rattle.potential_certificate.proofs.drawing.read_each.Goals.{In_ok-done}

-- what this worker read
mine : (g : _) (c : In_ok-done g) → All (IsPlacedIn c.args.parts.now) c.in_ok-done.field-0
mine g c =
    let P : Result (List PlacedRead) AllocError → Type 0 = λ done. IfOk done (All (IsPlacedIn c.args.parts.now)) in
    subst P c.in_ok-done.was (All-head P c.in-Some.done (into_iter_items c.next.new.self) (subst (All P) c.in-Some.ensures.steps.0 c.loop-done.invariant.placed))

pub put_in-requires : goal.put_in-requires
put_in-requires g c =
    let parts = c.args.parts.now in
    let reads = c.loop-done.reads in
    let long = AllZip-long (λ part read. IsReadOf part.now read) parts reads.items c.loop-done.invariant.reads in
    let same : length c.deref_mut.result.now ≡ length parts = ap (λ (l : List PartRead). length l) c.deref_mut.ensures.value ∙ long in
    All-weaker (IsPlacedIn parts) (λ p. p.place < length c.deref_mut.result.now) (λ p is. let inside = is.0 in omega (arith, same, inside)) c.in_ok-done.field-0 (mine g (goal.at.put_in-requires g c).In_ok-done)

pub loop-done-preserved : goal.loop-done-preserved
loop-done-preserved g c =
    let parts = c.args.parts.now in
    let i = c.loop-done.invariant in
    let reads = c.loop-done.reads in
    let left = c.put_in.new.reads in
    let R : Bor (List ℕ) → PartRead → Type 0 = λ part read. IsReadOf part.now read in
    let P : Result (List PlacedRead) AllocError → Type 0 = λ done. IfOk done (All (IsPlacedIn parts)) in
    let each : AreEachReadOf parts left = subst (AreEachReadOf parts) (sym c.put_in.ensures)
    (put_each parts c.deref_mut.result.now c.in_ok-done.field-0 (mine g (goal.at.loop-done-preserved g c).In_ok-done) (subst (AreEachReadOf parts) (sym c.deref_mut.ensures.value) i.reads)) in
    let before = AllZip-long R parts reads.items i.reads in
    let after = AllZip-long R parts left each in
    let long : length left ≡ vec_len reads = (let whole = reads.ok.0 in omega (arith, before, after, whole)) in
    record {
      reads = subst (AreEachReadOf parts) (sym (with_items_is reads left long)) each;
      placed = All-tail P c.in-Some.done (into_iter_items c.next.new.self) (subst (All P) c.in-Some.ensures.steps.0 i.placed);
    }
