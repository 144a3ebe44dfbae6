use Rattle.std.proofs.Common.{Bor, List, ℕ, ◌+◌, take, sym, subst}
use Rattle.std.proofs.lemmas.List.{get_or_default}
use Rattle.potential_certificate.specs.inside.Gathering.{AreEachReadOf, IsReadOf}
use Rattle.potential_certificate.specs.declared.parts.PartRead.{PartRead}
use Rattle.potential_certificate.proofs.Drawings.{zip_more}
use Rattle.potential_certificate.proofs.drawing.unread_parts.Goals as goal

pub loop-part-preserved : goal.loop-part-preserved
loop-part-preserved c =
    let parts = c.args.parts.now in
    let place = c.loop-part.part-index in
    subst (AreEachReadOf (take (place + 1) parts)) (sym {A = List PartRead} c.in_ok-push.ensures.items)
    (zip_more (λ part read. IsReadOf part.now read) parts c.loop-part.reads.items place c.unread.result c.loop-part-test.true c.loop-part.invariant
    (λ d. subst (λ (part : Bor (List ℕ)). IsReadOf part.now c.unread.result) (get_or_default parts place _ d c.loop-part-test.true) c.unread.ensures))
