use Rattle.std.proofs.Common.{Bor, ℕ, List, ◌<◌, All, length, sym, subst, arith, ◌∙◌}
use Rattle.std.proofs.lemmas.List.{get_or_default}
use Rattle.std.proofs.lemmas.List.Elements.{All-push}
use Rattle.potential_certificate.specs.inside.Gathering.{IsPlacedIn, IsReadOf}
use Rattle.potential_certificate.proofs.drawing.draw_parts.Goals as goal

pub loop-number-preserved : goal.loop-number-preserved
loop-number-preserved c =
    let i = c.loop-number.invariant in
    let drawn = c.in-Some.ensures in
    let place = c.in-Some.number in
    let parts = c.args.parts.now in
    let is = drawn.number.3 in
    let inside : place < length parts = (let same = is.0 in let below = is.1 in let few = c.requires.count in omega arith) in
    record {
      own = drawn.claims ∙ i.own;
      opened = drawn.then;
      done = subst (All (IsPlacedIn parts)) (sym c.in_ok-push.ensures.ok)
          (All-push (IsPlacedIn parts) c.loop-number.done _ i.done (inside, λ d. subst (λ (part : Bor (List ℕ)). IsReadOf part.now c.in_ok-read.read) (get_or_default parts place _ d inside) c.in_ok-read.ensures));
    }
