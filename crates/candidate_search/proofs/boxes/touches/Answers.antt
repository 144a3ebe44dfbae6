use Rattle.std.specs.Prelude.{◌&&◌}
use Rattle.std.proofs.Common.{rules, sym, ap, ◌∙◌, to_z, of_z, w32}
use Rattle.candidate_search.specs.inside.Boxes.{overlap}
use Rattle.candidate_search.proofs.EdgeBoxes.{same_overlap}
use Rattle.candidate_search.proofs.boxes.touches.Goals as goal

pub returns-then-overlap : goal.returns-then-overlap
returns-then-overlap c =
    let a = c.args.one in
    let b = c.args.other in
    let x = same_overlap
    (to_z w32 (of_z w32 a.low.x)) (to_z w32 (of_z w32 a.high.x)) (to_z w32 (of_z w32 b.low.x)) (to_z w32 (of_z w32 b.high.x))
    a.low.x a.high.x b.low.x b.high.x (search rules) (search rules) (search rules) (search rules)
    in
    let y = same_overlap
    (to_z w32 (of_z w32 a.low.y)) (to_z w32 (of_z w32 a.high.y)) (to_z w32 (of_z w32 b.low.y)) (to_z w32 (of_z w32 b.high.y))
    a.low.y a.high.y b.low.y b.high.y (search rules) (search rules) (search rules) (search rules)
    in
    c.overlap-then-overlap.ensures ∙ y ∙ sym (ap (λ v. v && overlap a.low.y a.high.y b.low.y b.high.y) (sym (c.overlap.ensures ∙ x) ∙ c.if-overlap.true))

pub returns-else-overlap : goal.returns-else-overlap
returns-else-overlap c =
    let a = c.args.one in
    let b = c.args.other in
    let x = same_overlap
    (to_z w32 (of_z w32 a.low.x)) (to_z w32 (of_z w32 a.high.x)) (to_z w32 (of_z w32 b.low.x)) (to_z w32 (of_z w32 b.high.x))
    a.low.x a.high.x b.low.x b.high.x (search rules) (search rules) (search rules) (search rules)
    in
    c.if-overlap.false ∙ sym (ap (λ v. v && overlap a.low.y a.high.y b.low.y b.high.y) (sym (c.overlap.ensures ∙ x) ∙ c.if-overlap.false))
