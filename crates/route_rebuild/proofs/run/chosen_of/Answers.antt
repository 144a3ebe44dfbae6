use Rattle.std.proofs.Common.{◌≡◌, ℕ, None, get_or, unwrap_or, ap, ◌∙◌, subst, arith, ◌+◌, ◌-◌, sym}
use Rattle.std.proofs.lemmas.List.{get_or_default}
use Rattle.matching.specs.declared.parts.Layer.{Layer}
use Rattle.matching.specs.Layers.{candidate_of_rank, no_candidate}
use Rattle.route_rebuild.specs.inside.ChosenRuns.{AreChosenFrom}
use Rattle.route_rebuild.specs.Routes.{no_layer}
use Rattle.route_rebuild.proofs.ChosenOver.{chosen-more, chosen-none}
use Rattle.route_rebuild.proofs.run.chosen_of.Goals as goal

pub loop-i-init : goal.loop-i-init
loop-i-init c = chosen-none c.args.layers.now c.args.ranks.now c.args.piece.first c.new-chosen.result.items c.new-chosen.ensures.items

pub loop-i-preserved : goal.loop-i-preserved
loop-i-preserved c =
    let layers = c.args.layers.now in
    let i = c.loop-i.i in
    let le = c.loop-i.auto.i in
    let point = c.requires.points i (omega (arith, le)) (let lt = c.loop-i-test.true in omega (arith, lt)) in
    subst (AreChosenFrom layers c.args.ranks.now c.args.piece.first (i + 1 - c.args.piece.first)) (sym c.in_ok-push.ensures.items)
    (chosen-more layers c.args.ranks.now c.args.piece.first i c.loop-i.chosen.items _ (omega (arith, le)) c.loop-i.invariant
    (ap (λ (k : ℕ). get_or c.as_slice.result.now k no_candidate) c.unwrap_or-rank.ensures
    ∙ ap (λ xs. get_or xs (unwrap_or (get_or c.args.ranks.now i None) 0) no_candidate) c.as_slice.ensures
    ∙ ap (λ (l : Layer). candidate_of_rank l (unwrap_or (get_or c.args.ranks.now i None) 0)) (get_or_default layers i c.index-layers-i.result no_layer point.layer)))

pub returns : goal.returns
returns c =
    let lt = c.loop-i-test.false in
    let le = c.loop-i.auto.i-end in
    let some = c.requires.some in
    let e : c.loop-i.i - c.args.piece.first ≡ c.args.piece.last + 1 - c.args.piece.first = omega (arith, lt, le, some) in
    subst (λ k. AreChosenFrom c.args.layers.now c.args.ranks.now c.args.piece.first k c.loop-i.chosen.items) e c.loop-i.invariant
