use Rattle.std.proofs.Common.{◌++◌, ◌∷◌, [], ◌∙◌, Bool, Vec, Global, List, ap, append-nil, cond, get_or, sym, take}
use Rattle.std.specs.List.{filter}
use Rattle.std.proofs.lemmas.List.{take_all}
use Rattle.std.proofs.lemmas.List.Elements.{filter_more}
use Rattle.candidate_search.specs.declared.boxes.EdgeBox.{EdgeBox}
use Rattle.candidate_search.specs.inside.Boxes.{touches}
use Rattle.candidate_search.proofs.Shared.{no_box}
use Rattle.candidate_search.proofs.boxes.boxes_near.Goals.{then-touches+in_ok-push, else-touches}
use Rattle.candidate_search.proofs.boxes.boxes_near.Goals as goal

pub loop-edge_box-init : goal.loop-edge_box-init
loop-edge_box-init c = c.new-near.ensures.items

pub loop-edge_box-preserved : goal.loop-edge_box-preserved
loop-edge_box-preserved c =
    let s = c.loop-edge_box in
    let boxes = c.args.boxes.now in
    let i = s.edge_box-index in
    let p : EdgeBox → Bool = λ b. touches c.args.area b.extent in
    let x : EdgeBox = get_or boxes i no_box in
    let more = filter_more p boxes i no_box c.loop-edge_box-test.true in
    let items : Vec EdgeBox Global → List EdgeBox = λ v. v.items in
    let with : Bool → List EdgeBox = λ t. filter p (take i boxes) ++ cond t (x ∷ []) [] in
    elim c.if-touches.branch [
      | then-touches+in_ok-push w ↦ ap items w.near-is ∙ w.in_ok-push.ensures.items ∙ ap (λ l. l ++ x ∷ []) s.invariant ∙ sym (more ∙ ap with (sym c.touches.ensures ∙ w.if-touches.true))
      | else-touches w ↦ ap items w.near-is ∙ s.invariant ∙ sym (more ∙ ap with (sym c.touches.ensures ∙ w.if-touches.false) ∙ append-nil (filter p (take i boxes)))
    ]

pub returns : goal.returns
returns c =
    c.loop-edge_box.invariant ∙ ap (filter (λ b. touches c.args.area b.extent)) (take_all c.loop-edge_box.edge_box-index c.args.boxes.now c.loop-edge_box-test.false)
