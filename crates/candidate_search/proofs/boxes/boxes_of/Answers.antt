use Rattle.std.proofs.Common.{ap, ◌≡◌, ◌∙◌, All, List, arith, length, map, subst, sym}
use Rattle.candidate_search.proofs.EdgeBoxes.{next_box}
use Rattle.candidate_search.proofs.Shared.{boxes_rise}
use Rattle.std.specs.List.{range_with_len}
use Rattle.candidate_search.specs.declared.boxes.EdgeBox.{EdgeBox}
use Rattle.candidate_search.specs.inside.Boxes.{IsEdgeBox}
use Rattle.candidate_search.proofs.boxes.boxes_of.Goals as goal

pub loop-number-preserved : goal.loop-number-preserved
loop-number-preserved c =
    let s = c.loop-number in
    let next = next_box c.args.net.now s.boxes.items c.push.new.self.items s.number c.box_of.result s.invariant.each s.invariant.all c.in_ok-push.ensures.items c.box_of.ensures.extent (ap (λ e. e.0) c.box_of.ensures.edge) in
    record { each = next.0; all = next.1 }

pub returns-clause-boxes : goal.returns-clause-boxes
returns-clause-boxes c = boxes_rise c.args.net.now c.loop-number.boxes.items c.loop-number.number c.loop-number.invariant.each c.loop-number.invariant.all

pub loop-number-init : goal.loop-number-init
loop-number-init c =
    let none = c.in_ok-boxes.ensures.items in
    record {
      each = subst (All (IsEdgeBox c.args.net.now)) (sym none) (λ i d lt. absurd (omega (arith, lt)));
      all = ap (λ (l : List EdgeBox). map (λ b. b.edge.0) l) none;
    }

pub box_of-requires : goal.box_of-requires
box_of-requires c = omega (arith, c.loop-number-test.true, c.edge_count-number-end.ensures)

pub returns-clause-all : goal.returns-clause-all
returns-clause-all c =
    let s = c.loop-number in
    let all : s.number ≡ length c.args.net.now.edges = omega (arith, c.loop-number-test.false, c.edge_count-number-end.ensures) in
    s.invariant.all ∙ ap (range_with_len 0) all
