use Rattle.std.proofs.Common.{◌≡◌, ◌∙◌, ◌++◌, ℕ, List, inl, inr, length, drop, take, ap, sym, subst, arith, get_or-set_same, get_or-set_other, set}
use Rattle.std.proofs.lemmas.Bool.{cases_eq}
use Rattle.std.proofs.lemmas.List.{length-set}
use Rattle.std.proofs.Math.Seq.{take-append_seam}
use Rattle.cost_model.specs.Costs.{emission}
use Rattle.matching.specs.declared.parts.Cell.{Cell}
use Rattle.matching.specs.Cells.{cell_at, empty_cell}
use Rattle.matching.specs.Layers.{candidate_of_rank}
use Rattle.trellis.specs.Offers.{raised}
use Rattle.trellis.specs.Steps.{AreFilled}
use Rattle.trellis.proofs.OfferedCells.{arrivals_small, filled}
use Rattle.trellis.proofs.offers.add_emissions.Goals as goal

pub add_cost-requires : goal.add_cost-requires
add_cost-requires c = record {
  small = λ cost is.
      let at : cell_at c.args.cells c.loop-j.j ≡ cell_at c.loop-j.raised c.loop-j.j = sym (c.loop-j.invariant.left c.loop-j.j (omega arith)) in
      let small = arrivals_small c.args.step.now c.args.cells c.invariants.ensures c.requires in
      omega (arith, small c.loop-j.j cost (ap (λ x. x.cost) at ∙ is), c.emission.ensures.small);
}

pub loop-j-preserved : goal.loop-j-preserved
loop-j-preserved c =
    let step = c.args.step.now in
    let j : ℕ = c.loop-j.j in
    let cells = c.loop-j.raised in
    let inv = c.loop-j.invariant in
    let value : c.emission.result ≡ emission step.params.now (candidate_of_rank step.layer.now j).d2 = rw c.as_slice-candidates.ensures at c.emission.ensures.value in
    let one : c.add_cost.result ≡ raised (cell_at c.args.cells j) (emission step.params.now (candidate_of_rank step.layer.now j).d2) =
    c.add_cost.ensures ∙ (ap (raised (cell_at cells j)) value ∙ ap (λ x. raised x (emission step.params.now (candidate_of_rank step.layer.now j).d2)) (inv.left j (omega arith))) in
    record {
      count = length-set cells j c.add_cost.result ∙ inv.count;
      done = λ k lt. elim (cases_eq k j) [
        | inl same ↦
            subst (λ (i : ℕ). cell_at (set cells j c.add_cost.result) i ≡ raised (cell_at c.args.cells i) (emission step.params.now (candidate_of_rank step.layer.now i).d2)) (sym same)
            (get_or-set_same cells j c.add_cost.result empty_cell (omega arith) ∙ one)
        | inr apart ↦ get_or-set_other cells j k c.add_cost.result empty_cell apart ∙ inv.done k (omega (arith, lt, apart))
      ];
      left = λ k from. get_or-set_other cells j k c.add_cost.result empty_cell (λ same. omega (arith, same, from)) ∙ inv.left k (omega (arith, from));
    }

pub returns : goal.returns
returns c =
    let step = c.args.step.now in
    let cells : List Cell = c.args.cells in
    let after : List Cell = c.loop-j.raised in
    let inv = c.loop-j.invariant in
    let rest : List Cell = drop (length after) cells in
    let begun : length c.as_mut_slice-raised.result.now ≡ length cells = ap (λ (l : List Cell). length l) c.as_mut_slice-raised.ensures.value in
    let same : c.of.result ≡ after = c.of.ensures ∙ (ap (λ (k : ℕ). take k (after ++ rest)) (sym inv.count) ∙ take-append_seam after rest) in
    subst (AreFilled step) (sym same) (filled step cells after c.requires inv.count (λ j lt. inv.done j (omega (arith, lt, inv.count, begun))))
