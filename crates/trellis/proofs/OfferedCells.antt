-- The cells of a point while ways are offered to them, rank by rank.
use Rattle.std.proofs.Common.{◌≡◌, ℕ, ◌+◌, ◌-◌, ◌^◌, ◌<◌, ◌≤◌, ◌++◌, List, None, inl, inr, length, length-set, set, get_or-set_same, get_or-set_other, take, refl, sym, ap, ◌∙◌, subst, arith}
use Rattle.std.proofs.lemmas.Bool.{cases_eq}
use Rattle.std.specs.Prelude.{Result}
use Rattle.std.proofs.Math.Seq.{take-append_seam}
use Rattle.bounded_table.specs.Rows.{RowsState, AsksFor}
use Rattle.cost_model.specs.Costs.{emission}
use Rattle.road_network.specs.declared.Candidate.{Candidate}
use Rattle.road_network.specs.Net.{IsLawful, target}
use Rattle.matching.specs.declared.parts.Cell.{Cell}
use Rattle.matching.specs.Cells.{cell_at, empty_cell}
use Rattle.matching.specs.Growth.{CostAtMost}
use Rattle.matching.specs.Layers.{candidate_of_rank, end_of, trellis}
use Rattle.matching.specs.Local.{IsLeastWay}
use Rattle.matching.specs.PieceSteps.{Asks}
use Rattle.matching.specs.Sequences.{added}
use Rattle.trellis.specs.declared.steps.Origin.{Origin}
use Rattle.trellis.specs.declared.steps.Step.{Step}
use Rattle.trellis.specs.Offers.{IsOrigin, offered, raised}
use Rattle.trellis.specs.Steps.{AreFilled, AreOfferedBelow, AreOfferedUpTo, IsOriginAt, arrival_by_rank}
use Rattle.trellis.proofs.Learning.{asks_one}
use Rattle.trellis.proofs.LeastWays.{offered_keeps, raised_least}
use Rattle.trellis.proofs.Ways.{arrival_le}

-- the ways of one more rank were offered
pub one_offered : (s : Step) (rank : ℕ) (old new : List Cell) → AreOfferedBelow s rank old → length new ≡ length old
    → ((j : ℕ) → j < length old → cell_at new j ≡ offered (cell_at old j) rank (arrival_by_rank s rank j)) → AreOfferedBelow s (rank + 1) new
one_offered s rank old new h count each = record {
  count = count ∙ h.count;
  each = λ j lt. let low : j < length old = subst (λ n. j < n) count lt in
      offered_keeps (λ a. arrival_by_rank s a j) rank (cell_at old j) (cell_at new j) (h.each j low) (each j low);
}

-- none yet of the ways of one more rank
pub up_to_none : (s : Step) (rank : ℕ) (cells : List Cell) → AreOfferedBelow s rank cells → AreOfferedUpTo s rank 0 cells
up_to_none s rank cells h = record {
  count = h.count;
  within = omega arith;
  done = λ j lt. absurd (omega (arith, lt));
  left = λ j low lt. h.each j lt;
}

-- the way to one more cell, which changed nothing, or wrote the cell
pub up_to_same : (s : Step) (rank i : ℕ) (cells : List Cell) → AreOfferedUpTo s rank i cells → i < length cells
    → offered (cell_at cells i) rank (arrival_by_rank s rank i) ≡ cell_at cells i → AreOfferedUpTo s rank (i + 1) cells
up_to_same s rank i cells h lt stays = record {
  count = h.count;
  within = omega (arith, lt);
  done = λ j below. elim (cases_eq j i) [
    | inl same ↦
        subst (λ k. IsLeastWay (λ a. arrival_by_rank s a k) (rank + 1) (cell_at cells k)) (sym same)
        (offered_keeps (λ a. arrival_by_rank s a i) rank (cell_at cells i) (cell_at cells i) (h.left i (omega arith) lt) (sym stays))
    | inr apart ↦ h.done j (omega (arith, below, apart))
  ];
  left = λ j from low. h.left j (omega (arith, from)) low;
}

pub up_to_next : (s : Step) (rank i : ℕ) (cells : List Cell) (cell : Cell) → AreOfferedUpTo s rank i cells → i < length cells
    → cell ≡ offered (cell_at cells i) rank (arrival_by_rank s rank i) → AreOfferedUpTo s rank (i + 1) (set cells i cell)
up_to_next s rank i cells cell h lt is = record {
  count = length-set cells i cell ∙ h.count;
  within = let count = length-set cells i cell in omega (arith, count, lt);
  done = λ j below. elim (cases_eq j i) [
    | inl same ↦
        subst (λ k. IsLeastWay (λ a. arrival_by_rank s a k) (rank + 1) (cell_at (set cells i cell) k)) (sym same)
        (offered_keeps (λ a. arrival_by_rank s a i) rank (cell_at cells i) (cell_at (set cells i cell) i) (h.left i (omega arith) lt)
        (get_or-set_same cells i cell empty_cell lt ∙ is))
    | inr apart ↦
        subst (λ (c : Cell). IsLeastWay (λ a. arrival_by_rank s a j) (rank + 1) c) (sym (get_or-set_other cells i j cell empty_cell apart))
        (h.done j (omega (arith, below, apart)))
  ];
  left = λ j from low.
      subst (λ (c : Cell). IsLeastWay (λ a. arrival_by_rank s a j) rank c) (sym (get_or-set_other cells i j cell empty_cell (λ same. omega (arith, same, from))))
      (h.left j (omega (arith, from)) (let count = length-set cells i cell in omega (arith, count, low)));
}

-- and to all
pub up_to_all : (s : Step) (rank i : ℕ) (cells : List Cell) → AreOfferedUpTo s rank i cells → length cells ≤ i → AreOfferedBelow s (rank + 1) cells
up_to_all s rank i cells h all = record { count = h.count; each = λ j lt. h.done j (omega (arith, lt, all)) }

-- a candidate that is not live has no ways
pub passed_over : (s : Step) (rank : ℕ) (cells : List Cell) → (cell_at s.costs.now rank).cost ≡ None → AreOfferedBelow s rank cells → AreOfferedBelow s (rank + 1) cells
passed_over s rank cells dead h =
    one_offered s rank cells cells h refl
    (λ j lt. ap (λ v. offered (cell_at cells j) rank (added v ((trellis s.net.now s.params.now).transition s.before.now rank s.layer.now j) 0)) (sym dead))

-- the parts of the candidate of a rank, in the words of the step
origin_is : (s : Step) (rank : ℕ) (o : Origin) → IsOriginAt s rank o → IsOrigin s.before.now s.costs.now rank o.candidate o.cost
origin_is s rank o at =
    subst (λ (t : Step). IsOrigin t.before.now t.costs.now rank o.candidate o.cost) at.step_is
    (subst (λ a. IsOrigin o.step.now.before.now o.step.now.costs.now a o.candidate o.cost) at.rank_is o.is)

-- the ways from the candidate of this rank were offered, and the cells put back
pub offer_taken : (s : Step) (rank : ℕ) (o : Origin) (old new rest : List Cell) → IsOriginAt s rank o → AreOfferedBelow s rank old
    → AreOfferedBelow o.step.now (o.rank + 1) new → AreOfferedBelow s (rank + 1) (take (length old) (new ++ rest))
offer_taken s rank o old new rest at before after =
    let own : AreOfferedBelow s (rank + 1) new =
    subst (λ (t : Step). AreOfferedBelow t (rank + 1) new) at.step_is (subst (λ a. AreOfferedBelow o.step.now (a + 1) new) at.rank_is after) in
    let long : length old ≡ length new = before.count ∙ sym own.count in
    subst (AreOfferedBelow s (rank + 1)) (sym (ap (λ (k : ℕ). take k (new ++ rest)) long ∙ take-append_seam new rest)) own

-- the row of the node of this candidate was asked for
pub asks_origin : {A E : Type 0} {old new : RowsState} {result : Result A E} (s : Step) (rank n : ℕ) (o : Origin) → IsOriginAt s rank o
    → n ≡ target o.step.now.net.now o.candidate.edge.0 → AsksFor old (λ v. v ≡ n) result new → AsksFor old (Asks s.net.now s.before.now s.costs.now rank) result new
asks_origin s rank n o at node asks =
    let is : IsOrigin s.before.now s.costs.now rank o.candidate o.cost = origin_is s rank o at in
    let node_is : n ≡ end_of s.net.now s.before.now rank =
    node ∙ (ap (λ (t : Step). target t.net.now o.candidate.edge.0) at.step_is ∙ ap (λ (x : Candidate). target s.net.now x.edge.0) is.candidate_is) in
    asks_one s.net.now s.before.now s.costs.now rank n o.cost node_is is.live asks

-- no cost is too great to add what a candidate costs
pub arrivals_small : (s : Step) (cells : List Cell) → IsLawful s.net.now → AreOfferedBelow s (length s.costs.now) cells → CostAtMost (2 ^ 64 - 2 ^ 43 + 2_828_427_124_000) cells
arrivals_small s cells lawful h =
    arrival_le s.net.now s.params.now s.before.now s.layer.now s.costs.now cells (2 ^ 64 - 2 ^ 43) lawful s.is.layers s.is.costs.count s.is.costs.small h.count
    (λ j lt. h.each j (subst (λ n. j < n) (sym h.count) lt))

-- all ways were offered, and what each candidate costs was added
pub filled : (s : Step) (cells after : List Cell) → AreOfferedBelow s (length s.costs.now) cells → length after ≡ length cells
    → ((j : ℕ) → j < length cells → cell_at after j ≡ raised (cell_at cells j) (emission s.params.now (candidate_of_rank s.layer.now j).d2)) → AreFilled s after
filled s cells after h count each =
    let t = trellis s.net.now s.params.now in
    record {
      count = count ∙ h.count;
      each = λ j lt. let low : j < length cells = subst (λ n. j < n) (sym h.count) lt in
          raised_least (λ a. (cell_at s.costs.now a).cost) (λ a. t.transition s.before.now a s.layer.now j) (length s.before.now.candidates)
          (t.emission s.layer.now j) (cell_at cells j) (cell_at after j)
          (subst (λ n. IsLeastWay (λ a. arrival_by_rank s a j) n (cell_at cells j)) s.is.costs.count (h.each j low)) (each j low);
    }
