use Rattle.std.proofs.Common.{ℕ, ◌≡◌, ◌-◌, ◌<◌, ◌≤◌, get_or, length}
use Rattle.candidate_search.specs.declared.best.NearEdge.{NearEdge}
use Rattle.candidate_search.proofs.best.place_of_edge.Given as goal

abbrev pub invariant-loop-place : goal.invariant-loop-place
invariant-loop-place l = record {
  within : l.place ≤ length l.found;
  before : (i : ℕ) (d : NearEdge) → i < l.place → (get_or l.found i d).edge.0 ≡ l.edge.0 → ⊥;
}

abbrev pub decreases-loop-place : goal.decreases-loop-place
decreases-loop-place l = length l.found - l.place
