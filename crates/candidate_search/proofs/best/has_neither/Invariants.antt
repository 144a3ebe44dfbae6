use Rattle.std.proofs.Common.{ℕ, ◌≡◌, ◌<◌, get_or}
use Rattle.candidate_search.specs.declared.best.NearEdge.{NearEdge}
use Rattle.candidate_search.proofs.best.has_neither.Given as goal

abbrev pub invariant-loop-near : goal.invariant-loop-near
invariant-loop-near l =
    (i : ℕ) (d : NearEdge) → i < l.near-index → ((get_or l.found i d).edge.0 ≡ l.one.0 → ⊥) × ((get_or l.found i d).edge.0 ≡ l.other.0 → ⊥)
