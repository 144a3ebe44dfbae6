use Rattle.std.proofs.Common.{ℕ, ◌≡◌, ◌<◌, ◌≤◌, get_or, length}
use Rattle.std.specs.List.{insert}
use Rattle.candidate_search.specs.declared.best.NearEdge.{NearEdge}
use Rattle.candidate_search.specs.inside.Best.{ComesBefore}
use Rattle.candidate_search.proofs.Inserting.{others_of}
use Rattle.candidate_search.proofs.best.move_last_up.Given as goal

abbrev pub invariant-loop-place : goal.invariant-loop-place
invariant-loop-place l = record {
  inside : l.place < length l.found;
  within : l.place ≤ length (others_of l.fn.found);
  after : (i : ℕ) (d : NearEdge) → l.place ≤ i → i < length (others_of l.fn.found) → ComesBefore l.near (get_or (others_of l.fn.found) i d);
  list : l.found ≡ insert (others_of l.fn.found) l.place l.near;
}

abbrev pub decreases-loop-place : goal.decreases-loop-place
decreases-loop-place l = l.place
