use Rattle.std.proofs.Common.{◌≡◌, ◌<◌, ℕ, All, length, slice_index_or}
use Rattle.candidate_search.specs.declared.placed.Placed.{Placed}
use Rattle.candidate_search.specs.inside.Placed.{IsPlaced}
use Rattle.candidate_search.proofs.placed.with_places.Given as goal

abbrev pub invariant-loop-place : goal.invariant-loop-place
invariant-loop-place l = record {
  count : length l.group.items ≡ l.place;
  each : All (IsPlaced l.points) l.group.items;
  in_order : (i : ℕ) (d : Placed) → i < length l.group.items → (slice_index_or l.group.items i d).place ≡ i;
}
