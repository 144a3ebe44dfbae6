-- Positions with their places, and the lists that are written at these.
use Rattle.std.specs.Prelude.{ℕ, ◌≡◌, ◌<◌, ◌++◌, List, length, map, slice_index_or}
use Rattle.std.specs.List.{All, HoldsAt}
use Rattle.std.specs.List.Sorted.{IsPermutation}
use Rattle.polyline_geometry.specs.declared.plane.Point.{Point}
use Rattle.polyline_geometry.specs.Plane.{InRange}
use Rattle.road_network.specs.declared.Candidate.{Candidate}
use Rattle.candidate_search.specs.declared.placed.Placed.{Placed}
use Rattle.candidate_search.specs.declared.placed.Halves.{Halves}

-- the position is at its place in the list
abbrev pub IsPlaced : List Point → Placed → Type 0
IsPlaced points x = HoldsAt (λ at. at ≡ x.at) points x.place

-- all of the positions, with their places
pub record ArePlaced (points : List Point) (group : List Placed) : Type 0 where
  pub count : length group ≡ length points
  pub each : All (IsPlaced points) group
  pub in_order : (i : ℕ) (d : Placed) → i < length group → (slice_index_or group i d).place ≡ i

abbrev pub points_of : List Placed → List Point
points_of group = map (λ x. x.at) group

-- a position in range, whose place is one of n
pub record IsAsked (n : ℕ) (x : Placed) : Type 0 where
  pub in_range : InRange x.at
  pub inside : x.place < n

abbrev pub both : Halves → List Placed
both halves = halves.below.items ++ halves.above.items

-- both have positions of the group, which has no others
pub record AreHalves (group : List Placed) (halves : Halves) : Type 0 where
  pub below : 0 < length halves.below.items
  pub above : 0 < length halves.above.items
  pub all : IsPermutation group (both halves)

-- the list at the position's place is its own
abbrev pub IsListed : (Point → List Candidate) → List (List Candidate) → Placed → Type 0
IsListed own lists x = HoldsAt (λ list. list ≡ own x.at) lists x.place

-- the lists of a group are written among those of all positions, and those that were written stay
pub record AreWritten (own : Point → List Candidate) (points : List Point) (old new : List (List Candidate)) (group : List Placed) : Type 0 where
  pub keeps : (x : Placed) → IsPlaced points x → IsListed own old x → IsListed own new x
  pub each : All (IsListed own new) group
