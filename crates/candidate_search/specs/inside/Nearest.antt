-- The nearest candidates so far.
use Rattle.std.specs.Prelude.{ℕ, ◌≡◌, ◌+◌, ◌-◌, ◌*◌, ◌<◌, ◌≤◌, ◌⊎◌, Option, MatchOption, nat_le, if◌then◌else◌, List, length, slice_index_or, take}
use Rattle.std.specs.List.{All}
use Rattle.std.specs.List.Sorted.{IsNonDecreasingBy}
use Rattle.polyline_geometry.specs.declared.line.NearSegment.{NearSegment}
use Rattle.polyline_geometry.specs.declared.plane.Point.{Point}
use Rattle.polyline_geometry.specs.Nearest.{IsNearest, segment_snap}
use Rattle.polyline_geometry.specs.Plane.{snap_line}
use Rattle.road_network.specs.declared.Candidate.{Candidate}
use Rattle.candidate_search.specs.declared.wanted.Search.{Search}
use Rattle.road_network.specs.Net.{Net, HasEdge, edge_line}
use Rattle.candidate_search.specs.declared.best.NearEdge.{NearEdge}
use Rattle.candidate_search.specs.inside.Best.{AreBest, IsAccounted}
use Rattle.road_network.specs.Near.{in_order, placed, within}

-- the first k within the radius, in order
abbrev pub nearest : ℕ → ℕ → List Candidate → List Candidate
nearest k radius snaps = take k (in_order (within radius snaps))

-- the first k, where one more comes to those that were found
abbrev pub with_one : ℕ → ℕ → List Candidate → Candidate → List Candidate
with_one k radius found c = if nat_le c.d2 (radius * radius) then take k (placed c found) else found

-- at most k candidates by distance, all of edges below e
pub record IsFound (k e : ℕ) (found : List Candidate) : Type 0 where
  pub few : length found ≤ k
  pub sorted : IsNonDecreasingBy (λ c. c.d2) found
  pub earlier : All (λ c. c.edge.0 < e) found

-- the place of the first that is farther
pub record IsPlace (found : List Candidate) (d2 place : ℕ) : Type 0 where
  pub within : place ≤ length found
  pub before : (i : ℕ) (d : Candidate) → i < place → (slice_index_or found i d).d2 ≤ d2
  pub after : (i : ℕ) (d : Candidate) → place ≤ i → i < length found
      → d2 < (slice_index_or found i d).d2

-- an edge at this squared distance is no candidate: it is beyond the radius, or k are found that
-- are no farther
abbrev pub AllAreFar : Search → List Candidate → ℕ → Type 0
AllAreFar search found d2 =
    (search.radius * search.radius < d2)
    ⊎ ((length found ≡ search.k) × All (λ c. c.d2 ≤ d2) found)

-- the first of the nearest segments of a line, within the radius; None where the line is no candidate
abbrev pub IsNearestOf : List Point → Search → List Candidate → Option NearSegment → Type 0
IsNearestOf line search found near =
    MatchOption near (AllAreFar search found (snap_line line search.at).d2)
    (λ s. IsNearest line search.at 0 (length line - 1) s
    × (s.d2 ≤ search.radius * search.radius))

-- the segment is the first of the nearest of its edge
abbrev pub IsNearestOn : Net → Search → NearEdge → Type 0
IsNearestOn net search c =
    HasEdge net c.edge.0
    × IsNearest (edge_line net c.edge.0) search.at 0 (length (edge_line net c.edge.0) - 1) (record { segment = c.segment; d2 = c.d2 })

-- the best edges, with all segments within the radius accounted for
pub record AreNearestEdges (net : Net) (search : Search) (found : List NearEdge) : Type 0 where
  pub best : AreBest net search found
  pub every : (e i : ℕ) → HasEdge net e → i + 1 < length (edge_line net e)
      → (segment_snap (edge_line net e) search.at i).d2 ≤ search.radius * search.radius
      → IsAccounted search.k found (segment_snap (edge_line net e) search.at i).d2 e i
