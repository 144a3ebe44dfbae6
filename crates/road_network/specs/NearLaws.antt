-- What the list of candidates has.
use Rattle.std.specs.Prelude.{ℕ, ◌≡◌, ◌*◌, ◌≤◌, ◌⊎◌, true, List, length}
use Rattle.std.specs.List.{All, AllPairs, Contains}
use Rattle.polyline_geometry.specs.declared.plane.Point.{Point}
use Rattle.road_network.specs.declared.Candidate.{Candidate}
use Rattle.road_network.specs.Net.{Net, HasEdge}
use Rattle.road_network.specs.Near.{candidate_at, candidates, is_before}

-- the edge is one of the network, within the radius, and has its snap
pub record IsWithin (n : Net) (radius : ℕ) (p : Point) (c : Candidate) : Type 0 where
  pub has : HasEdge n c.edge.0
  pub snap : c ≡ candidate_at n p c.edge.0
  pub near : c.d2 ≤ radius * radius

-- the list rises by distance and then by edge number, all that it has are within the radius, and an edge within the
-- radius that it does not have comes after k others
pub record AreNearest (n : Net) (k radius : ℕ) (p : Point) (list : List Candidate) : Type 0 where
  pub few : length list ≤ k
  pub rises : AllPairs (λ c d. is_before c d ≡ true) list
  pub each : All (IsWithin n radius p) list
  pub every : (e : ℕ) → HasEdge n e → (candidate_at n p e).d2 ≤ radius * radius
      → Contains list (candidate_at n p e)
      ⊎ ((length list ≡ k) × All (λ c. is_before c (candidate_at n p e) ≡ true) list)

-- the candidates are the k nearest, or all where there are fewer
abbrev pub CandidatesAreNearest : Type 0
CandidatesAreNearest =
    (n : Net) (k radius : ℕ) (p : Point) → AreNearest n k radius p (candidates n k radius p)

-- the candidates of a point lie on different edges
abbrev pub CandidatesDiffer : Type 0
CandidatesDiffer =
    (n : Net) (k radius : ℕ) (p : Point)
    → AllPairs (λ c d. c.edge.0 ≡ d.edge.0 → ⊥) (candidates n k radius p)
