-- Ranks that name candidates.
use Rattle.std.specs.Prelude.{◌≡◌, ℕ, ◌<◌, List, Option, None, IfSome, length, slice_index_or}
use Rattle.std.specs.List.{All}
use Rattle.road_network.specs.Net.{Net, HasEdge}
use Rattle.matching.specs.declared.parts.Layer.{Layer}
use Rattle.matching.specs.Places.{IsAt}

-- the rank, if there is one, is that of a candidate, and the candidates lie on edges
-- of this network
pub record IsRanked (n : Net) (l : Layer) (rank : Option ℕ) : Type 0 where
  pub edges : All (λ c. HasEdge n c.edge.0) l.candidates
  pub among : IfSome rank (λ r. r < length l.candidates)

-- each position has a rank, or none, and it is one of its candidates
pub record AreRanked (n : Net) (layers : List Layer) (ranks : List (Option ℕ)) : Type 0 where
  pub count : length ranks ≡ length layers
  pub each : (i : ℕ) (l : Layer) → IsAt layers i l → IsRanked n l (slice_index_or ranks i None)
