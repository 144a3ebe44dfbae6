-- The chosen candidates of a piece among the layers of its trace.
use Rattle.std.specs.Prelude.{◌≡◌, ℕ, ◌+◌, ◌<◌, ◌≤◌, List, Option, None, length, slice_index_or, unwrap_or}
use Rattle.matching.specs.declared.parts.Layer.{Layer}
use Rattle.route_rebuild.specs.Routes.{candidate_in, chosen_at, no_layer}
use Rattle.cost_model.specs.declared.params.Params.{Params}
use Rattle.cost_model.specs.Options.{IsAccepted}
use Rattle.matching.specs.declared.parts.Piece.{Piece}
use Rattle.matching.specs.Layers.{IsCandidate}
use Rattle.matching.specs.Routes.{HasNoRoute}
use Rattle.road_network.specs.Net.{Net}
use Rattle.road_network.specs.declared.Candidate.{Candidate}

-- position i has a chosen candidate
pub record IsChosenPoint (layers : List Layer) (ranks : List (Option ℕ)) (i : ℕ) : Type 0 where
  pub layer : i < length layers
  pub rank : i < length ranks
  pub among : unwrap_or (slice_index_or ranks i None) 0
      < length (slice_index_or layers i no_layer).candidates

-- each position of the piece has a chosen candidate, and no neighbouring pair is without a route
pub record IsChosenRun (n : Net) (p : Params) (layers : List Layer) (ranks : List (Option ℕ))
    (piece : Piece) : Type 0 where
  pub options : IsAccepted p
  pub some : piece.first ≤ piece.last
  pub points : (i : ℕ) → piece.first ≤ i → i ≤ piece.last → IsChosenPoint layers ranks i
  pub candidates : (i : ℕ) → piece.first ≤ i → i ≤ piece.last
      → IsCandidate n p (chosen_at layers ranks i)
  pub routes : (i : ℕ) → piece.first ≤ i → i < piece.last
      → HasNoRoute n p.bound p.back (chosen_at layers ranks i) (chosen_at layers ranks (i + 1)) → ⊥

-- the chosen candidates of `count` positions from position `first` on
pub record AreChosenFrom (layers : List Layer) (ranks : List (Option ℕ)) (first count : ℕ)
    (chosen : List Candidate) : Type 0 where
  pub count_is : length chosen ≡ count
  pub each : (k : ℕ) → k < count → candidate_in chosen k ≡ chosen_at layers ranks (first + k)
