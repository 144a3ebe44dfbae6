-- What is known of the match of a trace, and of the chosen candidates of its pieces.
use Rattle.std.specs.Prelude.{ℕ, ◌+◌, ◌<◌, List, length}
use Rattle.std.specs.List.{All}
use Rattle.cost_model.specs.declared.params.Params.{Params}
use Rattle.cost_model.specs.Options.{IsAccepted}
use Rattle.matching.specs.declared.parts.Layer.{Layer}
use Rattle.matching.specs.Layers.{IsCandidate, IsMatchable, trellis}
use Rattle.matching.specs.Match.{IsMatch}
use Rattle.matching.specs.Routes.{HasNoRoute}
use Rattle.road_network.specs.Net.{Net}
use Rattle.road_network.specs.declared.Candidate.{Candidate}
use Rattle.route_rebuild.specs.Routes.{candidate_in}
use Rattle.trellis.specs.declared.parts.Solved.{Solved}

-- it is the match of these layers, which are layers of this network, with accepted options
pub record IsSolved (n : Net) (p : Params) (layers : List Layer) (solved : Solved) : Type 0 where
  pub trace : IsMatchable n p layers
  pub matched : IsMatch (trellis n p) layers solved.ranks solved.pieces solved.tables

-- chosen candidates of this network, with a route between neighbours
pub record IsCandidateRun (n : Net) (p : Params) (chosen : List Candidate) : Type 0 where
  pub options : IsAccepted p
  pub some : 0 < length chosen
  pub candidates : All (IsCandidate n p) chosen
  pub routes : (i : ℕ) → i + 1 < length chosen
      → HasNoRoute n p.bound p.back (candidate_in chosen i) (candidate_in chosen (i + 1)) → ⊥
