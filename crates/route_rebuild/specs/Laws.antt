-- What the route of a piece of a match always has.
use Rattle.std.specs.Prelude.{ℕ, zero, suc, ◌≡◌, ◌+◌, ◌-◌, ◌<◌, ◌↔◌, List, [], ◌∷◌, Option, length}
use Rattle.cost_model.specs.declared.params.Params.{Params}
use Rattle.matching.specs.declared.parts.Layer.{Layer}
use Rattle.matching.specs.declared.parts.Piece.{Piece}
use Rattle.matching.specs.Routes.{Route, Direct, Over, IsTheRoute, route_length}
use Rattle.road_network.specs.Net.{Net, IsLawful, source, span, target}
use Rattle.road_network.specs.Walk.{Leads}
use Rattle.road_network.specs.declared.Candidate.{Candidate}
use Rattle.route_rebuild.specs.Chosen.{IsSolved}
use Rattle.route_rebuild.specs.Routes.{IsRouteOf, chosen_at, piece_at, route_of}
use Rattle.trellis.specs.declared.parts.Solved.{Solved}

-- the sum of the lengths of the edges
abbrev pub edges_length : Net → List ℕ → ℕ
edges_length n [] = 0
edges_length n (e ∷ es) = span n e + edges_length n es

-- how far a direct route goes back
abbrev pub move_back : Candidate → Candidate → Route → ℕ
move_back a b Direct = a.offset - b.offset
move_back a b (Over w) = 0

-- the lengths of the routes from position i over the next k positions add up to `lengths`, and their moves back to
-- `moves`
abbrev pub AreTotals : Net → ℕ → ℕ → (ℕ → Candidate) → ℕ → ℕ → ℕ → ℕ → Type 0
AreTotals n bound back chosen i zero lengths moves = (lengths ≡ 0) × (moves ≡ 0)
AreTotals n bound back chosen i (suc k) lengths moves =
    (r : Route) × (l : ℕ) × (m : ℕ) × IsTheRoute n bound back (chosen i) (chosen (i + 1)) r
    × (lengths ≡ route_length n (chosen i) (chosen (i + 1)) r + l)
    × (moves ≡ move_back (chosen i) (chosen (i + 1)) r + m)
    × AreTotals n bound back chosen (i + 1) k l m

-- the lengths of the routes of a piece add up to those of its edges, less the first offset, less the part of the
-- last edge after the last offset, plus the moves back
pub record AddsUp (n : Net) (p : Params) (chosen : ℕ → Candidate) (piece : Piece)
    (es : List ℕ) : Type 0 where
  pub lengths : ℕ
  pub moves : ℕ
  pub totals : AreTotals n p.bound p.back chosen piece.first (piece.last - piece.first) lengths moves
  pub law : lengths + (chosen piece.first).offset
      + (span n (chosen piece.last).edge.0 - (chosen piece.last).offset)
      ≡ edges_length n es + moves

-- es is the route of the piece; neighbouring edges join, from the start of the first chosen edge to
-- the end of the last; and the lengths add up
pub record IsJoinedRoute (n : Net) (p : Params) (layers : List Layer) (ranks : List (Option ℕ))
    (piece : Piece) (es : List ℕ) : Type 0 where
  pub route : IsRouteOf n p layers ranks piece es
  pub joins : Leads n (source n (chosen_at layers ranks piece.first).edge.0) es
      (target n (chosen_at layers ranks piece.last).edge.0)
  pub adds_up : AddsUp n p (chosen_at layers ranks) piece es

-- whatever is the route of a piece of a match joins and adds up
abbrev pub RoutesAreJoined : Type 0
RoutesAreJoined =
    (n : Net) (p : Params) (layers : List Layer) (s : Solved) (k : ℕ) (es : List ℕ)
    → IsLawful n → IsSolved n p layers s → k < length s.pieces
    → IsRouteOf n p layers s.ranks (piece_at s.pieces k) es
    → IsJoinedRoute n p layers s.ranks (piece_at s.pieces k) es

-- the route of a piece of a match is the value, and nothing else is
abbrev pub RoutesAreTheValue : Type 0
RoutesAreTheValue =
    (n : Net) (p : Params) (layers : List Layer) (s : Solved) (k : ℕ) (es : List ℕ)
    → IsLawful n → IsSolved n p layers s → k < length s.pieces
    → IsRouteOf n p layers s.ranks (piece_at s.pieces k) es
    ↔ (es ≡ route_of n p layers s.ranks (piece_at s.pieces k))
