-- The route of a piece: over its chosen candidates, in order of travel.
use Rattle.std.specs.Prelude.{ℕ, zero, suc, ◌≡◌, ◌+◌, ◌-◌, ◌<◌, ◌≤◌, List, [], ◌∷◌, ◌++◌, Option, Some, None, length, pos, reverse, slice_index_or, unwrap_or}
use Rattle.cost_model.specs.declared.params.Params.{Params}
use Rattle.matching.specs.declared.parts.Layer.{Layer}
use Rattle.matching.specs.declared.parts.Piece.{Piece}
use Rattle.matching.specs.Layers.{candidate_of_rank, no_candidate}
use Rattle.matching.specs.Routes.{Route, Direct, Over, IsTheRoute}
use Rattle.matching.specs.RouteBetween.{route_between}
use Rattle.road_network.specs.Net.{Net, target}
use Rattle.road_network.specs.declared.Candidate.{Candidate}
use Rattle.trellis.specs.Links.{IsDirect}

-- the edges that a route to candidate b adds: none where it is direct, and else its walk and the
-- edge of b
abbrev pub edges_of : Candidate → Route → List ℕ
edges_of b Direct = []
edges_of b (Over w) = reverse w ++ b.edge.0 ∷ []

-- es are the edges of the legs from position i over the next k positions: what the route of each neighbouring pair
-- adds
abbrev pub AreLegs : Net → ℕ → ℕ → (ℕ → Candidate) → ℕ → ℕ → List ℕ → Type 0
AreLegs n bound back chosen i zero es = es ≡ []
AreLegs n bound back chosen i (suc k) es =
    (r : Route) × (rest : List ℕ) × IsTheRoute n bound back (chosen i) (chosen (i + 1)) r
    × (es ≡ edges_of (chosen (i + 1)) r ++ rest) × AreLegs n bound back chosen (i + 1) k rest

-- the value for a layer past the last one
abbrev pub no_layer : Layer
no_layer = record { point = record { x = pos 0; y = pos 0 }; candidates = []; time = 0 }

-- the chosen candidate of position i
abbrev pub chosen_at : List Layer → List (Option ℕ) → ℕ → Candidate
chosen_at layers ranks i =
    candidate_of_rank (slice_index_or layers i no_layer) (unwrap_or (slice_index_or ranks i None) 0)

-- es is the route of the piece: the edge of its first chosen candidate, and the legs to the others
pub record IsRouteOf (n : Net) (p : Params) (layers : List Layer) (ranks : List (Option ℕ))
    (piece : Piece) (es : List ℕ) : Type 0 where
  pub rest : List ℕ
  pub begins : es ≡ (chosen_at layers ranks piece.first).edge.0 ∷ rest
  pub legs_are : AreLegs n p.bound p.back (chosen_at layers ranks) piece.first
      (piece.last - piece.first) rest

-- candidate i of those that were chosen
abbrev pub candidate_in : List Candidate → ℕ → Candidate
candidate_in chosen i = slice_index_or chosen i no_candidate

-- es is the route over chosen candidates: the edge of the first, and the legs to the others
pub record IsRouteOver (n : Net) (p : Params) (chosen : List Candidate) (es : List ℕ) : Type 0 where
  pub rest : List ℕ
  pub begins : es ≡ (candidate_in chosen 0).edge.0 ∷ rest
  pub legs_are : AreLegs n p.bound p.back (candidate_in chosen) 0 (length chosen - 1) rest

-- the same as a value: the edges that the way to candidate b adds, and those over the next k positions after
-- position i
abbrev pub edges_to : Candidate → Option Route → List ℕ
edges_to b None = []
edges_to b (Some r) = edges_of b r

abbrev pub legs : Net → ℕ → ℕ → (ℕ → Candidate) → ℕ → ℕ → List ℕ
legs n bound back chosen i zero = []
legs n bound back chosen i (suc k) =
    edges_to (chosen (i + 1)) (route_between n bound back (chosen i) (chosen (i + 1)))
    ++ legs n bound back chosen (i + 1) k

-- the route of the piece
unfoldable pub route_of : Net → Params → List Layer → List (Option ℕ) → Piece → List ℕ
route_of n p layers ranks piece =
    (chosen_at layers ranks piece.first).edge.0
    ∷ legs n p.bound p.back (chosen_at layers ranks) piece.first (piece.last - piece.first)

-- v is the end of the edge of a chosen candidate before the piece's last position, from which there is no direct
-- route to the next chosen candidate: the walk of this leg starts at v
abbrev pub IsWalkStart : Net → Params → List Layer → List (Option ℕ) → Piece → ℕ → Type 0
IsWalkStart n p layers ranks piece v =
    (k : ℕ) × (piece.first ≤ k)
    × (k < piece.last)
    × (IsDirect p.back (chosen_at layers ranks k) (chosen_at layers ranks (k + 1)) → ⊥)
    × (v ≡ target n (chosen_at layers ranks k).edge.0)

-- the same over chosen candidates
abbrev pub IsWalkStartOver : Net → Params → List Candidate → ℕ → Type 0
IsWalkStartOver n p chosen v =
    (k : ℕ) × (k + 1 < length chosen)
    × (IsDirect p.back (candidate_in chosen k) (candidate_in chosen (k + 1)) → ⊥)
    × (v ≡ target n (candidate_in chosen k).edge.0)

-- the piece of this number
abbrev pub piece_at : List Piece → ℕ → Piece
piece_at pieces i = slice_index_or pieces i (record { first = 0; last = 0; cost = 0 })
