-- The match of traces, and the text that is written of it. A piece has at least one position, since `AreLeastPieces`
-- says that its `first` is at most its `last`. So it does not matter what is said here of no positions.
use Rattle.std.specs.Prelude.{◌≡◌, ◌↔◌, ℕ, ◌+◌, ◌-◌, ◌<◌, ◌≤◌, Bool, true, List, [], ◌∷◌, ◌++◌, Some, codes, count_by, length, map, reverse, take, drop, slice_get}
use Rattle.std.specs.List.{AllZip, Contains, concat, range_with_len, sum_by}
use Rattle.cost_model.specs.Costs.{difference, emission, transition}
use Rattle.cost_model.specs.declared.params.Params.{Params}
use Rattle.decimal_text.specs.Number.{decimal}
use Rattle.match_text.specs.Lines.{text_of}
use Rattle.match_text.specs.declared.matched.Label.{Label}
use Rattle.match_text.specs.declared.matched.Label.TheVariants.{Missing, On}
use Rattle.match_text.specs.declared.matched.MatchedTrace.{MatchedTrace}
use Rattle.match_text.specs.declared.matched.Routed.{Routed}
use Rattle.matching.specs.Match.{from_to}
use Rattle.matching.specs.Order.{AtMost}
use Rattle.matching.specs.Routes.{Route, Direct, Over, IsTheRoute, route_length}
use Rattle.polyline_geometry.specs.Plane.{straight}
use Rattle.road_network.specs.Near.{candidates}
use Rattle.road_network.specs.Net.{Net, edge_name, target}
use Rattle.road_network.specs.declared.Candidate.{Candidate}
use Rattle.trace_match.specs.Match.{label_on}
use Rattle.trace_reader.specs.Trace.{point_of_fix}
use Rattle.trace_reader.specs.declared.trace.Fix.{Fix}
use Rattle.trace_reader.specs.declared.trace.Trace.{Trace}

-- ---- sequences

-- the candidates of a position: the first k of the edges within the radius, by distance and then by edge
-- number. The rank of a candidate is its place in this list, from 0
abbrev pub candidates_of : Net → Params → Fix → List Candidate
candidates_of n p fix = candidates n p.k p.radius (point_of_fix fix)

-- these are the candidates of these ranks, one for each position
abbrev pub AreChosen : Net → Params → List Fix → List ℕ → List Candidate → Type 0
AreChosen n p [] [] [] = Unit {0}
AreChosen n p (fix ∷ fixes) (rank ∷ ranks) (c ∷ chosen) =
    (slice_get (candidates_of n p fix) rank ≡ Some c) × AreChosen n p fixes ranks chosen
AreChosen n p fixes ranks chosen = ⊥

-- it costs so much to go from candidate a of position f to candidate b of position g: the two are joined by
-- the least of all routes whose walk is within the bound
abbrev pub IsStepCost : Net → Params → Fix → Candidate → Fix → Candidate → ℕ → Type 0
IsStepCost n p f a g b cost =
    (r : Route) × IsTheRoute n p.bound p.back a b r
    × (cost ≡ transition p (route_length n a b r) (straight (point_of_fix f) (point_of_fix g)))

-- chosen candidates cost so much: the sum of their emissions and steps. They have no cost where two neighbours are
-- not joined. Here both lists run backwards: positions and candidates go from the last back to the first
abbrev pub IsCost : Net → Params → List Fix → List Candidate → ℕ → Type 0
IsCost n p [] [] cost = cost ≡ 0
IsCost n p (f ∷ []) (a ∷ []) cost = cost ≡ emission p a.d2
IsCost n p (g ∷ f ∷ fixes) (b ∷ a ∷ chosen) cost =
    (before : ℕ) × (step : ℕ) × IsCost n p (f ∷ fixes) (a ∷ chosen) before × IsStepCost n p f a g b step
    × (cost ≡ before + step + emission p b.d2)
IsCost n p fixes chosen cost = ⊥

-- a sequence: a candidate of each position, each two neighbours joined. Positions, ranks and candidates run
-- backwards, from the last to the first
pub record IsSequence (n : Net) (p : Params) (fixes_back : List Fix) (ranks_back : List ℕ) (cost : ℕ)
    : Type 0 where
  pub chosen : List Candidate
  pub are : AreChosen n p fixes_back ranks_back chosen
  pub costs : IsCost n p fixes_back chosen cost

-- the best sequence over these positions: of all sequences the least by cost, and then by the ranks from the
-- last position back to the first. Here positions and `ranks` run forwards, and `others_back` backwards
pub record IsBestOfPositions (n : Net) (p : Params) (fixes : List Fix) (ranks : List ℕ) (cost : ℕ) : Type 0 where
  pub is : IsSequence n p (reverse fixes) (reverse ranks) cost
  pub least : (others_back : List ℕ) (other : ℕ) → IsSequence n p (reverse fixes) others_back other
      → AtMost cost (reverse ranks) other others_back

-- ---- pieces

abbrev pub IsNear : Params → Fix → Fix → Type 0
IsNear p f g = difference f.time g.time ≤ p.gap

-- neighbouring positions are near in time
abbrev pub ArePositionsNear : Params → List Fix → Type 0
ArePositionsNear p [] = Unit {0}
ArePositionsNear p (f ∷ []) = Unit {0}
ArePositionsNear p (f ∷ g ∷ fixes) = IsNear p f g × ArePositionsNear p (g ∷ fixes)

-- these positions can be one piece: neighbours are near in time, and there is some sequence (of no positions too, but
-- a piece has at least one)
pub record CanPositionsBePiece (n : Net) (p : Params) (fixes : List Fix) : Type 0 where
  pub near : ArePositionsNear p fixes
  pub ranks_back : List ℕ
  pub cost : ℕ
  pub sequence : IsSequence n p (reverse fixes) ranks_back cost

-- the greatest count such that the first `count` of these positions can be one piece
pub record IsLongest (n : Net) (p : Params) (fixes : List Fix) (count : ℕ) : Type 0 where
  pub within : count ≤ length fixes
  pub can : CanPositionsBePiece n p (take count fixes)
  pub longest : (more : ℕ) → count < more → more ≤ length fixes → ¬ CanPositionsBePiece n p (take more fixes)

-- the edges that a route to candidate b adds; a walk is kept backwards, from its last edge to its first
abbrev pub edges_added : Candidate → Route → List ℕ
edges_added b Direct = []
edges_added b (Over walk) = reverse walk ++ b.edge.0 ∷ []

-- from candidate a over these candidates the least routes add these edges
abbrev pub AreAdded : Net → Params → Candidate → List Candidate → List ℕ → Type 0
AreAdded n p a [] edges = edges ≡ []
AreAdded n p a (b ∷ chosen) edges =
    (r : Route) × (rest : List ℕ) × IsTheRoute n p.bound p.back a b r
    × (edges ≡ edges_added b r ++ rest) × AreAdded n p b chosen rest

-- the route over chosen candidates: the first one's edge, and what the least route to each next one adds
abbrev pub IsRouteOver : Net → Params → List Candidate → List ℕ → Type 0
IsRouteOver n p [] edges = ⊥
IsRouteOver n p (a ∷ chosen) edges =
    (rest : List ℕ) × (edges ≡ a.edge.0 ∷ rest) × AreAdded n p a chosen rest

-- the piece of these positions, with their labels: its best sequence, the cost of that, and its route
pub record IsLeastPiece (n : Net) (p : Params) (fixes : List Fix) (labels : List Label) (piece : Routed)
    : Type 0 where
  pub ranks : List ℕ
  pub chosen : List Candidate
  pub edges : List ℕ
  pub best : IsBestOfPositions n p fixes ranks piece.cost
  pub are : AreChosen n p fixes ranks chosen
  pub labels_are : labels ≡ map (label_on n) chosen
  pub route : IsRouteOver n p chosen edges
  pub route_is : piece.route ≡ map (edge_name n) edges

-- ---- the match of a trace

-- these positions have no candidate, and their labels say so
abbrev pub AreMissing : Net → Params → List Fix → List Label → Type 0
AreMissing n p fixes labels =
    AllZip (λ fix label. (candidates_of n p fix ≡ []) × (label ≡ Missing)) fixes labels

-- the labels and pieces of a trace from position number i on: positions without candidates, then a piece that
-- goes as far as it can, and so on
abbrev pub AreLeastPieces : Net → Params → List Fix → List Label → ℕ → List Routed → Type 0
AreLeastPieces n p fixes labels i [] = AreMissing n p (drop i fixes) (drop i labels)
AreLeastPieces n p fixes labels i (piece ∷ pieces) =
    (i ≤ piece.first)
    × AreMissing n p (take (piece.first - i) (drop i fixes)) (take (piece.first - i) (drop i labels))
    × (piece.first ≤ piece.last)
    × IsLongest n p (drop piece.first fixes) (piece.last + 1 - piece.first)
    × IsLeastPiece n p (from_to piece.first piece.last fixes) (from_to piece.first piece.last labels) piece
    × AreLeastPieces n p fixes labels (piece.last + 1) pieces

pub record IsLeastMatch (n : Net) (p : Params) (trace : Trace) (matched : MatchedTrace) : Type 0 where
  pub id : matched.id ≡ trace.id
  pub labels : length matched.labels ≡ length trace.fixes
  pub pieces : AreLeastPieces n p trace.fixes matched.labels 0 matched.pieces

-- ---- asked rows

-- position number i of a piece asks for the row of node v: some sequence from the first position of the piece to
-- position i ends in a candidate `c` whose edge ends at v, and the next position has a candidate and is near in
-- time. The ranks run backwards, and so do the candidates from `c` on
pub record AsksAt (n : Net) (p : Params) (fixes : List Fix) (piece : Routed) (i v : ℕ) : Type 0 where
  pub after_first : piece.first ≤ i
  pub to_last : i ≤ piece.last
  pub ranks_back : List ℕ
  pub cost : ℕ
  pub c : Candidate
  pub earlier : List Candidate
  pub are : AreChosen n p (reverse (from_to piece.first i fixes)) ranks_back (c ∷ earlier)
  pub costs : IsCost n p (reverse (from_to piece.first i fixes)) (c ∷ earlier) cost
  pub node : target n c.edge.0 ≡ v
  pub here : Fix
  pub next : Fix
  pub here_is : slice_get fixes i ≡ Some here
  pub next_is : slice_get fixes (i + 1) ≡ Some next
  pub some : 0 < length (candidates_of n p next)
  pub near : IsNear p here next

-- one of these traces, with these matches, asks for the row of node v
pub record IsAskedFor (n : Net) (p : Params) (traces : List Trace) (matches : List MatchedTrace) (v : ℕ)
    : Type 0 where
  pub k : ℕ
  pub trace : Trace
  pub matched : MatchedTrace
  pub trace_is : slice_get traces k ≡ Some trace
  pub matched_is : slice_get matches k ≡ Some matched
  pub piece : Routed
  pub piece_is : Contains matched.pieces piece
  pub i : ℕ
  pub asks : AsksAt n p trace.fixes piece i v

-- ---- the text

-- the total line
abbrev pub line_of_totals : (traces points pieces rows : ℕ) → List ℕ
line_of_totals traces points pieces rows =
    (codes "total traces " ++ decimal traces)
    ++ (codes " points " ++ decimal points)
    ++ (codes " pieces " ++ decimal pieces)
    ++ (codes " rows " ++ decimal rows)
    ++ 10 ∷ []

-- the text of traces: that of the match of each, in order, and the total line; its rows are the nodes whose
-- row is asked for, each once
pub record IsMatchText (n : Net) (p : Params) (traces : List Trace) (text : List ℕ) : Type 0 where
  pub matches : List MatchedTrace
  pub are : AllZip (IsLeastMatch n p) traces matches
  pub asked : ℕ → Bool
  pub asked_is : (v : ℕ) → (asked v ≡ true) ↔ IsAskedFor n p traces matches v
  pub is : text ≡ concat (map text_of matches)
      ++ line_of_totals (length traces) (sum_by (λ trace. length trace.fixes) traces)
      (sum_by (λ matched. length matched.pieces) matches)
      (count_by asked (range_with_len 0 (length n.nodes)))
