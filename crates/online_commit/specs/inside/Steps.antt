-- One step of a session: what its parts do, in the words of the session. In this file layers and tables are in the
-- order of the positions.
use Rattle.std.specs.Prelude.{◌≡◌, ℕ, ◌+◌, ◌-◌, ◌<◌, ◌≤◌, List, [], ◌∷◌, ◌++◌, Option, Some, None, MatchOption, drop, length, map, reverse, slice_index_or}
use Rattle.std.specs.List.{All, range_with_len}
use Rattle.cost_model.specs.declared.params.Params.{Params}
use Rattle.cost_model.specs.Options.{IsAccepted}
use Rattle.road_network.specs.Net.{Net}
use Rattle.road_network.specs.declared.Candidate.{Candidate}
use Rattle.matching.specs.declared.parts.Cell.{Cell}
use Rattle.matching.specs.declared.parts.Layer.{Layer}
use Rattle.matching.specs.declared.parts.Piece.{Piece}
use Rattle.matching.specs.Committed.{IsCommitted}
use Rattle.matching.specs.Cells.{IsLive}
use Rattle.matching.specs.Layers.{candidate_of_rank, no_candidate, trellis}
use Rattle.matching.specs.Local.{by_pointers}
use Rattle.matching.specs.PieceSteps.{AsksNext, PieceEndsBefore, PieceGoesOn}
use Rattle.matching.specs.Sequences.{IsBest}
use Rattle.matching.proofs.PieceSoFar.{IsPieceSoFar}
use Rattle.route_rebuild.specs.Routes.{no_layer, route_of}
use Rattle.online_commit.specs.declared.items.Item.{Item}
use Rattle.online_commit.specs.declared.items.Item.TheVariants.{At, Closed}
use Rattle.online_commit.specs.Items.{edge_ids}
use Rattle.online_commit.specs.inside.Masks.{AreMasks, HasFewRanks, IsNotOne, IsOnlyRank, mask_at}
use Rattle.online_commit.specs.Session.{FeedsLayer, IsFedLayer, Session, fed_position_count}

-- a session with the layers and the cells of all positions of its open piece, and what it keeps of them: of its first
-- positions the chosen candidates, and of those from `kept_first` on the layer, the cells and the ranks that are still
-- possible
pub record KeptSession : Type 0 where
  pub network : Net
  pub params : Params
  pub first : ℕ
  pub told : ℕ
  pub layers : List Layer
  pub tables : List (List Cell)
  pub settled : List Candidate
  pub kept_first : ℕ
  pub kept_told : ℕ
  pub kept_layers : List Layer
  pub kept_tables : List (List Cell)
  pub masks : List ℕ

-- what contracts see of it
abbrev pub seen_session : KeptSession → Session
seen_session s = record { network = s.network; params = s.params; first = s.first; told = s.told; layers = s.layers }

-- of each sequence that pointers lead to from a live rank of the last position, these are the candidates of the first
-- positions
abbrev pub AreChosen : List Layer → List (List Cell) → List Candidate → Type 0
AreChosen layers tables settled =
    (j i : ℕ) → IsLive (slice_index_or tables (length tables - 1) []) j → i < length settled
    → slice_index_or settled i no_candidate ≡ candidate_of_rank (slice_index_or layers i no_layer)
    (slice_index_or (reverse (by_pointers (reverse tables) (Some j))) i 0)

-- what it keeps of its open piece
pub record IsKeptOf (s : KeptSession) : Type 0 where
  pub within : length s.settled ≤ length s.layers - 1
  pub first : s.kept_first ≡ s.first + length s.settled
  pub told : s.told ≡ length s.settled + s.kept_told
  pub layers : s.kept_layers ≡ drop (length s.settled) s.layers
  pub tables : s.kept_tables ≡ drop (length s.settled) s.tables
  pub masks_count : length s.masks ≡ length s.kept_layers
  pub masks : 0 < length s.kept_layers → AreMasks s.kept_tables (mask_at s.masks) (length s.kept_layers)
  pub chosen : AreChosen s.layers s.tables s.settled

-- what a session always keeps
pub record IsSession (s : KeptSession) : Type 0 where
  pub options : IsAccepted s.params
  pub few : fed_position_count (seen_session s) ≤ 100_000
  pub layers : All (IsFedLayer s.network s.params) s.layers
  pub ranks : All HasFewRanks s.tables
  pub tables_count : length s.tables ≡ length s.layers
  pub open_is : 0 < length s.layers → IsPieceSoFar s.network s.params s.layers s.tables
  pub kept : IsKeptOf s
  pub front : IsCommitted (trellis s.network s.params) (reverse s.layers) s.told

-- the last position of the open piece, and its cells
abbrev pub last_layer : KeptSession → Layer
last_layer s = slice_index_or s.layers (length s.layers - 1) no_layer

abbrev pub last_cells : KeptSession → List Cell
last_cells s = slice_index_or s.tables (length s.layers - 1) []

-- the cells of a position with which the open piece goes on, or none where it does not or there is none
abbrev pub TellsCells : KeptSession → Layer → Option (List Cell) → Type 0
TellsCells s l next =
    let t = trellis s.network s.params in
    MatchOption next (0 < length s.layers → PieceEndsBefore t (last_layer s) (last_cells s) l)
    (λ cells. (0 < length s.layers) × PieceGoesOn t (last_layer s) (last_cells s) l cells)

-- a position that a session may take, and with which its open piece does not go on
pub record EndsBefore (s : KeptSession) (l : Layer) : Type 0 where
  pub session : IsSession s
  pub layer : IsFedLayer s.network s.params l
  pub room : fed_position_count (seen_session s) < 100_000
  pub ends : TellsCells s l None

-- it took this position, and these are the items that were handed out
pub record TakesAnew (old : KeptSession) (l : Layer) (new : KeptSession) (items : List Item) : Type 0 where
  pub session : IsSession new
  pub fed : FeedsLayer (seen_session old) l (seen_session new) items

-- a step to this position asks for the row of node v
abbrev pub AsksStep : KeptSession → Layer → ℕ → Type 0
AsksStep s l v =
    (0 < length s.layers) × AsksNext s.network s.params (last_layer s) (last_cells s) l v

-- position j of a piece that begins with position `first`, with this rank
abbrev pub ranked_item : ℕ → List Layer → (ℕ → ℕ) → ℕ → Item
ranked_item first layers rank j = At (first + j) (candidate_of_rank (slice_index_or layers j no_layer) (rank j))

-- k positions of it from position j on
abbrev pub ranked_items : ℕ → List Layer → (ℕ → ℕ) → ℕ → ℕ → List Item
ranked_items first layers rank j k = map (ranked_item first layers rank) (range_with_len j k)

-- of the positions of a piece from `from` on, those before the first whose mask has not one rank alone
pub record AreSettled (first : ℕ) (layers : List Layer) (mask : ℕ → ℕ) («from» : ℕ) (items : List Item) : Type 0 where
  pub within : «from» + length items ≤ length layers
  pub single : (j : ℕ) → «from» ≤ j → j < «from» + length items → (r : ℕ) × IsOnlyRank (mask j) r
  pub ends : «from» + length items < length layers → IsNotOne (mask («from» + length items))
  pub are : (rank : ℕ → ℕ) → ((j : ℕ) → «from» ≤ j → j < «from» + length items → IsOnlyRank (mask j) (rank j))
      → items ≡ ranked_items first layers rank «from» (length items)

abbrev pub rank_in : List ℕ → ℕ → ℕ
rank_in ranks j = slice_index_or ranks j 0

-- the candidates of settled positions, and of the first `count` of those after them, which have these layers and ranks
pub record AreAllChosen (settled : List Candidate) (layers : List Layer) (ranks : List ℕ) (count : ℕ)
    (chosen : List Candidate) : Type 0 where
  pub count_is : length chosen ≡ length settled + count
  pub old : (i : ℕ) → i < length settled
      → slice_index_or chosen i no_candidate ≡ slice_index_or settled i no_candidate
  pub new : (i : ℕ) → i < count → slice_index_or chosen (length settled + i) no_candidate
      ≡ candidate_of_rank (slice_index_or layers i no_layer) (rank_in ranks i)

-- ranks that all positions of a piece have
abbrev pub as_ranks : List ℕ → List (Option ℕ)
as_ranks ranks = map (λ r. Some r) ranks

-- the piece of `count` positions from position `first` on, and the same on its own
abbrev pub counted_piece : ℕ → ℕ → ℕ → Piece
counted_piece first count c = record { first = first; last = first + (count - 1); cost = c }

abbrev pub whole_piece : ℕ → ℕ → Piece
whole_piece count c = record { first = 0; last = count - 1; cost = c }

-- what is left of a piece of these layers and ranks that begins with position `first`, of which the first `told`
-- positions were handed out: their labels, and the piece with its route
abbrev pub closing_of : Net → Params → ℕ → List Layer → ℕ → List ℕ → ℕ → List Item
closing_of n p first layers c ranks told =
    ranked_items first layers (rank_in ranks) told (length layers - told)
    ++ Closed (counted_piece first (length layers) c)
    (edge_ids (route_of n p layers (as_ranks ranks) (whole_piece (length layers) c))) ∷ []

-- these are left of the open piece
pub record IsClosing (s : KeptSession) (items : List Item) : Type 0 where
  pub cost : ℕ
  pub ranks : List ℕ
  pub best : IsBest (trellis s.network s.params) (reverse s.layers) cost (reverse ranks)
  pub are : items ≡ closing_of s.network s.params s.first s.layers cost ranks s.told
