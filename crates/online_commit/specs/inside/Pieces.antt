-- The open piece of a session, and how it grows.
use Rattle.std.specs.Prelude.{◌≡◌, ℕ, ◌+◌, ◌-◌, ◌^◌, ◌<◌, ◌≤◌, List, [], ◌∷◌, ◌++◌, drop, length, slice_index_or, vec_len, vec_capacity}
use Rattle.std.specs.List.{All}
use Rattle.cost_model.specs.declared.params.Params.{Params}
use Rattle.road_network.specs.Net.{Net}
use Rattle.road_network.specs.declared.Candidate.{Candidate}
use Rattle.matching.specs.declared.parts.Cell.{Cell}
use Rattle.matching.specs.declared.parts.Layer.{Layer}
use Rattle.matching.specs.Layers.{candidate_of_rank, no_candidate, trellis}
use Rattle.matching.specs.Local.{AreFirst}
use Rattle.route_rebuild.specs.Routes.{no_layer}
use Rattle.online_commit.specs.declared.feeding.Tail.{Tail}
use Rattle.online_commit.specs.declared.items.Item.{Item}
use Rattle.online_commit.specs.declared.items.Item.TheVariants.{Missing}
use Rattle.online_commit.specs.declared.open_piece.OpenPiece.{OpenPiece}
use Rattle.online_commit.specs.inside.Masks.{AreMasks, HasFewRanks, IsOnlyRank, mask_after, mask_at}
use Rattle.online_commit.specs.inside.Steps.{AreSettled, KeptSession}

-- what is seen of the kept positions of an open piece: not how much room they have
pub record Piece : Type 0 where
  pub first : ℕ
  pub told : ℕ
  pub layers : List Layer
  pub tables : List (List Cell)
  pub masks : List ℕ

abbrev pub shown_piece : Tail → Piece
shown_piece a = record {
  first = a.first;
  told = a.told;
  layers = a.layers.items;
  tables = a.tables.items;
  masks = a.masks.items;
}

-- what is seen of an open piece: all its positions, the candidates of those that were let go, and the kept ones
pub record Whole : Type 0 where
  pub first : ℕ
  pub told : ℕ
  pub layers : List Layer
  pub tables : List (List Cell)
  pub settled : List Candidate
  pub tail : Piece

abbrev pub whole_of : OpenPiece → Whole
whole_of a = record {
  first = a.first;
  told = length a.settled.items + a.tail.told;
  layers = a.layers.items;
  tables = a.tables.items;
  settled = a.settled.items;
  tail = shown_piece a.tail;
}

-- an open piece of which all positions are kept
abbrev pub alone : Piece → Whole
alone a = record { first = a.first; told = a.told; layers = a.layers; tables = a.tables; settled = []; tail = a }

-- the session with this piece
abbrev pub session_with : Net → Params → Whole → KeptSession
session_with n p a = record {
  network = n;
  params = p;
  first = a.first;
  told = a.told;
  layers = a.layers;
  tables = a.tables;
  settled = a.settled;
  kept_first = a.tail.first;
  kept_told = a.tail.told;
  kept_layers = a.tail.layers;
  kept_tables = a.tail.tables;
  masks = a.tail.masks;
}

abbrev pub session_of : Net → Params → OpenPiece → KeptSession
session_of n p a = session_with n p (whole_of a)

pub record HasRoomForLayer (a : Tail) : Type 0 where
  pub layers : vec_len a.layers < vec_capacity a.layers
  pub tables : vec_len a.tables < vec_capacity a.tables
  pub masks : vec_len a.masks < vec_capacity a.masks

-- the piece may take a position with these cells
pub record MayGrow (a : Piece) (cells : List Cell) : Type 0 where
  pub few : a.first + length a.layers < 100_000
  pub tables_count : length a.tables ≡ length a.layers
  pub masks_count : length a.masks ≡ length a.layers
  pub masks_are : 0 < length a.tables → AreMasks a.tables (mask_at a.masks) (length a.tables)
  pub ranks : All HasFewRanks a.tables
  pub cells_few : HasFewRanks cells
  pub told : a.told ≤ length a.layers

-- these masks change where the position comes, and these are the items of the positions that are committed by it
pub record Settles (old : Piece) (l : Layer) (cells : List Cell) (changed : List ℕ) (items : List Item)
    : Type 0 where
  pub few : length changed ≤ length old.masks + 1
  pub masks : AreMasks (old.tables ++ cells ∷ []) (mask_after old.masks changed) (length old.tables + 1)
  pub settled : AreSettled old.first (old.layers ++ l ∷ []) (mask_after old.masks changed) old.told items

-- the position was appended, and the masks that changed were written
pub record IsAppended (old : Piece) (l : Layer) (cells : List Cell) (changed : List ℕ) (new : Piece) : Type 0 where
  pub first : new.first ≡ old.first
  pub layers : new.layers ≡ old.layers ++ l ∷ []
  pub tables : new.tables ≡ old.tables ++ cells ∷ []
  pub count : length new.masks ≡ length old.masks + 1
  pub masks : (i : ℕ) → i ≤ length old.masks → mask_at new.masks i ≡ mask_after old.masks changed i

-- it took the position, and these are the items of the positions that are committed by it
pub record IsExtended (old : Piece) (l : Layer) (cells : List Cell) (new : Piece)
    (items : List Item) : Type 0 where
  pub first : new.first ≡ old.first
  pub told : new.told ≡ old.told + length items
  pub layers : new.layers ≡ old.layers ++ l ∷ []
  pub tables : new.tables ≡ old.tables ++ cells ∷ []
  pub masks_count : length new.masks ≡ length new.layers
  pub masks : AreMasks new.tables (mask_at new.masks) (length new.layers)
  pub settled : AreSettled new.first new.layers (mask_at new.masks) old.told items

-- the same of the piece as a whole: no position was let go
pub record IsGrown (old : Whole) (l : Layer) (cells : List Cell) (new : Whole) (items : List Item) : Type 0 where
  pub tail : IsExtended old.tail l cells new.tail items
  pub first : new.first ≡ old.first
  pub told : new.told ≡ old.told + length items
  pub layers : new.layers ≡ old.layers ++ l ∷ []
  pub tables : new.tables ≡ old.tables ++ cells ∷ []
  pub settled : new.settled ≡ old.settled

-- each position that is kept has its layer, its cells and its mask
pub record IsEven (a : Piece) : Type 0 where
  pub few : a.first + length a.layers < 2 ^ 32
  pub tables_count : length a.tables ≡ length a.layers
  pub masks_count : length a.masks ≡ length a.layers
  pub told : a.told ≤ length a.layers

-- the candidates of its first `count` positions, which have one rank each, were appended
pub record AreFirstSettled (a : Piece) (old : List Candidate) (count : ℕ) (new : List Candidate) : Type 0 where
  pub more : List Candidate
  pub appended : new ≡ old ++ more
  pub count_is : length more ≡ count
  pub each : (i : ℕ) → i < count → (r : ℕ) × IsOnlyRank (mask_at a.masks i) r
      × (slice_index_or more i no_candidate ≡ candidate_of_rank (slice_index_or a.layers i no_layer) r)

-- the same piece without its first `count` positions
abbrev pub shorter : Piece → ℕ → Piece
shorter a count = record {
  first = a.first + count;
  told = a.told - count;
  layers = drop count a.layers;
  tables = drop count a.tables;
  masks = drop count a.masks;
}

-- settled positions were let go, and not the last settled one
pub record IsLetGo (old new : Whole) : Type 0 where
  pub count : ℕ
  pub within : count ≤ old.tail.told - 1
  pub settled : AreFirstSettled old.tail old.settled count new.settled
  pub tail : new.tail ≡ shorter old.tail count
  pub first : new.first ≡ old.first
  pub told : new.told ≡ old.told
  pub layers : new.layers ≡ old.layers
  pub tables : new.tables ≡ old.tables

-- it took the position, and then settled ones were let go
pub record GoesOn (old : Whole) (l : Layer) (cells : List Cell) (new : Whole) (items : List Item) : Type 0 where
  pub grown : Whole
  pub is_grown : IsGrown old l cells grown items
  pub lets_go : IsLetGo grown new

-- a piece without positions that may begin with position `first`
abbrev pub empty_piece : ℕ → Piece
empty_piece first = record { first = first; told = 0; layers = []; tables = []; masks = [] }

-- the piece that begins with position i, or none where it has no candidate
pub record IsBegun (p : Params) (i : ℕ) (l : Layer) (new : Piece) (items : List Item) : Type 0 where
  pub none : length l.candidates ≡ 0 → (new ≡ empty_piece (i + 1)) × (items ≡ Missing i ∷ [])
  pub some : 0 < length l.candidates → (cells : List Cell) × ((n : Net) → AreFirst (trellis n p) l cells)
      × IsExtended (empty_piece i) l cells new items
