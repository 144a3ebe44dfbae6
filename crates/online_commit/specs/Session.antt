-- What a session represents: the positions that were fed to it.
use Rattle.std.specs.Prelude.{◌≡◌, ◌⊎◌, ℕ, ◌+◌, ◌<◌, ◌≤◌, List, [], ◌∷◌, ◌++◌, Result, OnOk, Contains, length, drop}
use Rattle.cost_model.specs.declared.params.Params.{Params}
use Rattle.road_network.specs.Net.{Net}
use Rattle.bounded_table.specs.Rows.{RowsState, AsksOnly, Keeps}
use Rattle.matching.specs.declared.parts.Layer.{Layer}
use Rattle.matching.specs.Layers.{IsLayer, trellis}
use Rattle.matching.specs.PieceSteps.{AsksTrace}
use Rattle.matching.specs.Value.{solution}
use Rattle.matching.specs.CommittedValue.{committed_of, open_first}
use Rattle.online_commit.specs.declared.items.Item.{Item}
use Rattle.online_commit.specs.Items.{handed, items_of}

-- a session: where the open piece begins, how many of its positions were handed out, and its positions
pub record Session : Type 0 where
  pub network : Net
  pub params : Params
  pub first : ℕ
  pub told : ℕ
  pub layers : List Layer

-- how many positions were fed
abbrev pub fed_position_count : Session → ℕ
fed_position_count s = s.first + length s.layers

-- it represents these positions: it keeps those of their open piece, and has handed out what is committed
pub record RepresentsLayers (s : Session) (fed : List Layer) : Type 0 where
  pub count : fed_position_count s ≡ length fed
  pub layers_are : s.layers ≡ drop s.first fed
  pub first_is : open_first (solution (trellis s.network s.params) fed).pieces (length fed) ≡ s.first
  pub told_is : committed_of (trellis s.network s.params) fed ≡ s.first + s.told

-- a session with no positions
abbrev pub no_points_of : Net → Params → Session
no_points_of n p = record { network = n; params = p; first = 0; told = 0; layers = [] }

-- a position of the plane with at most 32 candidates of this network
pub record IsFedLayer (n : Net) (p : Params) (l : Layer) : Type 0 where
  pub layer : IsLayer n p l
  pub few : length l.candidates ≤ 32

-- a position of its network that the session has room for
abbrev pub CanFeed : Session → Layer → Type 0
CanFeed s l = IsFedLayer s.network s.params l × (fed_position_count s < 100_000)

-- the match of these positions asks for the row of node v
abbrev pub AsksPoints : Net → Params → List Layer → ℕ → Type 0
AsksPoints n p layers v = AsksTrace n p layers (solution (trellis n p) layers).pieces v

-- the list begins with these items
abbrev pub ItemsBeginWith : List Item → List Item → Type 0
ItemsBeginWith all front = (rest : List Item) × (all ≡ front ++ rest)

-- a session of the same network and options that represents one position more, where these items were handed out:
-- all items so far stay, whatever positions follow
pub record FeedsLayer (old : Session) (l : Layer) (new : Session) (items : List Item) : Type 0 where
  pub network : new.network ≡ old.network
  pub params : new.params ≡ old.params
  pub stands : (fed : List Layer) → RepresentsLayers old fed → RepresentsLayers new (fed ++ l ∷ [])
  pub handed_on : (fed : List Layer) → RepresentsLayers old fed
      → handed old.network old.params (fed ++ l ∷ []) ≡ handed old.network old.params fed ++ items
  pub stays : (fed more : List Layer) → RepresentsLayers old fed
      → ItemsBeginWith (items_of old.network old.params ((fed ++ l ∷ []) ++ more))
      (handed old.network old.params fed ++ items)

-- all that is left was handed out, and the session is as newly opened
pub record IsFinished (old new : Session) (items : List Item) : Type 0 where
  pub opened : new ≡ no_points_of old.network old.params
  pub rest : (fed : List Layer) → RepresentsLayers old fed
      → items_of old.network old.params fed ≡ handed old.network old.params fed ++ items

-- what feeding a position leaves of the rows: nothing became known but what the positions with the new one ask for,
-- and after Ok all that they ask for is known and the positions before did not
pub record AsksFed {A E : Type 0} (old : Session) (l : Layer) (rows : RowsState) (result : Result A E)
    (new : RowsState) : Type 0 where
  pub keeps : Keeps rows new
  pub only : (fed : List Layer) → RepresentsLayers old fed
      → AsksOnly rows new (AsksPoints old.network old.params (fed ++ l ∷ []))
  pub all : OnOk result ((fed : List Layer) (v : ℕ) → RepresentsLayers old fed
      → AsksPoints old.network old.params (fed ++ l ∷ []) v
      → AsksPoints old.network old.params fed v ⊎ Contains new.known v)

-- nothing became known but what the positions ask for
pub record AsksFinished (old : Session) (rows new : RowsState) : Type 0 where
  pub keeps : Keeps rows new
  pub only : (fed : List Layer) → RepresentsLayers old fed
      → AsksOnly rows new (AsksPoints old.network old.params fed)

-- what is handed out stays, whatever positions follow
abbrev pub HandedStays : Type 0
HandedStays =
    (n : Net) (p : Params) (layers more : List Layer)
    → ItemsBeginWith (items_of n p (layers ++ more)) (handed n p layers)

-- and more positions hand out no less
abbrev pub HandedGrows : Type 0
HandedGrows =
    (n : Net) (p : Params) (layers more : List Layer)
    → ItemsBeginWith (handed n p (layers ++ more)) (handed n p layers)
