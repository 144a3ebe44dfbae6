-- The items of a trace: the label of each position, and after the last position of a piece the closed piece with
-- its route. In this file layers are in the order of the positions.
use Rattle.std.specs.Prelude.{ℕ, zero, suc, ◌+◌, ◌==◌, List, [], ◌∷◌, ◌++◌, map, length, Option, Some, None, slice_index_or}
use Rattle.std.specs.List.{filter}
use Rattle.cost_model.specs.declared.params.Params.{Params}
use Rattle.road_network.specs.Net.{Net}
use Rattle.road_network.specs.declared.EdgeId.{EdgeId}
use Rattle.matching.specs.declared.parts.Layer.{Layer}
use Rattle.matching.specs.declared.parts.Piece.{Piece}
use Rattle.matching.specs.Layers.{candidate_of_rank, trellis}
use Rattle.matching.specs.Value.{solution}
use Rattle.matching.specs.CommittedValue.{closed_pieces, committed_of}
use Rattle.route_rebuild.specs.Routes.{no_layer, route_of}
use Rattle.online_commit.specs.declared.items.Item.{Item}
use Rattle.online_commit.specs.declared.items.Item.TheVariants.{At, Missing, Closed}

-- the label of position i, which has this layer: its ranked candidate, or none
abbrev pub label_item : ℕ → Layer → Option ℕ → Item
label_item i l None = Missing i
label_item i l (Some rank) = At i (candidate_of_rank l rank)

-- the label of position i
abbrev pub item_at : List Layer → List (Option ℕ) → ℕ → Item
item_at layers ranks i = label_item i (slice_index_or layers i no_layer) (slice_index_or ranks i None)

abbrev pub edge_ids : List ℕ → List EdgeId
edge_ids es = map (λ e. record { 0 = e }) es

-- a piece with its route
abbrev pub closed_item : Net → Params → List Layer → List (Option ℕ) → Piece → Item
closed_item n p layers ranks piece = Closed piece (edge_ids (route_of n p layers ranks piece))

-- those of the pieces that end with position i
abbrev pub closed_at : Net → Params → List Layer → List (Option ℕ) → List Piece → ℕ → List Item
closed_at n p layers ranks pieces i =
    map (closed_item n p layers ranks) (filter (λ piece. piece.last == i) pieces)

-- of k positions from position i on the label, and after it what is closed with that position
abbrev pub points_from : (ℕ → Item) → (ℕ → List Item) → ℕ → ℕ → List Item
points_from label closed i zero = []
points_from label closed i (suc k) = label i ∷ closed i ++ points_from label closed (i + 1) k

-- the labels of the first k positions of a trace with these ranks, and these pieces
abbrev pub items_with : Net → Params → List Layer → List (Option ℕ) → List Piece → ℕ → List Item
items_with n p layers ranks pieces k =
    points_from (item_at layers ranks) (closed_at n p layers ranks pieces) 0 k

-- all that is told of a trace that has ended
unfoldable pub items_of : Net → Params → List Layer → List Item
items_of n p layers =
    let s = solution (trellis n p) layers in items_with n p layers s.ranks s.pieces (length layers)

-- what is told while its positions still come: the labels that are committed, and the closed pieces
unfoldable pub handed : Net → Params → List Layer → List Item
handed n p layers =
    let s = solution (trellis n p) layers in
    items_with n p layers s.ranks (closed_pieces s.pieces (length layers))
    (committed_of (trellis n p) layers)
