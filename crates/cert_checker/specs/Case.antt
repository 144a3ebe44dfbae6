-- One trace with its proof, and what they say of a position. Layers, ranks and tables are in the order of the
-- positions.
use Rattle.std.specs.Prelude.{ℕ, ◌-◌, ◌==◌, ◌&&◌, Bool, nat_lt, is_some, List, [], length, map, Option, None, slice_index_or}
use Rattle.std.specs.List.{list_any, range_with_len}
use Rattle.cost_model.specs.declared.params.Params.{Params}
use Rattle.road_network.specs.Net.{Net}
use Rattle.bounded_table.specs.Table.{TableRow}
use Rattle.matching.specs.declared.parts.Cell.{Cell}
use Rattle.matching.specs.declared.parts.Layer.{Layer}
use Rattle.matching.specs.Layers.{trellis}
use Rattle.matching.specs.Local.{by_way_of}
use Rattle.route_rebuild.specs.Routes.{no_layer}
use Rattle.potential_certificate.specs.declared.proof.TraceProof.{TraceProof}

pub record Case : Type 0 where
  pub net : Net
  pub params : Params
  pub rows : List TableRow
  pub layers : List Layer
  pub proof : TraceProof

abbrev pub layer : Case → ℕ → Layer
layer c i = slice_index_or c.layers i no_layer

-- how many candidates position i has
abbrev pub width : Case → ℕ → ℕ
width c i = length (layer c i).candidates

-- the cells and the chosen rank that the proof gives for position i
abbrev pub table : Case → ℕ → List Cell
table c i = slice_index_or c.proof.tables i []

abbrev pub rank : Case → ℕ → Option ℕ
rank c i = slice_index_or c.proof.ranks i None

-- whether the certificate has the row of node v
abbrev pub has_row : List TableRow → ℕ → Bool
has_row rows v = list_any (λ row. row.origin == v) rows

-- whether transitions from position i - 1 to position i are looked at
abbrev pub is_looked_at : Case → ℕ → Bool
is_looked_at c i =
    nat_lt 0 i
    && (nat_lt 0 (width c (i - 1))
    && (nat_lt 0 (width c i) && (trellis c.net c.params).near (layer c (i - 1)) (layer c i)))

-- the cost of coming to candidate j of position i by way of cell a of position i - 1, if that is live and has a
-- route to j
abbrev pub way : Case → ℕ → ℕ → ℕ → Option ℕ
way c i a j = by_way_of (trellis c.net c.params) (layer c (i - 1)) (table c (i - 1)) (layer c i) a j

-- the same for each cell of position i - 1
abbrev pub ways : Case → ℕ → ℕ → List (Option ℕ)
ways c i j = map (λ a. way c i a j) (range_with_len 0 (width c (i - 1)))

-- whether some live cell of position i - 1 has a route to some candidate of position i
abbrev pub has_way : Case → ℕ → Bool
has_way c i = list_any (λ j. list_any is_some (ways c i j)) (range_with_len 0 (width c i))
