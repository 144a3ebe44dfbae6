-- What a row says of the distance of a node.
use Rattle.std.specs.Prelude.{ℕ, ◌≡◌, Option, Some, None}
use Rattle.std.specs.Option.{option_map}
use Rattle.road_network.specs.Net.{Net}
use Rattle.bounded_table.specs.declared.table_row.Entry.{Entry}
use Rattle.bounded_table.specs.Table.{BoundedTable, TableRow, IsRow, entry_in}
use Rattle.trellis.specs.declared.pairs.NearRow.{NearRow}
use Rattle.trellis.specs.declared.pairs.Reached.{Reached}
use Rattle.trellis.specs.declared.pairs.Reached.TheVariants.{At, Nowhere, Further}

-- the distance of a node, where the row lists it
abbrev pub distance_in : TableRow → ℕ → Option ℕ
distance_in row v = option_map (λ (x : Entry). x.distance) (entry_in row.entries v)

-- a memory of pairs of this network within this bound
abbrev pub pairs_of : Net → ℕ → BoundedTable
pairs_of n bound = record { network = n; bound = bound }

-- the row of this origin says so of this node
abbrev pub TellsPair : BoundedTable → ℕ → ℕ → Option ℕ → Type 0
TellsPair table origin node distance =
    (row : TableRow) → IsRow table.network table.bound origin row → distance_in row node ≡ distance

-- what the distance in a row within the whole bound tells
abbrev pub reached_by : Option ℕ → Reached
reached_by None = Nowhere
reached_by (Some d) = At d

-- it tells what the row within the whole bound says, or that this row does not list the node
abbrev pub TellsReached : BoundedTable → NearRow → ℕ → Reached → Type 0
TellsReached table near node (At d) = TellsPair table near.origin.0 node (Some d)
TellsReached table near node Nowhere = TellsPair table near.origin.0 node None
TellsReached table near node Further = distance_in near.row.now node ≡ None

-- it tells what the row within the whole bound says
abbrev pub IsTold : Reached → Type 0
IsTold (At d) = Unit {0}
IsTold Nowhere = Unit {0}
IsTold Further = ⊥
