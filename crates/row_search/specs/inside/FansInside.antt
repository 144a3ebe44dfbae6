-- What fans are made of: one for each node of the network.
use Rattle.std.specs.Prelude.{ℕ, ◌≡◌, List, Some, length, map, slice_get}
use Rattle.road_network.specs.Net.{Net, arc_of, leaving}
use Rattle.row_search.specs.declared.fans.Fan.{Fan}
use Rattle.row_search.specs.declared.fans.Fans.TheInside.{Inside}
use Rattle.row_search.specs.inside.Fans.{IsFan}

-- each of these fans is that of the node of its place
abbrev pub AreOfNodes : Net → List Fan → Type 0
AreOfNodes n fans = (v : ℕ) (fan : Fan) → slice_get fans v ≡ Some fan → IsFan (map (arc_of n) (leaving n v)) fan

pub record AreFans (a : Inside) : Type 0 where
  pub count : length a.fans.items ≡ length a.network.now.nodes
  pub each : AreOfNodes a.network.now a.fans.items
