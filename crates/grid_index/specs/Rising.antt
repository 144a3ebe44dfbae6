-- Lists of edges by rising number.
use Rattle.std.specs.Prelude.{◌<◌, List}
use Rattle.std.specs.List.{AllPairs}
use Rattle.road_network.specs.declared.EdgeId.{EdgeId}

-- each number is below those after it, so none is there twice
abbrev pub AreRising : List EdgeId → Type 0
AreRising edges = AllPairs (λ e f. e.0 < f.0) edges
