-- A list of edges as numbers.
use Rattle.std.specs.Prelude.{ℕ, List, map}
use Rattle.road_network.specs.declared.EdgeId.{EdgeId}

-- the numbers of the edges
abbrev pub numbers : List EdgeId → List ℕ
numbers es = map (λ (e : EdgeId). e.0) es
