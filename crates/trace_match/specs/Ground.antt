-- What the fixes of a trace are matched on.
use Rattle.std.specs.Prelude.{◌≡◌, ◌≤◌}
use Rattle.cost_model.specs.declared.params.Params.{Params}
use Rattle.cost_model.specs.Options.{IsAccepted}
use Rattle.grid_index.specs.GridOf.{GridOf}
use Rattle.road_network.specs.Net.{Net}

-- accepted options, and a grid of this network with cells of at least the radius
pub record IsGridFor (n : Net) (p : Params) (grid : GridOf) : Type 0 where
  pub options : IsAccepted p
  pub network : grid.net ≡ n
  pub side : p.radius ≤ grid.side
