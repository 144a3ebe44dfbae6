-- What traces are matched on.
use Rattle.cost_model.specs.declared.params.Params.{Params}
use Rattle.road_network.specs.Net.{Net}

-- a network, and the options
pub record Setting : Type 0 where
  pub network : Net
  pub params : Params
