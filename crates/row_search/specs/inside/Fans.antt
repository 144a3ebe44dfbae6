-- Four arcs that do the same in a search as all arcs of a node.
use Rattle.std.specs.Prelude.{◌≡◌, ◌≤◌, ◌-◌, ◌↔◌, IsTrue, List, Some, [], ◌∷◌, length, min, slice_get}
use Rattle.road_network.specs.declared.Arc.{Arc}
use Rattle.row_search.specs.declared.fans.Fan.{Fan}

-- the arcs of a fan
abbrev pub arcs_in : Fan → List Arc
arcs_in fan = fan.first ∷ fan.second ∷ fan.third ∷ fan.fourth ∷ []

-- the fan has these arcs in the same order, and repeats the last one if there are fewer than four
pub record HasArcs (arcs : List Arc) (fan : Fan) : Type 0 where
  pub first : slice_get arcs 0 ≡ Some fan.first
  pub second : slice_get arcs (min 1 (length arcs - 1)) ≡ Some fan.second
  pub third : slice_get arcs (min 2 (length arcs - 1)) ≡ Some fan.third
  pub fourth : slice_get arcs (min 3 (length arcs - 1)) ≡ Some fan.fourth

-- a fan is whole exactly if there are one to four arcs, and then has them
pub record IsFan (arcs : List Arc) (fan : Fan) : Type 0 where
  pub whole : IsTrue fan.is_whole ↔ ((1 ≤ length arcs) × (length arcs ≤ 4))
  pub has : IsTrue fan.is_whole → HasArcs arcs fan
