use Rattle.grid_index.proofs.Coordinates.{above_back, small_back}
use Rattle.grid_index.proofs.runs.high_corner.Goals as goal

pub greater-requires-clause-a_in : goal.greater-requires-clause-a_in
greater-requires-clause-a_in c = small_back c.args.a.x c.requires.a_in.x_abs

pub greater-requires-clause-b_in : goal.greater-requires-clause-b_in
greater-requires-clause-b_in c = small_back c.args.b.x c.requires.b_in.x_abs

pub greater-requires-2-clause-a_in : goal.greater-requires-2-clause-a_in
greater-requires-2-clause-a_in c = small_back c.args.a.y c.requires.a_in.y_abs

pub greater-requires-2-clause-b_in : goal.greater-requires-2-clause-b_in
greater-requires-2-clause-b_in c = small_back c.args.b.y c.requires.b_in.y_abs

pub returns-clause-in_range : goal.returns-clause-in_range
returns-clause-in_range c = record { x_abs = small_back c.greater.result c.greater.ensures.small; y_abs = small_back c.greater-2.result c.greater-2.ensures.small }

pub returns-clause-first : goal.returns-clause-first
returns-clause-first c = record {
  x = above_back c.greater.result c.args.a.x c.greater.ensures.small c.requires.a_in.x_abs c.greater.ensures.first;
  y = above_back c.greater-2.result c.args.a.y c.greater-2.ensures.small c.requires.a_in.y_abs c.greater-2.ensures.first;
}

pub returns-clause-second : goal.returns-clause-second
returns-clause-second c = record {
  x = above_back c.greater.result c.args.b.x c.greater.ensures.small c.requires.b_in.x_abs c.greater.ensures.second;
  y = above_back c.greater-2.result c.args.b.y c.greater-2.ensures.small c.requires.b_in.y_abs c.greater-2.ensures.second;
}
