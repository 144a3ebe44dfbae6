use Rattle.grid_index.proofs.Coordinates.{below_back, small_back}
use Rattle.grid_index.proofs.runs.low_corner.Goals as goal

pub lesser-requires-clause-a_in : goal.lesser-requires-clause-a_in
lesser-requires-clause-a_in c = small_back c.args.a.x c.requires.a_in.x_abs

pub lesser-requires-clause-b_in : goal.lesser-requires-clause-b_in
lesser-requires-clause-b_in c = small_back c.args.b.x c.requires.b_in.x_abs

pub lesser-requires-2-clause-a_in : goal.lesser-requires-2-clause-a_in
lesser-requires-2-clause-a_in c = small_back c.args.a.y c.requires.a_in.y_abs

pub lesser-requires-2-clause-b_in : goal.lesser-requires-2-clause-b_in
lesser-requires-2-clause-b_in c = small_back c.args.b.y c.requires.b_in.y_abs

pub returns-clause-in_range : goal.returns-clause-in_range
returns-clause-in_range c = record { x_abs = small_back c.lesser.result c.lesser.ensures.small; y_abs = small_back c.lesser-2.result c.lesser-2.ensures.small }

pub returns-clause-first : goal.returns-clause-first
returns-clause-first c = record {
  x = below_back c.lesser.result c.args.a.x c.lesser.ensures.small c.requires.a_in.x_abs c.lesser.ensures.first;
  y = below_back c.lesser-2.result c.args.a.y c.lesser-2.ensures.small c.requires.a_in.y_abs c.lesser-2.ensures.first;
}

pub returns-clause-second : goal.returns-clause-second
returns-clause-second c = record {
  x = below_back c.lesser.result c.args.b.x c.lesser.ensures.small c.requires.b_in.x_abs c.lesser.ensures.second;
  y = below_back c.lesser-2.result c.args.b.y c.lesser-2.ensures.small c.requires.b_in.y_abs c.lesser-2.ensures.second;
}
