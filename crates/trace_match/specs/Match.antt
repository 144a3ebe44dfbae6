-- The match of a trace: its fixes with their candidates, the longest pieces, the best sequence of
-- each piece, and its route.
use Rattle.std.specs.Prelude.{ℕ, Bool, List, [], ◌∷◌, map, Option, Some, None}
use Rattle.cost_model.specs.declared.params.Params.{Params}
use Rattle.road_network.specs.declared.Candidate.{Candidate}
use Rattle.road_network.specs.Net.{Net, edge_name}
use Rattle.road_network.specs.Near.{candidates}
use Rattle.trace_reader.specs.declared.trace.Fix.{Fix}
use Rattle.trace_reader.specs.declared.trace.Trace.{Trace}
use Rattle.trace_reader.specs.Trace.{point_of_fix}
use Rattle.matching.specs.declared.parts.Layer.{Layer}
use Rattle.matching.specs.declared.parts.Piece.{Piece}
use Rattle.matching.specs.Layers.{candidate_of_rank, end_of, trellis}
use Rattle.matching.specs.Value.{Solution, solution}
use Rattle.matching.specs.AskedValue.{is_asked_node}
use Rattle.route_rebuild.specs.Routes.{route_of}
use Rattle.match_text.specs.declared.matched.Label.{Label}
use Rattle.match_text.specs.declared.matched.Label.TheVariants.{Missing, On}
use Rattle.match_text.specs.declared.matched.Routed.{Routed}
use Rattle.match_text.specs.declared.matched.MatchedTrace.{MatchedTrace}

-- a fix with its candidates
abbrev pub layer_of : Net → Params → Fix → Layer
layer_of n p fix = record {
  point = point_of_fix fix;
  candidates = candidates n p.k p.radius (point_of_fix fix);
  time = fix.time;
}

-- the fixes of a trace with their candidates
abbrev pub layers_of : Net → Params → Trace → List Layer
layers_of n p trace = map (layer_of n p) trace.fixes

-- the ranks, pieces and cells of a trace
abbrev pub solution_of : Net → Params → Trace → Solution
solution_of n p trace = solution (trellis n p) (layers_of n p trace)

-- a candidate in the names of the network file
abbrev pub label_on : Net → Candidate → Label
label_on n c = On (edge_name n c.edge.0) c.offset c.d2

-- the label of a position: that of its ranked candidate, or none
abbrev pub label_of_rank : Net → Layer → Option ℕ → Label
label_of_rank n l None = Missing
label_of_rank n l (Some rank) = label_on n (candidate_of_rank l rank)

-- the labels of positions, one for each rank
abbrev pub labels_of : Net → List Layer → List (Option ℕ) → List Label
labels_of n [] ranks = []
labels_of n (l ∷ layers) [] = []
labels_of n (l ∷ layers) (rank ∷ ranks) = label_of_rank n l rank ∷ labels_of n layers ranks

-- a piece with the route over these edges, in the names of the network file
abbrev pub routed_over : Net → Piece → List ℕ → Routed
routed_over n piece es = record {
  first = piece.first;
  last = piece.last;
  cost = piece.cost;
  route = map (edge_name n) es;
}

-- a piece with its route
abbrev pub routed_of : Net → Params → List Layer → List (Option ℕ) → Piece → Routed
routed_of n p layers ranks piece = routed_over n piece (route_of n p layers ranks piece)

-- the match of a trace of this id, with these layers, ranks and pieces
abbrev pub matched_of : Net → Params → ℕ → List Layer → Solution → MatchedTrace
matched_of n p id layers s = record {
  id = id;
  labels = labels_of n layers s.ranks;
  pieces = map (routed_of n p layers s.ranks) s.pieces;
}

-- the match of a trace
unfoldable pub match_of : Net → Params → Trace → MatchedTrace
match_of n p trace = matched_of n p trace.id (layers_of n p trace) (solution_of n p trace)

-- whether the trace asks for the row of node v
unfoldable pub asks : Net → Params → Trace → ℕ → Bool
asks n p trace v =
    is_asked_node (trellis n p) (end_of n) (layers_of n p trace) (solution_of n p trace).pieces v
