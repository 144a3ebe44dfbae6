-- Traces of one fix.
use Rattle.std.specs.Prelude.{ℕ, [], ◌∷◌, Option, slice_get}
use Rattle.cost_model.specs.declared.params.Params.{Params}
use Rattle.cost_model.specs.Costs.{emission}
use Rattle.match_text.specs.declared.matched.MatchedTrace.{MatchedTrace}
use Rattle.road_network.specs.declared.Candidate.{Candidate}
use Rattle.road_network.specs.Net.{Net, edge_name}
use Rattle.road_network.specs.Near.{candidates}
use Rattle.trace_match.specs.Match.{label_on}
use Rattle.trace_reader.specs.declared.trace.Fix.{Fix}
use Rattle.trace_reader.specs.Trace.{point_of_fix}

-- the first candidate of a fix, if it has any
abbrev pub nearest_edge : Net → Params → Fix → Option Candidate
nearest_edge n p fix = slice_get (candidates n p.k p.radius (point_of_fix fix)) 0

-- the match of a trace of this id whose one fix has this candidate first
abbrev pub on_edge : Net → Params → ℕ → Candidate → MatchedTrace
on_edge n p id c = record {
  id = id;
  labels = label_on n c ∷ [];
  pieces = record { first = 0; last = 0; cost = emission p c.d2; route = edge_name n c.edge.0 ∷ [] } ∷ [];
}
