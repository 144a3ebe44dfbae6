-- Traces without candidates.
use Rattle.std.specs.Prelude.{◌≡◌, [], length, replicate}
use Rattle.cost_model.specs.declared.params.Params.{Params}
use Rattle.match_text.specs.declared.matched.Label.TheVariants.{Missing}
use Rattle.match_text.specs.declared.matched.MatchedTrace.{MatchedTrace}
use Rattle.road_network.specs.Net.{Net}
use Rattle.road_network.specs.Near.{candidates}
use Rattle.trace_reader.specs.declared.trace.Fix.{Fix}
use Rattle.trace_reader.specs.declared.trace.Trace.{Trace}
use Rattle.trace_reader.specs.Trace.{point_of_fix}

-- the fix lies so far from all edges that none is its candidate; `NoCandidates` of matching says so of layers,
-- which hold the candidates that were found
abbrev pub LiesFar : Net → Params → Fix → Type 0
LiesFar n p fix = candidates n p.k p.radius (point_of_fix fix) ≡ []

-- a trace with nothing for each of its fixes
abbrev pub unmatched : Trace → MatchedTrace
unmatched trace = record { id = trace.id; labels = replicate (length trace.fixes) Missing; pieces = [] }
