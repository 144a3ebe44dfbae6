-- What is found for a trace.
use Rattle.std.specs.Prelude.{◌≡◌, ◌≤◌, length}
use Rattle.cost_model.specs.declared.params.Params.{Params}
use Rattle.match_text.specs.MatchText.{IsLawful}
use Rattle.road_network.specs.Net.{Net}
use Rattle.route_rebuild.specs.Chosen.{IsSolved}
use Rattle.trace_reader.specs.declared.trace.Trace.{Trace}
use Rattle.trace_match.specs.Match.{layers_of, match_of}
use Rattle.match_pool.specs.declared.answer.Answer.{Answer}

-- the trace's layers, their match, and the match of the trace, which can be written and has a label
-- for each fix and no more pieces than fixes
pub record IsAnswerTo (n : Net) (p : Params) (trace : Trace) (answer : Answer) : Type 0 where
  pub layers_are : answer.layers ≡ layers_of n p trace
  pub solved_is : IsSolved n p answer.layers answer.solved
  pub matched_is : answer.matched ≡ match_of n p trace
  pub lawful : IsLawful answer.matched
  pub labels_count : length answer.matched.labels ≡ length trace.fixes
  pub pieces_few : length answer.matched.pieces ≤ length trace.fixes
