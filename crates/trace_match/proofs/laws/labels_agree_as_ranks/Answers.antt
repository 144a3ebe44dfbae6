use Rattle.trace_match.proofs.DifferentEdges.{labels_agree}
use Rattle.trace_match.proofs.laws.labels_agree_as_ranks.Goals as goal

pub returns : goal.returns
returns c = labels_agree
