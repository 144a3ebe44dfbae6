use Rattle.trace_match.proofs.FirstLabels.{first_labels}
use Rattle.trace_match.proofs.laws.first_labels_stay.Goals as goal

pub returns : goal.returns
returns c = first_labels
