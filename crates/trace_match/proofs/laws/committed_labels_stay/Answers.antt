use Rattle.trace_match.proofs.FirstLabels.{committed_labels_begin}
use Rattle.trace_match.proofs.laws.committed_labels_stay.Goals as goal

pub returns : goal.returns
returns c = committed_labels_begin
