use Rattle.trace_sessions.proofs.CommonLabels.{committed_is_common_prefix}
use Rattle.trace_sessions.proofs.laws.committed_is_common_prefix.Goals as goal

pub returns : goal.returns
returns c = committed_is_common_prefix
