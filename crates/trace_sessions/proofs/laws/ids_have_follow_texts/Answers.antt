use Rattle.trace_sessions.proofs.ByteLines.{ids_have_follow_texts}
use Rattle.trace_sessions.proofs.laws.ids_have_follow_texts.Goals as goal

pub returns : goal.returns
returns c = ids_have_follow_texts
