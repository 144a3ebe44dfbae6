use Rattle.trace_sessions.proofs.LinesStay.{written_lines_stay}
use Rattle.trace_sessions.proofs.laws.written_lines_stay.Goals as goal

pub returns : goal.returns
returns c = written_lines_stay
