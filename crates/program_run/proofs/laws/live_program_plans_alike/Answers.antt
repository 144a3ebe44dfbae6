use Rattle.program_run.proofs.LiveProgram.{live_program_plans_alike}
use Rattle.program_run.proofs.laws.live_program_plans_alike.Goals as goal

pub returns : goal.returns
returns c = live_program_plans_alike
