use Rattle.program_run.proofs.OverStreams.{outcome_left}
use Rattle.program_run.proofs.over_streams.run_over_bytes.Goals as goal

pub returns : goal.returns
returns g c = outcome_left _ _ _ _ _ _ _ c.run_over.ensures c.new.ensures.items c.new-2.ensures.items
