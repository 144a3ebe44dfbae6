use Rattle.program_run.proofs.OverStreams.{outcome_written}
use Rattle.program_run.proofs.over_streams.run_over.Goals as goal

pub returns : goal.returns
returns g c =
    outcome_written _ _ _ _ _ _ _ _ _ _ _ _ _ _ c.run-status.ensures c.new-shelf.ensures c.new-out.ensures c.new-err.ensures c.into_stream.ensures c.into_stream-2.ensures
