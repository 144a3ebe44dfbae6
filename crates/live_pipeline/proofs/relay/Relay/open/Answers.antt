use Rattle.std.proofs.Common.{ap}
use Rattle.crossbeam_queue.specs.Passes.{view}
use Rattle.live_pipeline.specs.declared.rule.Log.{Log}
use Rattle.live_pipeline.proofs.Moves.{begins, forks}
use Rattle.live_pipeline.proofs.relay.Relay.open.Goals as goal

pub ruled-requires-clause-rule : goal.ruled-requires-clause-rule
ruled-requires-clause-rule c = begins

pub another-reader-requires-clause-rule : goal.another-reader-requires-clause-rule
another-reader-requires-clause-rule c =
    let e = c.in_ok-queue.ensures.3 in
    forks _ (view c.in_ok-queue.writer) (ap (λ (l : Log). l.puts) e) (ap (λ (l : Log). l.takes) e)
