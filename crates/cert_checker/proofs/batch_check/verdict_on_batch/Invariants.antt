use Rattle.std.proofs.Common.{◌≡◌, ◌+◌, drop, length, take}
use Rattle.std.specs.List.{flat_map}
use Rattle.cert_checker.specs.inside.Batches.{batch_verdict}
use Rattle.cert_checker.specs.Whole.{verdict_from}
use Rattle.cert_checker.proofs.batch_check.verdict_on_batch.Given as goal

abbrev pub invariant-loop-place : goal.invariant-loop-place
invariant-loop-place l = record {
  behind : l.first ≡ length (flat_map (λ t. t.fixes) (take l.place l.batch.traces.now));
  rest : verdict_from l.ground.net.now l.ground.params.now l.ground.rows.now (l.batch.first + l.place) (drop l.place l.batch.traces.now) (drop l.place l.batch.proofs.now)
      ≡ batch_verdict l.ground.net.now l.ground.params.now l.ground.rows.now l.batch;
}
