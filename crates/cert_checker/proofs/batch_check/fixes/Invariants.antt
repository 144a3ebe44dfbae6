use Rattle.std.proofs.Common.{◌≡◌, take}
use Rattle.std.specs.List.{flat_map}
use Rattle.cert_checker.proofs.batch_check.fixes.Given as goal

abbrev pub invariant-loop-trace : goal.invariant-loop-trace
invariant-loop-trace l = l.fixes ≡ flat_map (λ t. t.fixes) (take l.trace-index l.traces)
