use Rattle.std.proofs.Common.{◌≡◌, drop}
use Rattle.cert_checker.specs.Whole.{apart_from}
use Rattle.cert_checker.proofs.whole.first_apart.Given as goal

abbrev pub invariant-loop-place : goal.invariant-loop-place
invariant-loop-place l = apart_from l.place (drop l.place l.traces) (drop l.place l.proofs) ≡ apart_from 0 l.traces l.proofs
