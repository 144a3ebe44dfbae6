use Rattle.std.proofs.Common.{◌≡◌, IfOk, List, drop}
use Rattle.std.specs.List.{AllZip}
use Rattle.cert_checker.specs.inside.Batches.{first_refused}
use Rattle.cert_checker.specs.declared.verdict.Verdict.{Verdict}
use Rattle.cert_checker.proofs.batch_check.first_refused.Given as goal

abbrev pub invariant-loop-answer : goal.invariant-loop-answer
invariant-loop-answer l =
    (verdicts : List Verdict) → AllZip (λ v r. IfOk r (λ w. w ≡ v)) verdicts l.answers
    → AllZip (λ v r. IfOk r (λ w. w ≡ v)) (drop l.answer-index verdicts) (drop l.answer-index l.answers)
    × (first_refused (drop l.answer-index verdicts) ≡ first_refused verdicts)
