use Rattle.std.proofs.Common.{◌∙◌}
use Rattle.cert_checker.proofs.BatchLists.{answer_next, none_left, proved_next, refused_next}
use Rattle.cert_checker.proofs.batch_check.first_refused.Goals as goal

pub returns-in-Refused : goal.returns-in-Refused
returns-in-Refused c = λ verdicts h.
    let at = c.loop-answer.invariant verdicts h in
    let next = answer_next verdicts c.args.answers.now c.loop-answer.answer-index c.in-Ok.verdict _ at.0 c.loop-answer-test.true c.in-Ok.is in
    refused_next verdicts c.loop-answer.answer-index c.in-Ok.verdict c.in-Refused.condition c.in-Refused.trace c.in-Refused.place next.1 c.in-Refused.is ∙ at.1

pub loop-answer-preserved : goal.loop-answer-preserved
loop-answer-preserved c = λ verdicts h.
    let at = c.loop-answer.invariant verdicts h in
    let next = answer_next verdicts c.args.answers.now c.loop-answer.answer-index c.in-Ok.verdict _ at.0 c.loop-answer-test.true c.in-Ok.is in
    (next.0, proved_next verdicts c.loop-answer.answer-index c.in-Ok.verdict next.1 c.in-Proved.is ∙ at.1)

pub returns : goal.returns
returns c = λ verdicts h.
    let at = c.loop-answer.invariant verdicts h in
    none_left verdicts c.args.answers.now c.loop-answer.answer-index c.loop-answer-test.false at.0 ∙ at.1
