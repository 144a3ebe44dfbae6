use Rattle.std.proofs.Common.{◌≡◌, ◌<◌, ◌+◌, ◌∙◌, Ok, [], sym, ap, take, length, arith}
use Rattle.std.proofs.lemmas.List.{take_all, take_rest}
use Rattle.road_network.specs.NetworkFile.{line_of}
use Rattle.road_network.specs.inside.Rows.{with_point}
use Rattle.road_network.proofs.Points.{line-cut, line-whole, none-within, plain-within}
use Rattle.road_network.proofs.fields.plain_part.Goals as goal

pub returns-then-count-text-clause-line : goal.returns-then-count-text-clause-line
returns-then-count-text-clause-line c =
    let text = c.args.text.now in
    let read = c.in_ok-point.ensures in
    let all : take c.in_ok-point.count text ≡ text = take_all c.in_ok-point.count text (omega (arith, c.if-count-text.true)) in
    line-whole text (rw all at (none-within (take c.in_ok-point.count text) read.part)) ∙ ap (λ p. with_point p (Ok [])) (rw all at read.value)

pub returns-then-count-text-clause-within : goal.returns-then-count-text-clause-within
returns-then-count-text-clause-within c = plain-within _ c.in_ok-point.point c.in_ok-point.ensures.value

pub returns-then-text-count-eq59-clause-line : goal.returns-then-text-count-eq59-clause-line
returns-then-text-count-eq59-clause-line c =
    let text = c.args.text.now in
    let count = c.in_ok-point.count in
    let read = c.in_ok-point.ensures in
    let inside : count < length text = omega (arith, read.few, c.if-count-text.false) in
    line-cut text count inside (none-within (take count text) read.part) c.if-text-count-eq59.true
    ∙ (λ i. with_point (read.value i) (line_of (sym (take_rest text (count + 1)) i)))

pub returns-then-text-count-eq59-clause-within : goal.returns-then-text-count-eq59-clause-within
returns-then-text-count-eq59-clause-within c = plain-within _ c.in_ok-point.point c.in_ok-point.ensures.value

pub returns-in_err-point-clause-line : goal.returns-in_err-point-clause-line
returns-in_err-point-clause-line c = rw c.from_residual.ensures tt

pub returns-in_err-point-clause-within : goal.returns-in_err-point-clause-within
returns-in_err-point-clause-within c = rw c.from_residual.ensures tt

pub returns-in_err-point-clause-shorter : goal.returns-in_err-point-clause-shorter
returns-in_err-point-clause-shorter c = rw c.from_residual.ensures tt

pub returns-clause-line : goal.returns-clause-line
returns-clause-line c = tt

pub returns-clause-within : goal.returns-clause-within
returns-clause-within c = tt

pub returns-clause-shorter : goal.returns-clause-shorter
returns-clause-shorter c = tt

pub bounds-text-count : goal.bounds-text-count
bounds-text-count c = omega (arith, c.in_ok-point.ensures.few, c.if-count-text.false)
