use Rattle.std.proofs.Common.{◌<◌, ◌+◌, ◌∙◌, Ok, ap, length, arith}
use Rattle.std.proofs.lemmas.List.{take_rest}
use Rattle.road_network.proofs.Points.{plain-of, plain-value, plain-part, point-held}
use Rattle.road_network.proofs.fields.plain_point.Goals as goal

pub returns-clause-value : goal.returns-clause-value
returns-clause-value c =
    let text = c.args.text.now in
    let first = c.in_ok-x.ensures in
    let second = c.in_ok-y.ensures in
    let inside : c.in_ok-x.count < length text = omega (arith, first.few, c.if-count-text.false) in
    let is = plain-of text _ c.in_ok-x.count c.in_ok-y.more c.in_ok-x.x c.in_ok-y.y inside (first.value 1_000_000_000 (omega arith)) c.if-text-count-ne32.false (take_rest text (c.in_ok-x.count + 1)) (second.value 1_000_000_000 (omega arith)) in
    plain-value text c.in_ok-x.count c.in_ok-y.more c.in_ok-x.x c.in_ok-y.y is ∙ ap Ok (point-held text c.in_ok-x.count c.in_ok-y.more c.in_ok-x.x c.in_ok-y.y is)

pub returns-clause-part : goal.returns-clause-part
returns-clause-part c =
    let text = c.args.text.now in
    let first = c.in_ok-x.ensures in
    let second = c.in_ok-y.ensures in
    let inside : c.in_ok-x.count < length text = omega (arith, first.few, c.if-count-text.false) in
    let is = plain-of text _ c.in_ok-x.count c.in_ok-y.more c.in_ok-x.x c.in_ok-y.y inside (first.value 1_000_000_000 (omega arith)) c.if-text-count-ne32.false (take_rest text (c.in_ok-x.count + 1)) (second.value 1_000_000_000 (omega arith)) in
    plain-part text c.in_ok-x.count c.in_ok-y.more c.in_ok-x.x c.in_ok-y.y is

pub returns-in_err-x-clause-few : goal.returns-in_err-x-clause-few
returns-in_err-x-clause-few c = rw c.from_residual.ensures tt

pub returns-in_err-x-clause-value : goal.returns-in_err-x-clause-value
returns-in_err-x-clause-value c = rw c.from_residual.ensures tt

pub returns-in_err-x-clause-part : goal.returns-in_err-x-clause-part
returns-in_err-x-clause-part c = rw c.from_residual.ensures tt

pub returns-in_err-y-clause-few : goal.returns-in_err-y-clause-few
returns-in_err-y-clause-few c = rw c.from_residual-in_err-y.ensures tt

pub returns-in_err-y-clause-value : goal.returns-in_err-y-clause-value
returns-in_err-y-clause-value c = rw c.from_residual-in_err-y.ensures tt

pub returns-in_err-y-clause-part : goal.returns-in_err-y-clause-part
returns-in_err-y-clause-part c = rw c.from_residual-in_err-y.ensures tt
