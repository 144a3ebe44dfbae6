use Rattle.std.proofs.Common.{ap, subst, sym, ◌∙◌, Ok, arith}
use Rattle.std.proofs.lemmas.Int.{ints}
use Rattle.std.proofs.lemmas.List.{take_rest}
use Rattle.decimal_text.proofs.AtFront.{IsRead, signed-read, minus-read, ends-read, ends-minus}
use Rattle.decimal_text.proofs.front.signed_at_front.Goals as goal

pub returns-then-starts_with_minus-clause-value : goal.returns-then-starts_with_minus-clause-value
returns-then-starts_with_minus-clause-value c =
    let text = c.args.text.now in
    let n = c.digits_at_front-number.result.0 in
    let count = c.digits_at_front-number.result.1 in
    let e = c.digits_at_front-number.ensures in
    let read = subst (λ t. IsRead t n count) (take_rest text 1) (record { few = e.few; digits = e.digits; value = e.value; small = e.small; all = e.all }) in
    let small = e.small in
    λ most large. minus-read text n count (sym c.starts_with_minus.ensures ∙ c.if-starts_with_minus.true) c.if-count-eq0.false read most large ∙ ap Ok (grind (arith, ints))

pub returns-then-starts_with_minus-clause-all : goal.returns-then-starts_with_minus-clause-all
returns-then-starts_with_minus-clause-all c =
    let text = c.args.text.now in
    let n = c.digits_at_front-number.result.0 in
    let count = c.digits_at_front-number.result.1 in
    let e = c.digits_at_front-number.ensures in
    let read = subst (λ t. IsRead t n count) (take_rest text 1) (record { few = e.few; digits = e.digits; value = e.value; small = e.small; all = e.all }) in
    ends-minus text n count (sym c.starts_with_minus.ensures ∙ c.if-starts_with_minus.true) read

pub returns-clause-value : goal.returns-clause-value
returns-clause-value c =
    let text = c.args.text.now in
    let n = c.digits_at_front-number-2.result.0 in
    let count = c.digits_at_front-number-2.result.1 in
    let e = c.digits_at_front-number-2.ensures in
    let small = e.small in
    λ most large. signed-read text n count c.if-count-eq0-2.false (record { few = e.few; digits = e.digits; value = e.value; small = e.small; all = e.all }) most large ∙ ap Ok (grind (arith, ints))

pub returns-clause-all : goal.returns-clause-all
returns-clause-all c =
    let e = c.digits_at_front-number-2.ensures in
    ends-read c.args.text.now c.digits_at_front-number-2.result.0 c.digits_at_front-number-2.result.1 (record { few = e.few; digits = e.digits; value = e.value; small = e.small; all = e.all })
