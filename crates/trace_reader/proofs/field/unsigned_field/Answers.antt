use Rattle.std.proofs.Common.{◌∙◌, ap, sym, take, arith}
use Rattle.decimal_text.proofs.AtFront.{plain-read}
use Rattle.trace_reader.specs.Row.{u32_of}
use Rattle.trace_reader.proofs.Plain.{digits-within, u32_of-plain}
use Rattle.trace_reader.proofs.field.unsigned_field.Goals as goal

pub behind_field-requires-clause-within : goal.behind_field-requires-clause-within
behind_field-requires-clause-within c = digits-within (take c.digits_at_front-number.result.1 c.args.text.now) c.digits_at_front-number.ensures.digits

pub returns-in-Some-clause-number : goal.returns-in-Some-clause-number
returns-in-Some-clause-number c =
    let n = c.digits_at_front-number.result.0 in
    let count = c.digits_at_front-number.result.1 in
    let e = c.digits_at_front-number.ensures in
    let plain = plain-read c.args.text.now n count (λ none. omega (arith, none, c.if-count-gt0.true)) (record { few = e.few; digits = e.digits; value = e.value; small = e.small; all = e.all }) in
    sym (ap u32_of c.in-Some.ensures.field ∙ u32_of-plain (take count c.args.text.now) n plain)
