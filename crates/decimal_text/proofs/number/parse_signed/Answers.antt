use Rattle.std.proofs.Common.{◌≡◌, ◌∙◌, Ok, ap, true, false, arith, rules}
use Rattle.std.specs.Str.Parse.{starts_with_minus}
use Rattle.std.proofs.lemmas.Grind.{common_steps}
use Rattle.std.proofs.lemmas.Int.{ints}
use Rattle.std.proofs.lemmas.Result.{err_from_is_err_and}
use Rattle.decimal_text.proofs.Spelling.{signed_minus_ok, signed_plain_ok, signed_err}
use Rattle.decimal_text.proofs.number.parse_signed.Goals as goal

pub returns-in_err-magnitude : goal.returns-in_err-magnitude
returns-in_err-magnitude c =
    let p = err_from_is_err_and c.from_residual.result c.from_residual.ensures.1 in
    rw (p.1, p.2) (record { value = signed_err _ _ _ _ (grind (arith, common_steps)) c.in_err-magnitude.ensures.value })

pub returns-then-is_negative : goal.returns-then-is_negative
returns-then-is_negative c =
    let minus : starts_with_minus c.args.text.now ≡ true = search rules in
    record {
      value = ap Ok (grind (arith, ints)) ∙ signed_minus_ok _ _ _ _ minus (grind (arith, common_steps)) c.in_ok-magnitude.ensures.value;
    }

pub returns-else-is_negative : goal.returns-else-is_negative
returns-else-is_negative c =
    let plain : starts_with_minus c.args.text.now ≡ false = search rules in
    record {
      value = ap Ok (grind (arith, ints)) ∙ signed_plain_ok _ _ _ _ plain (grind (arith, common_steps)) c.in_ok-magnitude.ensures.value;
    }
