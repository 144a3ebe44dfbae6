use Rattle.std.proofs.Common.{◌≡◌, take, arith}
use Rattle.row_text.proofs.Kept.{kept_before}
use Rattle.row_text.proofs.digits.put_entry.Goals as goal

pub returns-clause-front : goal.returns-clause-front
returns-clause-front c =
    let old = c.args.bytes.now in
    let first : take c.put_byte-at.result c.put_byte-at.new.bytes ≡ take c.put_byte-at.result old =
    kept_before c.put_byte-at.result c.put_last-at.result old c.put_last-at.new.bytes _ (omega (arith, c.put_byte-at.ensures.place)) c.put_last-at.ensures.front c.put_byte-at.ensures.front in
    let second : take c.write_digits-at.result c.write_digits-at.new.buf ≡ take c.write_digits-at.result old =
    kept_before c.write_digits-at.result c.put_byte-at.result old c.put_byte-at.new.bytes _ (omega (arith, c.write_digits-at.ensures.start)) first c.write_digits-at.ensures.before in
    let third : take c.put_byte-at-2.result c.put_byte-at-2.new.bytes ≡ take c.put_byte-at-2.result old =
    kept_before c.put_byte-at-2.result c.write_digits-at.result old c.write_digits-at.new.buf _ (omega (arith, c.put_byte-at-2.ensures.place)) second c.put_byte-at-2.ensures.front in
    let fourth : take c.write_digits-at-2.result c.write_digits-at-2.new.buf ≡ take c.write_digits-at-2.result old =
    kept_before c.write_digits-at-2.result c.put_byte-at-2.result old c.put_byte-at-2.new.bytes _ (omega (arith, c.write_digits-at-2.ensures.start)) third c.write_digits-at-2.ensures.before in
    kept_before c.put_byte.result c.write_digits-at-2.result old c.write_digits-at-2.new.buf _ (omega (arith, c.put_byte.ensures.place)) fourth c.put_byte.ensures.front
