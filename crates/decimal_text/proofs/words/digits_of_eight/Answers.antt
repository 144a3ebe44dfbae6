use Rattle.std.proofs.Common.{sym, ◌∙◌, arith}
use Rattle.std.proofs.lemmas.Nat.{xor_lt}
use Rattle.decimal_text.proofs.EightDigits.{eight_bytes, eight_lanes, loaded, no_other, first_other, whole, part}
use Rattle.decimal_text.proofs.WordBytes.{lanes_are}
use Rattle.decimal_text.proofs.words.digits_of_eight.Goals as goal

pub returns-then-others-eq0-clause-count : goal.returns-then-others-eq0-clause-count
returns-then-others-eq0-clause-count c =
    let bs = c.args.bytes.now in
    let eight = eight_bytes bs c.told-bytes c.fits-bytes in
    let lanes = lanes_are bs c.from_le_bytes-lanes.result eight (c.from_le_bytes-lanes.ensures ∙ loaded bs c.told-bytes) in
    let flags = c.flags_from_ten-others.ensures _ (eight_lanes bs eight) lanes in
    sym (no_other bs eight _ flags c.if-others-eq0.true)

pub returns-then-others-eq0-clause-value : goal.returns-then-others-eq0-clause-value
returns-then-others-eq0-clause-value c =
    let bs = c.args.bytes.now in
    let eight = eight_bytes bs c.told-bytes c.fits-bytes in
    let lanes = lanes_are bs c.from_le_bytes-lanes.result eight (c.from_le_bytes-lanes.ensures ∙ loaded bs c.told-bytes) in
    let flags = c.flags_from_ten-others.ensures _ (eight_lanes bs eight) lanes in
    let fits = xor_lt 64 c.from_le_bytes-lanes.result 0x3030_3030_3030_3030 c.from_le_bytes-lanes.type_inv (omega arith) in
    let s = whole bs _ eight lanes fits (no_other bs eight _ flags c.if-others-eq0.true) in
    c.value_of_eight.ensures s.ds s.eight s.word_is ∙ s.value_is

pub returns-then-others-eq0-clause-small : goal.returns-then-others-eq0-clause-small
returns-then-others-eq0-clause-small c =
    let bs = c.args.bytes.now in
    let eight = eight_bytes bs c.told-bytes c.fits-bytes in
    let lanes = lanes_are bs c.from_le_bytes-lanes.result eight (c.from_le_bytes-lanes.ensures ∙ loaded bs c.told-bytes) in
    let flags = c.flags_from_ten-others.ensures _ (eight_lanes bs eight) lanes in
    let fits = xor_lt 64 c.from_le_bytes-lanes.result 0x3030_3030_3030_3030 c.from_le_bytes-lanes.type_inv (omega arith) in
    let s = whole bs _ eight lanes fits (no_other bs eight _ flags c.if-others-eq0.true) in
    omega (arith, c.value_of_eight.ensures s.ds s.eight s.word_is, s.small)

pub returns-clause-count : goal.returns-clause-count
returns-clause-count c =
    let bs = c.args.bytes.now in
    let eight = eight_bytes bs c.told-bytes c.fits-bytes in
    let lanes = lanes_are bs c.from_le_bytes-lanes.result eight (c.from_le_bytes-lanes.ensures ∙ loaded bs c.told-bytes) in
    let flags = c.flags_from_ten-others.ensures _ (eight_lanes bs eight) lanes in
    let first = first_other bs eight _ flags (omega (arith, c.if-others-eq0.false)) in
    first.0

pub returns-clause-value : goal.returns-clause-value
returns-clause-value c =
    let bs = c.args.bytes.now in
    let eight = eight_bytes bs c.told-bytes c.fits-bytes in
    let lanes = lanes_are bs c.from_le_bytes-lanes.result eight (c.from_le_bytes-lanes.ensures ∙ loaded bs c.told-bytes) in
    let flags = c.flags_from_ten-others.ensures _ (eight_lanes bs eight) lanes in
    let first = first_other bs eight _ flags (omega (arith, c.if-others-eq0.false)) in
    let s = part bs _ _ _ eight lanes c.keep_first.ensures first in
    c.value_of_eight-2.ensures s.ds s.eight s.word_is ∙ s.value_is

pub returns-clause-small : goal.returns-clause-small
returns-clause-small c =
    let bs = c.args.bytes.now in
    let eight = eight_bytes bs c.told-bytes c.fits-bytes in
    let lanes = lanes_are bs c.from_le_bytes-lanes.result eight (c.from_le_bytes-lanes.ensures ∙ loaded bs c.told-bytes) in
    let flags = c.flags_from_ten-others.ensures _ (eight_lanes bs eight) lanes in
    let first = first_other bs eight _ flags (omega (arith, c.if-others-eq0.false)) in
    let s = part bs _ _ _ eight lanes c.keep_first.ensures first in
    omega (arith, c.value_of_eight-2.ensures s.ds s.eight s.word_is, s.small)
