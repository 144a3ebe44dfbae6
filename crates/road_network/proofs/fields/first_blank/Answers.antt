use Rattle.std.proofs.Common.{sym, ◌∙◌, arith, length}
use Rattle.std.proofs.lemmas.List.Sums.{position_or_len_is}
use Rattle.decimal_text.specs.Blank.{is_blank}
use Rattle.road_network.proofs.fields.first_blank.Goals as goal

pub returns-clause-place : goal.returns-clause-place
returns-clause-place c =
    let text = c.args.text.now in
    sym (position_or_len_is is_blank text (length text) 0 (omega arith) (λ k lt. c.loop-i.invariant k (omega (arith, lt))) (λ lt. absurd (omega (arith, lt))))

pub returns-then-is_blank-clause-place : goal.returns-then-is_blank-clause-place
returns-then-is_blank-clause-place c =
    let text = c.args.text.now in
    sym (position_or_len_is is_blank text c.loop-i.i 0 (omega arith) c.loop-i.invariant (λ lt. sym c.is_blank.ensures ∙ c.if-is_blank.true))
