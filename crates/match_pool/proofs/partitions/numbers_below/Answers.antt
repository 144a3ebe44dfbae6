use Rattle.std.proofs.Common.{◌≡◌, ◌∙◌, ap, arith}
use Rattle.std.specs.List.{range_with_len}
use Rattle.match_pool.proofs.Spots.{numbers_more}
use Rattle.match_pool.proofs.partitions.numbers_below.Goals as goal

pub loop-number-preserved : goal.loop-number-preserved
loop-number-preserved c = c.in_ok-push.ensures.items ∙ numbers_more c.loop-number.number c.loop-number.numbers.items c.loop-number.invariant

pub loop-number-init : goal.loop-number-init
loop-number-init c = c.in_ok-numbers.ensures.items

pub returns : goal.returns
returns c =
    let low = c.loop-number-test.false in
    let high = c.loop-number.auto.number-end in
    let all : c.loop-number.number ≡ c.args.count = omega (arith, low, high) in
    c.from_vec.ensures ∙ c.loop-number.invariant ∙ ap (range_with_len 0) all
