use Rattle.std.proofs.Common.{◌≡◌, ℕ, length, sym, subst, arith}
use Rattle.match_pool.specs.inside.Partitions.{AreSpotsOf}
use Rattle.match_pool.proofs.Spots.{spots_more, spots_none}
use Rattle.match_pool.proofs.partitions.spots_of.Goals as goal

pub loop-number-init : goal.loop-number-init
loop-number-init c = subst (AreSpotsOf 0) (sym c.in_ok-spots.ensures.items) spots_none

pub loop-number-preserved : goal.loop-number-preserved
loop-number-preserved c = subst (AreSpotsOf _) (sym c.in_ok-push.ensures.items) (spots_more c.loop-number.number c.loop-number.spots.items c.spot_of.result c.loop-number.invariant c.spot_of.ensures)

pub bounds-traces-number : goal.bounds-traces-number
bounds-traces-number c = c.loop-number-test.true

pub returns : goal.returns
returns c =
    let low = c.loop-number-test.false in
    let high = c.loop-number.auto.number-end in
    let all : c.loop-number.number ≡ length c.args.traces.now = omega (arith, low, high) in
    subst (λ (k : ℕ). AreSpotsOf k c.loop-number.spots.items) all c.loop-number.invariant
