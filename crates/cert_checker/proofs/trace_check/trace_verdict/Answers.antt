use Rattle.std.proofs.Common.{◌≡◌, None, true, refl, sym, ◌∙◌, ap, subst, arith}
use Rattle.cert_checker.specs.inside.CaseSeen.{case_seen}
use Rattle.cert_checker.specs.inside.InHand.{AreLeft}
use Rattle.cert_checker.specs.Pieces.{rise_from}
use Rattle.cert_checker.specs.Verdicts.{first_failing, holds, order}
use Rattle.cert_checker.proofs.LaterPoints.{all_met, first_fails, none_fails, points_more}
use Rattle.cert_checker.proofs.PiecesInHand.{all_left}
use Rattle.cert_checker.proofs.trace_check.trace_verdict.Goals as goal

pub loop-i-init : goal.loop-i-init
loop-i-init c =
    let pieces = c.args.case.now.proof.now.pieces in
    let rise : rise_from 0 pieces ≡ true = ap (rise_from 0) (sym c.as_slice.ensures) ∙ sym c.pieces_rise.ensures ∙ c.if-not-pieces_rise.false in
    record {
      pieces = subst (λ left. AreLeft pieces left 0) (sym c.as_slice-left.ensures) (all_left pieces rise);
      points = λ i lt. absurd (omega (arith, lt));
      pairs_are = c.new-pairs.ensures;
      proved = refl;
    }

pub loop-i-preserved : goal.loop-i-preserved
loop-i-preserved c =
    let k = case_seen c.args.case.now in
    let i = c.loop-i.i in
    let none : None ≡ first_failing (holds k i) order = sym c.in_default.is ∙ c.in_ok-condition.ensures.found in
    record {
      pieces = c.left_after-left.ensures k.proof.pieces c.loop-i.invariant.pieces;
      points = points_more k i c.loop-i.invariant.points (all_met k i none);
      pairs_are = c.failing.ensures.same ∙ c.loop-i.invariant.pairs_are;
      proved = none_fails c.args.number k i c.loop-i.invariant.proved none;
    }

pub returns-in-Some : goal.returns-in-Some
returns-in-Some c =
    let k = case_seen c.args.case.now in
    let i = c.loop-i.i in
    first_fails c.args.number k i c.in-Some.condition c.loop-i-test.true c.loop-i.invariant.proved (sym c.in-Some.is ∙ c.in_ok-condition.ensures.found)
