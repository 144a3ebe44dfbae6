use Rattle.std.proofs.Common.{◌≡◌, ◌<◌, ℕ}
use Rattle.trellis.specs.Pairs.{pairs_of}
use Rattle.cert_checker.specs.declared.verdict.Verdict.TheVariants.{Proved}
use Rattle.cert_checker.specs.inside.CaseSeen.{case_seen}
use Rattle.cert_checker.specs.inside.Checked.{HasCells}
use Rattle.cert_checker.specs.inside.InHand.{AreLeft}
use Rattle.cert_checker.specs.Verdicts.{verdict_before}
use Rattle.cert_checker.proofs.trace_check.trace_verdict.Given as goal

abbrev pub invariant-loop-i : goal.invariant-loop-i
invariant-loop-i l = record {
  pieces : AreLeft l.case.proof.now.pieces l.left l.i;
  points : (k : ℕ) → k < l.i → HasCells (case_seen l.case) k;
  pairs_are : l.pairs ≡ pairs_of l.case.net.now l.case.params.now.bound;
  proved : verdict_before l.number (case_seen l.case) l.i ≡ Proved;
}
