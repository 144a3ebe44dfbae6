use Rattle.std.proofs.Common.{◌+◌, length, sym, ◌∙◌, arith}
use Rattle.std.proofs.lemmas.Bool.{eq-eqb}
use Rattle.cert_checker.specs.inside.CaseSeen.{case_seen}
use Rattle.cert_checker.proofs.PointBreaks.{breaks_at_last}
use Rattle.cert_checker.proofs.breaks.has_breaks.Goals as goal

pub returns-else-i-case : goal.returns-else-i-case
returns-else-i-case c =
    let k = case_seen c.args.case.now in
    breaks_at_last k c.args.left.now c.args.i c.ends_after.result c.requires.point.pieces (sym c.breaks_right.ensures ∙ c.if-breaks_right.true) (eq-eqb (c.args.i + 1) (length k.layers) (omega arith)) c.ends_after.ensures
