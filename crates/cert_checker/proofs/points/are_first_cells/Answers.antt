use Rattle.std.proofs.Common.{◌<◌, sym, ◌∙◌, arith}
use Rattle.cert_checker.specs.Case.{width}
use Rattle.cert_checker.specs.inside.CaseSeen.{case_seen}
use Rattle.cert_checker.specs.inside.Columns.{is_first_at}
use Rattle.cert_checker.proofs.EachBelow.{one_fails, one_more}
use Rattle.cert_checker.proofs.points.are_first_cells.Goals as goal

pub returns-then-not-is_first_at : goal.returns-then-not-is_first_at
returns-then-not-is_first_at c =
    let s = case_seen c.args.case.now in
    let lt : c.loop-j.j < width s c.args.i = omega (arith, c.width-j-end.ensures) in
    sym (one_fails (is_first_at s c.args.i) (width s c.args.i) c.loop-j.j lt (sym c.is_first_at.ensures ∙ c.if-not-is_first_at.true))

pub loop-j-preserved : goal.loop-j-preserved
loop-j-preserved c =
    let s = case_seen c.args.case.now in
    one_more (is_first_at s c.args.i) c.loop-j.j c.loop-j.invariant (sym c.is_first_at.ensures ∙ c.if-not-is_first_at.false)
