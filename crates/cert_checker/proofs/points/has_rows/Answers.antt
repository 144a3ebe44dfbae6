use Rattle.std.proofs.Common.{◌≡◌, ◌<◌, ◌-◌, Bool, true, sym, ap, ◌∙◌, arith}
use Rattle.std.specs.Prelude.{◌||◌, not}
use Rattle.cert_checker.specs.Case.{is_looked_at, width}
use Rattle.cert_checker.specs.inside.CaseSeen.{case_seen}
use Rattle.cert_checker.specs.inside.Columns.{has_row_of}
use Rattle.cert_checker.specs.Verdicts.{each_below}
use Rattle.cert_checker.proofs.EachBelow.{one_fails, one_more}
use Rattle.cert_checker.proofs.points.has_rows.Goals as goal

pub returns-then-not-has_row_of : goal.returns-then-not-has_row_of
returns-then-not-has_row_of c =
    let s = case_seen c.args.case.now in
    let i = c.args.i in
    let w = width s (i - 1) in
    let lt : c.loop-a.a < w = omega (arith, c.width-a-end.ensures) in
    let looked : is_looked_at s i ≡ true = sym c.is_looked_at.ensures ∙ c.if-not-is_looked_at.false in
    sym (ap (λ (b : Bool). not b || each_below w (has_row_of s i)) looked
    ∙ one_fails (has_row_of s i) w c.loop-a.a lt (sym c.has_row_of.ensures ∙ c.if-not-has_row_of.true))

pub loop-a-preserved : goal.loop-a-preserved
loop-a-preserved c =
    let s = case_seen c.args.case.now in
    one_more (has_row_of s c.args.i) c.loop-a.a c.loop-a.invariant (sym c.has_row_of.ensures ∙ c.if-not-has_row_of.false)
