use Rattle.std.proofs.Common.{◌≡◌, ◌∷◌, [], None, Some, sym, ◌∙◌}
use Rattle.std.proofs.lemmas.Result.{IfOk-weaker}
use Rattle.cert_checker.specs.declared.verdict.Condition.TheVariants.{Break, Candidates, Chosen, FirstCost, Pointer, Relaxed, Route, Row, Tight}
use Rattle.cert_checker.specs.inside.CaseSeen.{case_seen}
use Rattle.cert_checker.specs.inside.Checked.{of_cells}
use Rattle.cert_checker.specs.Verdicts.{first_failing, holds}
use Rattle.cert_checker.proofs.FailingFirst.{fails_behind, fails_front, fails_later}
use Rattle.cert_checker.proofs.LaterPoints.{cells_met, points_to}
use Rattle.cert_checker.proofs.trace_check.failing.Goals as goal

pub returns-in-Some-clause-found : goal.returns-in-Some-clause-found
returns-in-Some-clause-found c =
    let k = case_seen c.args.case.now in
    let i = c.args.i in
    let candidates = sym c.has_candidates.ensures ∙ c.if-not-has_candidates.false in
    let rows = sym c.has_rows.ensures ∙ c.if-not-has_rows.false in
    fails_later (holds k i) Candidates (Row ∷ Break ∷ FirstCost ∷ Relaxed ∷ Tight ∷ Pointer ∷ Chosen ∷ Route ∷ []) (Some c.in-Some.condition) candidates
    (fails_later (holds k i) Row (Break ∷ FirstCost ∷ Relaxed ∷ Tight ∷ Pointer ∷ Chosen ∷ Route ∷ []) (Some c.in-Some.condition) rows
    (fails_front (holds k i) of_cells (Chosen ∷ Route ∷ []) c.in-Some.condition c.in-Some.ensures))

pub failing_end-requires : goal.failing_end-requires
failing_end-requires c =
    let k = case_seen c.args.case.now in
    let i = c.args.i in
    let candidates = sym c.has_candidates.ensures ∙ c.if-not-has_candidates.false in
    let rows = sym c.has_rows.ensures ∙ c.if-not-has_rows.false in
    let none : None ≡ first_failing (holds k i) of_cells = sym c.in_default.is ∙ c.failing_cells.ensures in
    record {
      checkable = c.requires.point.checkable;
      below = c.requires.point.below;
      pieces = c.requires.point.pieces;
      points = points_to k i c.requires.point.before (cells_met k i candidates rows none);
    }

pub returns-clause-found : goal.returns-clause-found
returns-clause-found c =
    let k = case_seen c.args.case.now in
    let i = c.args.i in
    let candidates = sym c.has_candidates.ensures ∙ c.if-not-has_candidates.false in
    let rows = sym c.has_rows.ensures ∙ c.if-not-has_rows.false in
    let none : None ≡ first_failing (holds k i) of_cells = sym c.in_default.is ∙ c.failing_cells.ensures in
    IfOk-weaker c.failing_end.result _ _ (λ found is.
    fails_later (holds k i) Candidates (Row ∷ Break ∷ FirstCost ∷ Relaxed ∷ Tight ∷ Pointer ∷ Chosen ∷ Route ∷ []) found candidates
    (fails_later (holds k i) Row (Break ∷ FirstCost ∷ Relaxed ∷ Tight ∷ Pointer ∷ Chosen ∷ Route ∷ []) found rows
    (is ∙ fails_behind (holds k i) of_cells (Chosen ∷ Route ∷ []) none)))
    c.failing_end.ensures
