use Rattle.std.proofs.Common.{◌∷◌, [], refl, sym, ◌∙◌}
use Rattle.cert_checker.specs.declared.verdict.Condition.TheVariants.{Break, Candidates, Chosen, FirstCost, Pointer, Relaxed, Route, Row, Tight}
use Rattle.cert_checker.specs.inside.CaseSeen.{case_seen}
use Rattle.cert_checker.specs.Verdicts.{holds}
use Rattle.cert_checker.proofs.FailingFirst.{fails_here}
use Rattle.cert_checker.proofs.LaterPoints.{break_at_first, first_fails}
use Rattle.cert_checker.proofs.trace_check.verdict_without_order.Goals as goal

pub returns-then-has_candidates : goal.returns-then-has_candidates
returns-then-has_candidates c =
    let k = case_seen c.args.case.now in
    first_fails c.args.number k 0 Break c.requires.some refl (break_at_first k c.requires.pieces (sym c.has_candidates.ensures ∙ c.if-has_candidates.true))

pub returns-else-has_candidates : goal.returns-else-has_candidates
returns-else-has_candidates c =
    let k = case_seen c.args.case.now in
    first_fails c.args.number k 0 Candidates c.requires.some refl (fails_here (holds k 0) Candidates (Row ∷ Break ∷ FirstCost ∷ Relaxed ∷ Tight ∷ Pointer ∷ Chosen ∷ Route ∷ []) (sym c.has_candidates.ensures ∙ c.if-has_candidates.false))
