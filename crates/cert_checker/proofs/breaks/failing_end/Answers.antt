use Rattle.std.proofs.Common.{◌∷◌, [], None, Some, sym, ◌∙◌, refl}
use Rattle.match_text.specs.declared.matched.Routed.{Routed}
use Rattle.cert_checker.specs.declared.verdict.Condition.TheVariants.{Chosen, Route}
use Rattle.cert_checker.specs.inside.CaseSeen.{case_seen}
use Rattle.cert_checker.specs.inside.InHand.{IsEnding}
use Rattle.cert_checker.specs.Verdicts.{has_route, holds, is_chosen}
use Rattle.cert_checker.proofs.FailingFirst.{fails_here, fails_later}
use Rattle.cert_checker.proofs.PieceRuns.{ending_routable}
use Rattle.cert_checker.proofs.PointBreaks.{ended_by, ended_by_none}
use Rattle.cert_checker.proofs.breaks.failing_end.Goals as goal

pub returns-in_default : goal.returns-in_default
returns-in_default c =
    let k = case_seen c.args.case.now in
    let i = c.args.i in
    let none = c.in_default.ensures k.proof.pieces c.requires.pieces in
    fails_later (holds k i) Chosen (Route ∷ []) None (ended_by_none k i (is_chosen k) none)
    (fails_later (holds k i) Route [] None (ended_by_none k i (has_route k) none) refl)

pub returns-then-not-is_chosen : goal.returns-then-not-is_chosen
returns-then-not-is_chosen c =
    let k = case_seen c.args.case.now in
    let i = c.args.i in
    let q : Routed = c.in-Some.piece.now in
    let is : IsEnding k.proof.pieces i q = c.in-Some.ensures k.proof.pieces c.requires.pieces in
    fails_here (holds k i) Chosen (Route ∷ []) (ended_by k i q (is_chosen k) is ∙ sym c.is_chosen.ensures ∙ c.if-not-is_chosen.true)

pub has_route-requires : goal.has_route-requires
has_route-requires c =
    let k = case_seen c.args.case.now in
    let q : Routed = c.in-Some.piece.now in
    ending_routable k c.args.i c.args.left.now q c.invariants.ensures c.requires (c.in-Some.ensures k.proof.pieces c.requires.pieces) (sym c.is_chosen.ensures ∙ c.if-not-is_chosen.false)

pub returns-then-not-branch : goal.returns-then-not-branch
returns-then-not-branch c =
    let k = case_seen c.args.case.now in
    let i = c.args.i in
    let q : Routed = c.in-Some.piece.now in
    let is : IsEnding k.proof.pieces i q = c.in-Some.ensures k.proof.pieces c.requires.pieces in
    fails_later (holds k i) Chosen (Route ∷ []) (Some Route) (ended_by k i q (is_chosen k) is ∙ sym c.is_chosen.ensures ∙ c.if-not-is_chosen.false)
    (fails_here (holds k i) Route [] (ended_by k i q (has_route k) is ∙ sym c.in_ok-has_route.ensures ∙ c.if-not-branch.true))

pub returns : goal.returns
returns c =
    let k = case_seen c.args.case.now in
    let i = c.args.i in
    let q : Routed = c.in-Some.piece.now in
    let is : IsEnding k.proof.pieces i q = c.in-Some.ensures k.proof.pieces c.requires.pieces in
    fails_later (holds k i) Chosen (Route ∷ []) None (ended_by k i q (is_chosen k) is ∙ sym c.is_chosen.ensures ∙ c.if-not-is_chosen.false)
    (fails_later (holds k i) Route [] None (ended_by k i q (has_route k) is ∙ sym c.in_ok-has_route.ensures ∙ c.if-not-branch.false) refl)
