use Rattle.std.proofs.Common.{◌≡◌, ◌∷◌, [], true, None, Some, sym, ◌∙◌, refl}
use Rattle.cert_checker.specs.declared.verdict.Condition.TheVariants.{Break, FirstCost, Pointer, Relaxed, Tight}
use Rattle.std.proofs.lemmas.Bool.{not-false, not-true}
use Rattle.cert_checker.specs.inside.CaseSeen.{case_seen}
use Rattle.cert_checker.specs.Cells.{is_first_pointer, is_relaxed, is_tight}
use Rattle.cert_checker.specs.Pieces.{goes_on}
use Rattle.cert_checker.specs.Verdicts.{has_breaks, holds}
use Rattle.cert_checker.proofs.FailingFirst.{fails_here, fails_later}
use Rattle.cert_checker.proofs.LaterPoints.{later_point}
use Rattle.cert_checker.proofs.trace_check.failing_cells.Goals as goal

pub returns-then-not-ways : goal.returns-then-not-ways
returns-then-not-ways c =
    let k = case_seen c.args.case.now in
    let i = c.args.i in
    let stands : has_breaks k i ≡ true = sym c.has_breaks.ensures ∙ c.if-not-has_breaks.false in
    let on : goes_on k.proof.pieces i ≡ true = sym (c.goes_on.ensures k.proof.pieces c.requires.point.pieces) ∙ c.if-not-goes_on.false in
    let later = later_point k i c.args.left.now c.requires.point.pieces stands on in
    let relaxed = later.each is_relaxed ∙ sym (c.requires.ways.relaxed later.looked) in
    let tight = later.each is_tight ∙ sym (c.requires.ways.tight later.looked) in
    let least = later.each is_first_pointer ∙ sym (c.requires.ways.least later.looked) in
    (fails_later (holds k i) Break (FirstCost ∷ Relaxed ∷ Tight ∷ Pointer ∷ []) (Some Relaxed) (stands)
    (fails_later (holds k i) FirstCost (Relaxed ∷ Tight ∷ Pointer ∷ []) (Some Relaxed) (later.first_costs)
    (fails_here (holds k i) Relaxed (Tight ∷ Pointer ∷ []) (relaxed ∙ not-true c.args.ways.relaxed c.if-not-ways.true))))

pub returns-then-not-ways-2 : goal.returns-then-not-ways-2
returns-then-not-ways-2 c =
    let k = case_seen c.args.case.now in
    let i = c.args.i in
    let stands : has_breaks k i ≡ true = sym c.has_breaks.ensures ∙ c.if-not-has_breaks.false in
    let on : goes_on k.proof.pieces i ≡ true = sym (c.goes_on.ensures k.proof.pieces c.requires.point.pieces) ∙ c.if-not-goes_on.false in
    let later = later_point k i c.args.left.now c.requires.point.pieces stands on in
    let relaxed = later.each is_relaxed ∙ sym (c.requires.ways.relaxed later.looked) in
    let tight = later.each is_tight ∙ sym (c.requires.ways.tight later.looked) in
    let least = later.each is_first_pointer ∙ sym (c.requires.ways.least later.looked) in
    (fails_later (holds k i) Break (FirstCost ∷ Relaxed ∷ Tight ∷ Pointer ∷ []) (Some Tight) (stands)
    (fails_later (holds k i) FirstCost (Relaxed ∷ Tight ∷ Pointer ∷ []) (Some Tight) (later.first_costs)
    (fails_later (holds k i) Relaxed (Tight ∷ Pointer ∷ []) (Some Tight) (relaxed ∙ not-false c.args.ways.relaxed c.if-not-ways.false)
    (fails_here (holds k i) Tight (Pointer ∷ []) (tight ∙ not-true c.args.ways.tight c.if-not-ways-2.true)))))

pub returns-then-not-ways-3 : goal.returns-then-not-ways-3
returns-then-not-ways-3 c =
    let k = case_seen c.args.case.now in
    let i = c.args.i in
    let stands : has_breaks k i ≡ true = sym c.has_breaks.ensures ∙ c.if-not-has_breaks.false in
    let on : goes_on k.proof.pieces i ≡ true = sym (c.goes_on.ensures k.proof.pieces c.requires.point.pieces) ∙ c.if-not-goes_on.false in
    let later = later_point k i c.args.left.now c.requires.point.pieces stands on in
    let relaxed = later.each is_relaxed ∙ sym (c.requires.ways.relaxed later.looked) in
    let tight = later.each is_tight ∙ sym (c.requires.ways.tight later.looked) in
    let least = later.each is_first_pointer ∙ sym (c.requires.ways.least later.looked) in
    (fails_later (holds k i) Break (FirstCost ∷ Relaxed ∷ Tight ∷ Pointer ∷ []) (Some Pointer) (stands)
    (fails_later (holds k i) FirstCost (Relaxed ∷ Tight ∷ Pointer ∷ []) (Some Pointer) (later.first_costs)
    (fails_later (holds k i) Relaxed (Tight ∷ Pointer ∷ []) (Some Pointer) (relaxed ∙ not-false c.args.ways.relaxed c.if-not-ways.false)
    (fails_later (holds k i) Tight (Pointer ∷ []) (Some Pointer) (tight ∙ not-false c.args.ways.tight c.if-not-ways-2.false)
    (fails_here (holds k i) Pointer [] (least ∙ not-true c.args.ways.least c.if-not-ways-3.true))))))

pub returns : goal.returns
returns c =
    let k = case_seen c.args.case.now in
    let i = c.args.i in
    let stands : has_breaks k i ≡ true = sym c.has_breaks.ensures ∙ c.if-not-has_breaks.false in
    let on : goes_on k.proof.pieces i ≡ true = sym (c.goes_on.ensures k.proof.pieces c.requires.point.pieces) ∙ c.if-not-goes_on.false in
    let later = later_point k i c.args.left.now c.requires.point.pieces stands on in
    let relaxed = later.each is_relaxed ∙ sym (c.requires.ways.relaxed later.looked) in
    let tight = later.each is_tight ∙ sym (c.requires.ways.tight later.looked) in
    let least = later.each is_first_pointer ∙ sym (c.requires.ways.least later.looked) in
    (fails_later (holds k i) Break (FirstCost ∷ Relaxed ∷ Tight ∷ Pointer ∷ []) (None) (stands)
    (fails_later (holds k i) FirstCost (Relaxed ∷ Tight ∷ Pointer ∷ []) (None) (later.first_costs)
    (fails_later (holds k i) Relaxed (Tight ∷ Pointer ∷ []) (None) (relaxed ∙ not-false c.args.ways.relaxed c.if-not-ways.false)
    (fails_later (holds k i) Tight (Pointer ∷ []) (None) (tight ∙ not-false c.args.ways.tight c.if-not-ways-2.false)
    (fails_later (holds k i) Pointer [] (None) (least ∙ not-false c.args.ways.least c.if-not-ways-3.false)
    refl)))))
