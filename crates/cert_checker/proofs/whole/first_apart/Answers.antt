use Rattle.std.proofs.Common.{◌≡◌, Some, sym, ap, ◌∙◌, arith}
use Rattle.cert_checker.proofs.WholeVerdicts.{apart_short}
use Rattle.cert_checker.proofs.whole.first_apart.Goals as goal

pub returns-else-traces-proofs : goal.returns-else-traces-proofs
returns-else-traces-proofs c =
    let k = c.loop-place.place in
    let both : k ≡ c.min-both.result = omega arith in
    ap (λ i. Some i) (sym both) ∙ apart_short k k c.args.traces.now c.args.proofs.now (both ∙ c.min-both.ensures) c.if-traces-proofs.false ∙ c.loop-place.invariant
