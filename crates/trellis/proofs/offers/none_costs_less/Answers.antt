use Rattle.std.proofs.Common.{◌≡◌, ℕ, ◌-◌, ◌*◌, ◌^◌, ◌≤◌, min, Some, ap, refl, sym, ◌∙◌, arith}
use Rattle.std.proofs.lemmas.Bool.{leb-true}
use Rattle.matching.specs.Layers.{candidate_of_rank, trellis}
use Rattle.matching.specs.Sequences.{added}
use Rattle.trellis.proofs.Ways.{IsMove, no_way_less}
use Rattle.trellis.proofs.offers.none_costs_less.Goals as goal

pub returns : goal.returns
returns c = λ test j k none way.
    let from = c.args.from.now in
    let step = from.step.now in
    let n = step.net.now in
    let p = step.params.now in
    let more : ℕ = c.args.least - from.cost in
    let length : ℕ = c.args.length in
    let move : IsMove n step.before.now step.layer.now from.rank j step.apart from.candidate (candidate_of_rank step.layer.now j) = record {
      lawful = c.invariants.ensures;
      x-is = from.is.candidate_is;
      y-is = refl;
      apart_is = step.is.apart_is;
    } in
    let le : c.saturating_mul-more.result ≤ c.from-2.result * 1000 = leb-true c.saturating_mul-more.result (c.from-2.result * 1000) test in
    let longer : c.from-2.result ≡ length - step.apart = c.from-2.ensures ∙ c.saturating_sub-longer.ensures in
    let capped : c.saturating_mul-more.result ≡ min (more * p.beta) (2 ^ 64 - 1) = rw c.from.ensures at c.saturating_mul-more.ensures in
    let product : min (more * p.beta) (2 ^ 64 - 1) ≤ (length - step.apart) * 1000 = omega (arith, le, longer, capped) in
    let few : more * p.beta ≤ (length - step.apart) * 1000 = omega (arith, product, longer, c.from-2.ensures, c.saturating_sub-longer.type_inv) in
    let at : added (Some from.cost) ((trellis n p).transition step.before.now from.rank step.layer.now j) 0 ≡ Some k = sym (ap (λ v. added v ((trellis n p).transition step.before.now from.rank step.layer.now j) 0) from.is.live) ∙ way in
    let up = no_way_less n p from.cost length more k move step.is.layers.options none few at in
    omega (arith, up, c.requires)
