use Rattle.std.proofs.Common.{get_or, ap, subst, ◌∙◌, arith}
use Rattle.std.specs.Prelude.{pos}
use Rattle.std.specs.Vec.Iter.{into_iter_items}
use Rattle.trace_reader.specs.declared.trace.Fix.{Fix}
use Rattle.trace_reader.specs.Trace.{point_of_fix}
use Rattle.cert_checker.proofs.PlainLayers.{AreMade, all_made, begins, next_inside, next_made}
use Rattle.cert_checker.proofs.plain_layers.with_candidates.Goals as goal

abbrev none : Fix
none = record { x = pos 0; y = pos 0; time = 0 }

pub loop-candidates-init : goal.loop-candidates-init
loop-candidates-init c =
    begins c.args.net.now c.args.p.now c.args.fixes.now c.from_vec-layers.result _ (c.from_vec-layers.ensures ∙ c.in_ok-with_capacity.ensures.items)
    (c.into_iter-candidates-iterator.ensures.into_iter_gives.0 ∙ c.into_vec-candidates-items.ensures ∙ c.requires)

pub bounds-fixes-len : goal.bounds-fixes-len
bounds-fixes-len c =
    let are = subst (AreMade c.args.net.now c.args.p.now c.args.fixes.now c.loop-candidates.layers) c.in-Some.ensures.steps.0 c.loop-candidates.invariant in
    omega (arith, c.len.ensures, next_inside c.args.net.now c.args.p.now c.args.fixes.now c.loop-candidates.layers c.in-Some.candidates (into_iter_items c.next.new.self) are)

pub loop-candidates-preserved : goal.loop-candidates-preserved
loop-candidates-preserved c =
    let are = subst (AreMade c.args.net.now c.args.p.now c.args.fixes.now c.loop-candidates.layers) c.in-Some.ensures.steps.0 c.loop-candidates.invariant in
    next_made c.args.net.now c.args.p.now c.args.fixes.now c.loop-candidates.layers c.push.new.self c.in-Some.candidates (into_iter_items c.next.new.self)
    _ none are (λ i. record { point = (c.point.ensures ∙ ap (λ k. point_of_fix (get_or c.args.fixes.now k none)) c.len.ensures) i; candidates = c.in-Some.candidates; time = (get_or c.args.fixes.now (c.len.ensures i) none).time })
    c.in_ok-push.ensures.ok

pub returns : goal.returns
returns c =
    let rest = c.loop-candidates.candidates-iterator.rest in
    let whole = rest.ok.0 in
    let none_left = c.in-None.ensures.steps.0 in
    all_made c.args.net.now c.args.p.now c.args.fixes.now c.loop-candidates.layers rest.items (omega (arith, whole, none_left)) c.loop-candidates.invariant
