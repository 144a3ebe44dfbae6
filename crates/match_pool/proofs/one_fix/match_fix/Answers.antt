use Rattle.std.proofs.Common.{sym, ◌∙◌}
use Rattle.std.proofs.lemmas.Result.{IfOk-weaker}
use Rattle.match_pool.proofs.OneFix.{matched_one, missing_one, nearest_within}
use Rattle.match_pool.proofs.one_fix.match_fix.Goals as goal

pub on_edge-requires-clause-edge : goal.on_edge-requires-clause-edge
on_edge-requires-clause-edge c =
    (nearest_within c.args.batch.now.net.now c.args.batch.now.params.now c.as_slice.result.now _ c.in-Some.nearest (sym c.in_ok-nearest.ensures ∙ c.in-Some.is)).has

pub on_edge-requires-clause-within : goal.on_edge-requires-clause-within
on_edge-requires-clause-within c =
    (nearest_within c.args.batch.now.net.now c.args.batch.now.params.now c.as_slice.result.now _ c.in-Some.nearest (sym c.in_ok-nearest.ensures ∙ c.in-Some.is)).near

pub returns-in-Some : goal.returns-in-Some
returns-in-Some c =
    let n = c.args.batch.now.net.now in
    let p = c.args.batch.now.params.now in
    let trace = c.args.trace.now in
    let same = matched_one n p trace c.as_slice.result.now _ c.in-Some.nearest c.args.batch.now.ground.options c.as_slice.ensures c.requires.one (sym c.in_ok-nearest.ensures ∙ c.in-Some.is) in
    IfOk-weaker c.on_edge.result _ _ (λ matched is. is ∙ same) c.on_edge.ensures

pub returns-in-None : goal.returns-in-None
returns-in-None c =
    let n = c.args.batch.now.net.now in
    let p = c.args.batch.now.params.now in
    let trace = c.args.trace.now in
    let same = missing_one n p trace c.as_slice.result.now _ c.args.batch.now.ground.options c.requires.trace c.as_slice.ensures c.requires.one (sym c.in_ok-nearest.ensures ∙ c.in-None.is) in
    IfOk-weaker c.unmatched.result _ _ (λ matched is. is ∙ same) c.unmatched.ensures
