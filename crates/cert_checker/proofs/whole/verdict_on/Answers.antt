use Rattle.std.proofs.Common.{List, map, sym, ap, subst, ◌∙◌}
use Rattle.matching.specs.declared.parts.Layer.{Layer}
use Rattle.trace_match.specs.Match.{layer_of}
use Rattle.cert_checker.specs.inside.CaseSeen.{IsCheckable}
use Rattle.cert_checker.proofs.WholeVerdicts.{case_checkable}
use Rattle.cert_checker.proofs.whole.verdict_on.Goals as goal

pub trace_verdict-requires-clause-checkable : goal.trace_verdict-requires-clause-checkable
trace_verdict-requires-clause-checkable c =
    let n = c.args.ground.now.net.now in
    let p = c.args.ground.now.params.now in
    let rows = c.args.ground.now.rows.now in
    let proof = c.args.proof.now in
    subst (λ (layers : List Layer). IsCheckable (record { net = n; params = p; rows = rows; layers = layers; proof = proof })) (sym (c.as_slice-2.ensures ∙ c.in_ok-layers.ensures ∙ ap (map (layer_of n p)) c.as_slice.ensures))
    (case_checkable n p rows c.args.trace.now proof c.args.ground.now.accepted c.requires c.args.ground.now.right)
