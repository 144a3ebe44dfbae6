use Rattle.std.proofs.Common.{◌≡◌, ◌-◌, Some, refl, sym, ap, ◌∙◌}
use Rattle.polyline_geometry.specs.Plane.{straight}
use Rattle.matching.specs.declared.parts.Layer.{Layer}
use Rattle.trellis.proofs.Ways.{IsMove}
use Rattle.cert_checker.specs.Case.{layer}
use Rattle.cert_checker.specs.inside.CaseSeen.{case_seen}
use Rattle.cert_checker.proofs.WayCosts.{link_cost, link_tells}
use Rattle.cert_checker.proofs.ways.transition_by_row.Goals as goal

pub returns-in_err-route : goal.returns-in_err-route
returns-in_err-route c =
    let s = case_seen c.args.case.now in
    let m = layer s (c.args.i - 1) in
    let l = layer s c.args.i in
    let x = c.candidate-from.result in
    let y = c.candidate-to.result in
    let move : IsMove s.net m l c.args.a c.args.j (straight m.point l.point) x y = record { lawful = c.invariants.ensures; x-is = c.candidate-from.ensures; y-is = c.candidate-to.ensures; apart_is = refl } in
    c.from_residual.ensures ∙ ap (link_cost s.params (straight m.point l.point)) (sym c.in_err-route.was) ∙ sym (link_tells s.net s.params c.args.row.now c.link.result move c.requires.row c.link.ensures)

pub returns : goal.returns
returns c =
    let s = case_seen c.args.case.now in
    let m = layer s (c.args.i - 1) in
    let l = layer s c.args.i in
    let x = c.candidate-from.result in
    let y = c.candidate-to.result in
    let apart : c.straight-apart.result ≡ straight m.point l.point = c.straight-apart.ensures.value ∙ ap (λ (k : Layer). straight k.point c.layer-2.result.now.point) c.layer.ensures ∙ ap (λ (k : Layer). straight m.point k.point) c.layer-2.ensures in
    let move : IsMove s.net m l c.args.a c.args.j c.straight-apart.result x y = record { lawful = c.invariants.ensures; x-is = c.candidate-from.ensures; y-is = c.candidate-to.ensures; apart_is = apart } in
    ap Some c.transition.ensures.value ∙ ap (link_cost s.params c.straight-apart.result) (sym c.in_ok-route.was) ∙ sym (link_tells s.net s.params c.args.row.now c.link.result move c.requires.row c.link.ensures)
