use Rattle.std.proofs.Common.{◌≡◌, ◌∷◌, [], All, List, map, refl, sym, ap, subst, ◌∙◌}
use Rattle.std.proofs.lemmas.List.Elements.{All-map}
use Rattle.polyline_geometry.specs.declared.plane.Point.{Point}
use Rattle.polyline_geometry.specs.Plane.{InRange}
use Rattle.cost_model.specs.declared.params.Params.{Params}
use Rattle.road_network.specs.Net.{Net}
use Rattle.trace_reader.specs.declared.trace.Fix.{Fix}
use Rattle.trace_reader.specs.Trace.{point_of_fix}
use Rattle.road_network.specs.Near.{candidates}
use Rattle.cert_checker.proofs.plain_layers.plain_layers.Goals as goal

places_mapped : (n : Net) (p : Params) (fixes : List Fix) → map (candidates n p.k p.radius) (map point_of_fix fixes) ≡ map (λ fix. candidates n p.k p.radius (point_of_fix fix)) fixes
places_mapped n p [] = refl
places_mapped n p (fix ∷ fixes) = ap (λ xs. candidates n p.k p.radius (point_of_fix fix) ∷ xs) (places_mapped n p fixes)

pub candidates-requires-clause-points : goal.candidates-requires-clause-points
candidates-requires-clause-points c =
    subst (λ (points : List Point). All InRange points) (sym (c.as_slice.ensures ∙ c.in_ok-points.ensures)) (All-map InRange point_of_fix c.args.fixes.now c.requires.places)

pub with_candidates-requires : goal.with_candidates-requires
with_candidates-requires c =
    let ground = c.args.ground.now in
    let p = ground.params.now in
    let fixes = c.args.fixes.now in
    c.in_ok-lists.ensures ∙ ap (map (candidates ground.scan.now p.k p.radius)) (c.as_slice.ensures ∙ c.in_ok-points.ensures)
    ∙ ap (λ (n : Net). map (candidates n p.k p.radius) (map point_of_fix fixes)) ground.same ∙ places_mapped ground.net.now p fixes
