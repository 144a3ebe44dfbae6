use Rattle.std.proofs.Common.{◌≡◌, arith, rules, ap, ◌∙◌}
use Rattle.polyline_geometry.specs.Plane.{root, straight}
use Rattle.polyline_geometry.proofs.Distances.{straight-le}
use Rattle.polyline_geometry.proofs.plane.straight.Goals as goal

is_straight : goal.returns-clause-small
is_straight c =
    let e : c.root.result ≡ straight c.args.a c.args.b = c.root.ensures ∙ ap root (c.from.ensures ∙ c.distance2.ensures.value) in
    let le = straight-le c.args.a c.args.b c.requires.a_in c.requires.b_in in
    omega (arith, e, le)

pub overflow_cast-result : goal.overflow_cast-result
overflow_cast-result c = let le = is_straight c in search (rules, le)

pub returns-clause-small : goal.returns-clause-small
returns-clause-small c = is_straight c
