use Rattle.std.proofs.Common.{◌≤◌, ◌-ℤ◌, rules}
use Rattle.std.specs.Int.RustNames.{unsigned_abs}
use Rattle.polyline_geometry.specs.declared.plane.Point.{Point}
use Rattle.polyline_geometry.specs.Boxes.{IsBetween}
use Rattle.polyline_geometry.specs.Plane.{distance2}
use Rattle.polyline_geometry.proofs.Distances.{closer}
use Rattle.polyline_geometry.proofs.nearest_place.nearest_in_box.Goals as goal

pub returns-clause-inside : goal.returns-clause-inside
returns-clause-inside c =
    let x : IsBetween c.args.a.x c.args.b.x c.nearest_between.result = search (rules, c.nearest_between.ensures.inside) in
    let y : IsBetween c.args.a.y c.args.b.y c.nearest_between-2.result = search (rules, c.nearest_between-2.ensures.inside) in
    record { x = search (rules, x); y = search (rules, y) }

pub returns-clause-nearest : goal.returns-clause-nearest
returns-clause-nearest c = λ q inside.
    let x : unsigned_abs (c.args.p.x -ℤ c.nearest_between.result) ≤ unsigned_abs (c.args.p.x -ℤ q.x) = search (rules, c.nearest_between.ensures.nearest q.x, inside.x) in
    let y : unsigned_abs (c.args.p.y -ℤ c.nearest_between-2.result) ≤ unsigned_abs (c.args.p.y -ℤ q.y) = search (rules, c.nearest_between-2.ensures.nearest q.y, inside.y) in
    let here : Point = record { x = c.nearest_between.result; y = c.nearest_between-2.result } in
    let near : distance2 c.args.p here ≤ distance2 c.args.p q = closer c.args.p here q x y in
    search (rules, near)
