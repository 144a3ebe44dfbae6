use Rattle.std.proofs.Common.{◌≡◌, ◌+◌, suc, take, ap, ◌∙◌, arith}
use Rattle.polyline_geometry.specs.Plane.{line_length}
use Rattle.polyline_geometry.proofs.Lengths.{line_length_front}
use Rattle.polyline_geometry.proofs.line.length_before.Goals as goal

pub sum_of_segments-requires-clause-fits : goal.sum_of_segments-requires-clause-fits
sum_of_segments-requires-clause-fits c =
    let h = line_length_front c.args.line.now (c.args.segment + 1) in
    omega (arith, h, c.requires.length)

pub overflow_cast-result : goal.overflow_cast-result
overflow_cast-result c =
    let h = line_length_front c.args.line.now (c.args.segment + 1) in
    omega (arith, h, c.requires.length, c.sum_of_segments.ensures)

pub returns : goal.returns
returns c =
    let e : c.args.segment + 1 ≡ suc c.args.segment = omega arith in
    record { within = c.requires.segment; before_is = c.sum_of_segments.ensures ∙ ap (λ n. line_length (take n c.args.line.now)) e }
