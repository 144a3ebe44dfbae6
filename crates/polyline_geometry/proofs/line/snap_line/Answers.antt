use Rattle.std.proofs.Common.{◌-◌, ◌<◌, length, ◌∙◌, arith, subst, sym}
use Rattle.std.specs.Prelude.{MatchOption}
use Rattle.polyline_geometry.specs.Nearest.{AreFar, IsNearest}
use Rattle.polyline_geometry.proofs.Nearest.{always_below, whole_near}
use Rattle.polyline_geometry.proofs.line.snap_line.Goals as goal

pub unwrap-near-requires : goal.unwrap-near-requires
unwrap-near-requires c = always_below c.args.line.now c.args.p c.nearest_segment.result c.requires.line c.requires.p_in c.nearest_segment.ensures

pub length_before-requires-clause-segment : goal.length_before-requires-clause-segment
length_before-requires-clause-segment c =
    let line = c.args.line.now in
    let near = subst (λ r. MatchOption r (AreFar line c.args.p 18_446_744_073_709_551_615 0 (length line - 1)) (λ s. IsNearest line c.args.p 0 (length line - 1) s × (s.d2 < 18_446_744_073_709_551_615))) c.unwrap-near.ensures c.nearest_segment.ensures in
    omega (arith, near.0.before_end)

pub returns : goal.returns
returns c =
    let line = c.args.line.now in
    let near = subst (λ r. MatchOption r (AreFar line c.args.p 18_446_744_073_709_551_615 0 (length line - 1)) (λ s. IsNearest line c.args.p 0 (length line - 1) s × (s.d2 < 18_446_744_073_709_551_615))) c.unwrap-near.ensures c.nearest_segment.ensures in
    c.snap_on.ensures ∙ sym (whole_near line c.args.p c.unwrap-near.result c.requires.line near.0)
