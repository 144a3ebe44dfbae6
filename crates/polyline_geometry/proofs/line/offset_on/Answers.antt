use Rattle.std.proofs.Common.{◌≡◌, ◌+◌, suc, length, take, ap, ◌∙◌, arith}
use Rattle.polyline_geometry.specs.declared.plane.Snap.{Snap}
use Rattle.polyline_geometry.specs.Plane.{line_length}
use Rattle.polyline_geometry.proofs.Lengths.{line_length_next}
use Rattle.polyline_geometry.proofs.Nearest.{segment_after, segment_within}
use Rattle.polyline_geometry.proofs.OffsetLists.{kept_offset, length-line_offsets}
use Rattle.polyline_geometry.proofs.line.offset_on.Goals as goal

pub bounds-offsets-segment : goal.bounds-offsets-segment
bounds-offsets-segment c =
    let n = ap length c.requires.offsets.offsets_are ∙ length-line_offsets c.args.line.now in
    omega (arith, n, c.requires.offsets.within)

pub bounds-offsets-segment-2 : goal.bounds-offsets-segment-2
bounds-offsets-segment-2 c =
    let n = ap length c.requires.offsets.offsets_are ∙ length-line_offsets c.args.line.now in
    omega (arith, n, c.requires.offsets.within)

pub overflow_sub-length : goal.overflow_sub-length
overflow_sub-length c =
    let line = c.args.line.now in
    let before = kept_offset line c.args.offsets.now c.args.segment c.requires.offsets.offsets_are (omega (arith, c.requires.offsets.within)) in
    let after = kept_offset line c.args.offsets.now (c.args.segment + 1) c.requires.offsets.offsets_are c.requires.offsets.within in
    let next = line_length_next line c.args.segment c.requires.offsets.within in
    omega (arith, before, after, next)

pub offset_along-requires-clause-length : goal.offset_along-requires-clause-length
offset_along-requires-clause-length c =
    let line = c.args.line.now in
    let before = kept_offset line c.args.offsets.now c.args.segment c.requires.offsets.offsets_are (omega (arith, c.requires.offsets.within)) in
    let after = kept_offset line c.args.offsets.now (c.args.segment + 1) c.requires.offsets.offsets_are c.requires.offsets.within in
    let next = line_length_next line c.args.segment c.requires.offsets.within in
    omega (arith, before, after, next)

pub overflow_add-result : goal.overflow_add-result
overflow_add-result c =
    let line = c.args.line.now in
    let before = kept_offset line c.args.offsets.now c.args.segment c.requires.offsets.offsets_are (omega (arith, c.requires.offsets.within)) in
    let is = c.offset_along.ensures ∙ ap (λ (s : Snap). s.offset) (segment_after line c.args.p c.args.segment) in
    let h = segment_within line c.args.p c.args.segment c.requires.offsets.within in
    omega (arith, h, c.requires.length, before, is)

pub returns : goal.returns
returns c =
    let line = c.args.line.now in
    let before = kept_offset line c.args.offsets.now c.args.segment c.requires.offsets.offsets_are (omega (arith, c.requires.offsets.within)) in
    let front : c.args.segment + 1 ≡ suc c.args.segment = omega arith in
    let is = c.offset_along.ensures ∙ ap (λ (s : Snap). s.offset) (segment_after line c.args.p c.args.segment) in
    omega (arith, is, before, ap (λ n. line_length (take n line)) front)
