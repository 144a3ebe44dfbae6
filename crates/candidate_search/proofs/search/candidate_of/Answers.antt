use Rattle.std.proofs.Common.{◌≡◌, ◌+◌, suc, length, take, ap, ◌∙◌, subst, sym, arith}
use Rattle.polyline_geometry.specs.declared.line.NearSegment.{NearSegment}
use Rattle.polyline_geometry.specs.declared.plane.Snap.{Snap}
use Rattle.polyline_geometry.specs.Plane.{after, line_length, snap_line}
use Rattle.polyline_geometry.specs.Nearest.{segment_snap}
use Rattle.polyline_geometry.specs.Offsets.{line_offsets}
use Rattle.polyline_geometry.proofs.Nearest.{whole_near}
use Rattle.road_network.specs.Net.{edge_line}
use Rattle.road_network.specs.Near.{candidate}
use Rattle.candidate_search.proofs.search.candidate_of.Goals as goal

pub offset_on-requires-clause-offsets : goal.offset_on-requires-clause-offsets
offset_on-requires-clause-offsets c = record {
  within = omega (arith, c.requires.1.before_end, ap length c.line.ensures);
  offsets_are = c.offsets.ensures ∙ ap line_offsets (sym c.line.ensures);
}

pub returns : goal.returns
returns c =
    let at = c.args.search.at in
    let near = c.args.near in
    let line = edge_line c.args.net.now near.edge.0 in
    let s : NearSegment = record { segment = near.segment; d2 = near.d2 } in
    let offset = subst (λ l. c.offset_on.result ≡ line_length (take (suc near.segment) l) + (segment_snap l at near.segment).offset) c.line.ensures c.offset_on.ensures in
    let t : Snap = record { d2 = near.d2; offset = c.offset_on.result } in
    let here : t ≡ after (line_length (take (suc near.segment) line)) (segment_snap line at near.segment)
    = ap (λ v. let u : Snap = record { d2 = v; offset = c.offset_on.result } in u) c.requires.1.d2_is
    ∙ ap (λ v. let u : Snap = record { d2 = (segment_snap line at near.segment).d2; offset = v } in u) offset
    in
    let is : t ≡ snap_line line at = here ∙ sym (whole_near line at s (c.invariants.ensures.lines near.edge.0 c.requires.0) c.requires.1) in
    ap (candidate near.edge.0) is
