use Rattle.std.proofs.Common.{◌≡◌, ◌≤◌, ◌++◌, map, take}
use Rattle.std.specs.List.{range_with_len}
use Rattle.polyline_geometry.specs.Plane.{line_length}
use Rattle.polyline_geometry.specs.Offsets.{offset_at}
use Rattle.polyline_geometry.proofs.offsets.extend_offsets.Given as goal

abbrev pub invariant-loop-i : goal.invariant-loop-i
invariant-loop-i l = record {
  offsets : l.into ≡ l.initial.into ++ map (offset_at l.line) (range_with_len 0 l.i);
  length : l.length ≡ line_length (take l.i l.line);
  within : l.length ≤ l.limit;
}
