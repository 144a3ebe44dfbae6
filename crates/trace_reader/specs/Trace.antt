-- The points of positions, and the traces that the reader hands out.
use Rattle.std.specs.Prelude.{◌≤◌, All, length}
use Rattle.polyline_geometry.specs.declared.plane.Point.{Point}
use Rattle.polyline_geometry.specs.Plane.{InRange}
use Rattle.trace_reader.specs.Content.{point_limit}
use Rattle.trace_reader.specs.declared.trace.Fix.{Fix}
use Rattle.trace_reader.specs.declared.trace.Trace.{Trace}

-- where a fix was measured
abbrev pub point_of_fix : Fix → Point
point_of_fix fix = record { x = fix.x; y = fix.y }

-- a trace has 1 to 100,000 fixes, and their coordinates are in range
pub record IsLawfulTrace (trace : Trace) : Type 0 where
  pub some : 1 ≤ length trace.fixes
  pub few : length trace.fixes ≤ point_limit
  pub in_range : All (λ fix. InRange (point_of_fix fix)) trace.fixes
