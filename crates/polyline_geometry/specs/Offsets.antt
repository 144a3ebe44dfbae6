-- How far along a line its points lie.
use Rattle.std.specs.Prelude.{ℕ, ◌+◌, List, length, map, take, nat_le, if◌then◌else◌, Option, None, Some}
use Rattle.std.specs.List.{range_with_len}
use Rattle.polyline_geometry.specs.declared.plane.Point.{Point}
use Rattle.polyline_geometry.specs.Plane.{line_length}

-- the offset of a point of a line: the length of the line as far as this point, which counts from 0
abbrev pub offset_at : List Point → ℕ → ℕ
offset_at line i = line_length (take (i + 1) line)

-- the offset of each point of a line
unfoldable pub line_offsets : List Point → List ℕ
line_offsets line = map (offset_at line) (range_with_len 0 (length line))

-- the length of a line that is no longer than the limit
abbrev pub length_within : ℕ → List Point → Option ℕ
length_within limit line =
    if nat_le (line_length line) limit then Some (line_length line) else None
