-- The nearest segments of a line.
use Rattle.std.specs.Prelude.{ℕ, ◌≡◌, suc, ◌+◌, ◌-◌, ◌<◌, ◌≤◌, List, length, take}
use Rattle.polyline_geometry.specs.declared.line.NearSegment.{NearSegment}
use Rattle.polyline_geometry.specs.declared.line.NearSegments.{NearSegments}
use Rattle.polyline_geometry.specs.declared.plane.Point.{Point}
use Rattle.polyline_geometry.specs.declared.plane.Snap.{Snap}
use Rattle.polyline_geometry.specs.Offsets.{line_offsets}
use Rattle.polyline_geometry.specs.Plane.{IsLine, after, line_length, point_at, snap_line, snap_segment}

-- the snap of p to a segment of a line, by the segment's number from 0
abbrev pub segment_snap : List Point → Point → ℕ → Snap
segment_snap line p i = snap_segment (point_at line i) (point_at line (suc i)) p

-- none of the segments from `first` up to before `end` is nearer than the limit
abbrev pub AreFar : List Point → Point → ℕ → ℕ → ℕ → Type 0
AreFar line p limit first end = (i : ℕ) → first ≤ i → i < end → limit ≤ (segment_snap line p i).d2

-- s is the first of the nearest among the segments from `first` up to before `end`
pub record IsNearest (line : List Point) (p : Point) (first end : ℕ) (s : NearSegment) : Type 0 where
  pub d2_is : s.d2 ≡ (segment_snap line p s.segment).d2
  pub from_first : first ≤ s.segment
  pub before_end : s.segment < end
  pub earlier : (i : ℕ) → first ≤ i → i < s.segment → s.d2 < (segment_snap line p i).d2
  pub least : AreFar line p s.d2 first end

-- s has the first and the last of the nearest among the segments from `first` up to before `end`
pub record AreNearest (line : List Point) (p : Point) (first end : ℕ) (s : NearSegments) : Type 0 where
  pub first_is : IsNearest line p first end (record { segment = s.first; d2 = s.d2 })
  pub from_first : s.first ≤ s.last
  pub before_end : s.last < end
  pub as_near : s.d2 ≡ (segment_snap line p s.last).d2
  pub farther : AreFar line p (s.d2 + 1) (s.last + 1) end

-- the line has this segment, and `before` is the length of the segments before it
pub record IsLengthBefore (line : List Point) (segment before : ℕ) : Type 0 where
  pub within : segment + 1 < length line
  pub before_is : before ≡ line_length (take (suc segment) line)

-- the line has this segment, and these are the offsets of its points
pub record AreOffsetsFor (line : List Point) (segment : ℕ) (offsets : List ℕ) : Type 0 where
  pub within : segment + 1 < length line
  pub offsets_are : offsets ≡ line_offsets line

-- the snap to a line is the one to its first nearest segment, with the lengths of the earlier
-- segments added to its offset
abbrev pub SnapIsTheNearest : Type 0
SnapIsTheNearest =
    (line : List Point) (p : Point) → IsLine line → (s : NearSegment)
    × IsNearest line p 0 (length line - 1) s
    × (snap_line line p ≡ after (line_length (take (suc s.segment) line)) (segment_snap line p s.segment))
