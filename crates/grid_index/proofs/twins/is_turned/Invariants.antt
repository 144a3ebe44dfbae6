use Rattle.std.proofs.Common.{◌≡◌, ℕ, ◌+◌, ◌<◌, length}
use Rattle.polyline_geometry.specs.Plane.{point_at}
use Rattle.grid_index.proofs.twins.is_turned.Given as goal

abbrev pub invariant-loop-place : goal.invariant-loop-place
invariant-loop-place l = (i j : ℕ) → i < l.place → i + j + 1 ≡ length l.line → point_at l.turned i ≡ point_at l.line j
