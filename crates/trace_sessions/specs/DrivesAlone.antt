-- What the drives of a stream are to its positions and its lines.
use Rattle.std.specs.Prelude.{◌≡◌, ℕ, ◌<◌, ◌≤◌, ◌^◌, List, [], None, All, nat_eq}
use Rattle.std.specs.List.{filter, flat_map}
use Rattle.cost_model.specs.declared.params.Params.{Params}
use Rattle.road_network.specs.Net.{Net}
use Rattle.trace_sessions.specs.FollowText.{follow_lines}
use Rattle.trace_sessions.specs.Sessions.{Pair}
use Rattle.trace_sessions.specs.StreamText.{Point, all_lines, fixes_among, full_id, lines_led_by, trace_of, with_points}
use Rattle.trace_sessions.specs.Drives.{all_drive_lines, drives_of}

-- those of an id
abbrev pub drives_with : ℕ → List Pair → List Pair
drives_with id drives = filter (λ drive. nat_eq id drive.0) drives

-- the lines of an id are the follow texts of its drives, one after the other
abbrev pub DrivesAreFollowedAlone : Type 0
DrivesAreFollowedAlone =
    (n : Net) (p : Params) (idle : ℕ) (points : List Point) (id : ℕ)
    → All (λ x. x.0 < 2 ^ 32) points → id < 2 ^ 32
    → lines_led_by id (all_drive_lines n p idle points)
    ≡ flat_map (λ drive. follow_lines n p (trace_of drive)) (drives_with id (drives_of idle points))

-- the positions of the drives of an id are those of the id in the file, in their order
abbrev pub DrivesHaveEachPosition : Type 0
DrivesHaveEachPosition =
    (idle : ℕ) (points : List Point) (id : ℕ)
    → flat_map (λ drive. drive.1) (drives_with id (drives_of idle points)) ≡ fixes_among id points

-- with the greatest number of seconds the lines are those of a stream in which no drive ends before the file
abbrev pub NoDriveIsIdle : Type 0
NoDriveIsIdle =
    (n : Net) (p : Params) (points : List Point)
    → All (λ (x : Point). x.1.time ≤ 4_294_967_295) points → full_id [] points ≡ None
    → all_drive_lines n p 4_294_967_295 points ≡ all_lines n p points

-- and each id has one drive
abbrev pub IdsHaveOneDrive : Type 0
IdsHaveOneDrive =
    (points : List Point)
    → All (λ (x : Point). x.1.time ≤ 4_294_967_295) points → full_id [] points ≡ None
    → drives_of 4_294_967_295 points ≡ with_points [] points
