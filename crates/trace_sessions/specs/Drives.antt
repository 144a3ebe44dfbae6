-- A stream whose drives end: a drive is a list of positions of one id, and ends once the file has a position that is
-- more than some seconds newer than the newest of the drive. Then a later position of the id begins a new drive.
use Rattle.std.specs.Prelude.{ℕ, ◌+◌, Bool, ◌&&◌, not, List, [], ◌∷◌, ◌++◌, length, max, nat_eq, nat_le, nat_lt}
use Rattle.std.specs.List.{filter}
use Rattle.cost_model.specs.declared.params.Params.{Params}
use Rattle.road_network.specs.Net.{Net}
use Rattle.trace_reader.specs.declared.trace.Fix.{Fix}
use Rattle.trace_sessions.specs.Sessions.{Pair, fixes_of, with_fix}
use Rattle.trace_sessions.specs.StreamText.{Point, closing_lines, led_by, lines_of_fix}

-- the greatest time of these positions, 0 of none
abbrev pub newest : List Fix → ℕ
newest [] = 0
newest (fix ∷ fixes) = max fix.time (newest fixes)

-- after some positions of a file: the greatest of their times, and the open drives, each an id with the positions of the
-- drive, in the order of their first positions
pub record Fleet : Type 0 where
  pub clock : ℕ
  pub drives : List Pair

abbrev pub no_drives : Fleet
no_drives = record { clock = 0; drives = [] }

-- the clock at a position
abbrev pub clock_at : Fleet → Point → ℕ
clock_at fleet x = max fleet.clock x.1.time

-- the newest position of the drive is more than this many seconds older than the clock
abbrev pub is_idle : (idle clock : ℕ) → Pair → Bool
is_idle idle clock drive = nat_lt (newest drive.1 + idle) clock

-- the drive of this id, with as many positions as a drive may have
abbrev pub is_full_of : ℕ → Pair → Bool
is_full_of id drive = nat_eq id drive.0 && nat_le 100_000 (length drive.1)

-- the drives that are not idle at a position
abbrev pub awake_at : (idle : ℕ) → Fleet → Point → List Pair
awake_at idle fleet x = filter (λ drive. not (is_idle idle (clock_at fleet x) drive)) fleet.drives

-- the drives that end before a position: those that are idle, in their order, and then that of the position's own id if
-- it is full
abbrev pub ended_at : (idle : ℕ) → Fleet → Point → List Pair
ended_at idle fleet x =
    filter (is_idle idle (clock_at fleet x)) fleet.drives ++ filter (is_full_of x.0) (awake_at idle fleet x)

-- the drives that go on
abbrev pub open_at : (idle : ℕ) → Fleet → Point → List Pair
open_at idle fleet x = filter (λ drive. not (is_full_of x.0 drive)) (awake_at idle fleet x)

-- after a position: it is the next of its id's open drive, or the first of a new one
abbrev pub fleet_after : (idle : ℕ) → Fleet → Point → Fleet
fleet_after idle fleet x =
    record { clock = clock_at fleet x; drives = with_fix (open_at idle fleet x) x.0 x.1 }

abbrev pub fleet_after_all : (idle : ℕ) → Fleet → List Point → Fleet
fleet_after_all idle fleet [] = fleet
fleet_after_all idle fleet (x ∷ more) = fleet_after_all idle (fleet_after idle fleet x) more

-- the drives that end among these positions, in the order of their ends
abbrev pub ended_among : (idle : ℕ) → Fleet → List Point → List Pair
ended_among idle fleet [] = []
ended_among idle fleet (x ∷ more) = ended_at idle fleet x ++ ended_among idle (fleet_after idle fleet x) more

-- all drives of a file's positions: those that end among them, and those that end with the file
abbrev pub drives_of : (idle : ℕ) → List Point → List Pair
drives_of idle points =
    ended_among idle no_drives points ++ (fleet_after_all idle no_drives points).drives

-- the lines of a position: the last lines of the drives that it ends, and then its own
abbrev pub fleet_lines : Net → Params → (idle : ℕ) → Fleet → Point → List (List ℕ)
fleet_lines n p idle fleet x =
    closing_lines n p (ended_at idle fleet x)
    ++ led_by x.0 (lines_of_fix n p x.0 (fixes_of (open_at idle fleet x) x.0) x.1)

abbrev pub drive_lines : Net → Params → (idle : ℕ) → Fleet → List Point → List (List ℕ)
drive_lines n p idle fleet [] = []
drive_lines n p idle fleet (x ∷ more) =
    fleet_lines n p idle fleet x ++ drive_lines n p idle (fleet_after idle fleet x) more

-- all lines of a file's positions
abbrev pub all_drive_lines : Net → Params → (idle : ℕ) → List Point → List (List ℕ)
all_drive_lines n p idle points =
    drive_lines n p idle no_drives points
    ++ closing_lines n p (fleet_after_all idle no_drives points).drives
