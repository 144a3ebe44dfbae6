-- What a job of drives has done.
use Rattle.std.specs.Prelude.{◌≡◌, ℕ, ◌+◌, ◌<◌, ◌^◌, Bool, List, [], ◌∷◌, ◌++◌, length, map, not, true}
use Rattle.std.specs.List.{concat, filter}
use Rattle.bounded_table.specs.Rows.{AreRowsOf, RowsState}
use Rattle.cost_model.specs.Options.{IsAccepted}
use Rattle.program_frame.specs.Jobs.{position_count}
use Rattle.program_frame.specs.Counts.{total_of}
use Rattle.program_frame.specs.declared.total.Tally.{Tally}
use Rattle.trace_match.specs.Setting.{Setting}
use Rattle.trace_match.specs.Totals.{piece_count, asked_count}
use Rattle.trace_reader.specs.declared.trace.Fix.{Fix}
use Rattle.trace_reader.specs.declared.trace.Trace.{Trace}
use Rattle.trace_sessions.specs.Drives.{Fleet, drive_lines, ended_among, newest, no_drives, fleet_after_all}
use Rattle.trace_sessions.specs.Sessions.{HasPair, RepresentsPairs, Pair, SessionsState, fixes_of, with_fix, without_pair}
use Rattle.trace_sessions.specs.StreamText.{Point, closing_lines, has_room, led_by, lines_at_end, lines_of_fix, points_in, trace_of}
use Rattle.trace_sessions.specs.Streaming.{AreLawful, fixes_in, pieces_of_all, pieces_told}
use Rattle.follow_work.specs.Drives.{fleet_of}
use Rattle.follow_work.specs.declared.drives.Drives.{Drives}
use Rattle.follow_work.specs.inside.FollowDone.{KnowsAsked}

-- the newest time of each drive, by its id
abbrev pub times_of : List Pair → List (ℕ × ℕ)
times_of drives = map (λ drive. (drive.0, newest drive.1)) drives

-- some drives ended and were counted, the sessions stand for those that are open, and exactly what all of them ask
-- for is known
pub record HasDrove (on : Setting) (s : SessionsState) (times : List (ℕ × ℕ)) (rows : RowsState)
    (tally : Tally) (ended drives : List Pair) : Type 0 where
  pub accepted : IsAccepted on.params
  pub network : s.network ≡ on.network
  pub params : s.params ≡ on.params
  pub stands : RepresentsPairs s drives
  pub times_are : times ≡ times_of drives
  pub ended_lawful : AreLawful ended
  pub lawful : AreLawful drives
  pub rows_are : AreRowsOf rows on.network on.params.bound
  pub asked : KnowsAsked on (map trace_of (ended ++ drives)) rows.known
  pub few : tally.points < 2 ^ 62
  pub traces_are : tally.traces ≡ length ended
  pub points_are : tally.points ≡ fixes_in ended + fixes_in drives
  pub pieces_are : tally.pieces
      ≡ pieces_of_all on.network on.params ended + pieces_told on.network on.params drives

abbrev pub Drove : Setting → Drives → (ended drives : List Pair) → Type 0
Drove on d ended drives = HasDrove on d.sessions d.times d.rows d.tally ended drives

-- some drives ended, and some that are open have this property
pub record HasDrives (d : Drives) (P : List Pair → Type 0) : Type 0 where
  pub on : Setting
  pub ended : List Pair
  pub drives : List Pair
  pub drove : Drove on d ended drives
  pub has : P drives

abbrev pub AreAny : List Pair → Type 0
AreAny drives = Unit {0}

abbrev pub HaveDriveOf : (id : ℕ) → List Pair → Type 0
HaveDriveOf id drives = HasPair drives id

abbrev pub HaveRoomFor : (id : ℕ) → List Pair → Type 0
HaveRoomFor id drives = has_room drives id ≡ true

-- the clock and the number of positions are as before
pub record KeepsClock (d d' : Drives) : Type 0 where
  pub clock : d'.clock ≡ d.clock
  pub points : d'.tally.points ≡ d.tally.points

-- the drive of the id ended, and its last lines were written
pub record EndsDrive (on : Setting) (ended drives : List Pair) (id : ℕ) (d d' : Drives)
    (text text' : List ℕ) : Type 0 where
  pub drove : Drove on d' (ended ++ (id, fixes_of drives id) ∷ []) (without_pair drives id)
  pub stays : KeepsClock d d'
  pub written : text' ≡ text ++ concat (lines_at_end on.network on.params (id, fixes_of drives id))

-- the drives that pass the test ended in their order, and their last lines were written
pub record EndsAll (on : Setting) (ended drives : List Pair) (test : Pair → Bool) (d d' : Drives)
    (text text' : List ℕ) : Type 0 where
  pub drove : Drove on d' (ended ++ filter test drives) (filter (λ drive. not (test drive)) drives)
  pub stays : KeepsClock d d'
  pub written : text' ≡ text ++ concat (closing_lines on.network on.params (filter test drives))

-- the position is the next of its id's drive, or the first of a new one, and its lines were written
pub record DrivesTakePosition (on : Setting) (ended drives : List Pair) (id : ℕ) (fix : Fix) (d d' : Drives)
    (text text' : List ℕ) : Type 0 where
  pub drove : Drove on d' ended (with_fix drives id fix)
  pub clock : d'.clock ≡ d.clock
  pub points : d'.tally.points ≡ d.tally.points + 1
  pub written : text' ≡ text
      ++ concat (led_by id (lines_of_fix on.network on.params id (fixes_of drives id) fix))

-- after the positions that make up this fleet
pub record IsAtFleet (on : Setting) (d : Drives) (ended : List Pair) (fleet : Fleet) : Type 0 where
  pub drove : Drove on d ended fleet.drives
  pub clock_is : d.clock ≡ fleet.clock

-- more positions were taken, and their lines written
pub record TakesRows (on : Setting) (idle : ℕ) (ended : List Pair) (fleet : Fleet) (points : List Point)
    (d d' : Drives) (text text' : List ℕ) : Type 0 where
  pub at : IsAtFleet on d' (ended ++ ended_among idle fleet points) (fleet_after_all idle fleet points)
  pub count : d'.tally.points ≡ d.tally.points + length points
  pub written : text' ≡ text ++ concat (drive_lines on.network on.params idle fleet points)

-- the same, whatever fleet it was
abbrev pub TakesAll : (idle : ℕ) → List Point → (d d' : Drives) → (text text' : List ℕ) → Type 0
TakesAll idle points d d' text text' =
    (on : Setting) (ended : List Pair) (fleet : Fleet)
    → IsAtFleet on d ended fleet → TakesRows on idle ended fleet points d d' text text'

-- the positions of these fragments were taken and counted
pub record HasDriven (on : Setting) (idle : ℕ) (d : Drives) (traces : List Trace) : Type 0 where
  pub at : IsAtFleet on d (ended_among idle no_drives (points_in traces)) (fleet_of idle traces)
  pub count : d.tally.points ≡ position_count traces

-- the last lines of the open drives, and the total line of all drives
abbrev pub ending_of : Setting → (ended drives : List Pair) → List ℕ
ending_of on ended drives =
    concat (closing_lines on.network on.params drives)
    ++ total_of (piece_count on) (asked_count on) (map trace_of (ended ++ drives))
