-- Where `streams` is done and drives end among the positions: the lines of each id are what `follow` writes of its
-- drives, one after the other, and the last line is the total line of all drives.
use Rattle.std.specs.Prelude.{◌≡◌, ℕ, ◌<◌, ◌^◌, List, ◌++◌, Option, Some, None, Ok, map}
use Rattle.cost_model.specs.declared.params.Params.{Params}
use Rattle.program_frame.specs.Counts.{total_of}
use Rattle.program_frame.specs.Outcome.{Outcome, bytes_seen}
use Rattle.program_frame.specs.Plan.{outcome_of}
use Rattle.program_frame.specs.Refusals.{network_said, trace_limit}
use Rattle.road_network.specs.Limits.{file_limit}
use Rattle.road_network.specs.Net.{Net}
use Rattle.road_network.specs.declared.limits.NetworkLimits.{NetworkLimits}
use Rattle.trace_match.specs.Setting.{Setting}
use Rattle.trace_match.specs.Totals.{piece_count, asked_count}
use Rattle.trace_reader.specs.Reading.{file_fault, file_traces}
use Rattle.trace_reader.specs.declared.trace.Trace.{Trace}
use Rattle.trace_sessions.specs.Drives.{drives_of}
use Rattle.trace_sessions.specs.DrivesAlone.{drives_with}
use Rattle.trace_sessions.specs.StreamText.{points_in, text_led_by, trace_of}
use Rattle.follow_work.specs.Drives.{drive_traces}
use Rattle.follow_work.specs.Follow.{followed_of}
use Rattle.follow_work.specs.Streams.{never, streams_plan}

-- the traces of the drives of an id, in the order of the file
abbrev pub drives_in : List ℕ → (idle id : ℕ) → List Trace
drives_in bytes idle id = map trace_of (drives_with id (drives_of idle (points_in (file_traces bytes))))

-- a text for the bytes of a trace file: the lines that begin with an id and a space are, without these, the follow
-- texts of the id's drives; and after all lines comes the total line of all drives
pub record FollowsEachDrive (idle : ℕ) (on : Setting) (bytes text : List ℕ) : Type 0 where
  pub no_fault : file_fault bytes ≡ None
  pub followed : (id : ℕ) → id < 2 ^ 32
      → text_led_by id text ≡ followed_of on (drives_in bytes idle id)
  pub lines : List ℕ
  pub ended : text ≡ lines ++ total_of (piece_count on) (asked_count on) (drive_traces idle (file_traces bytes))

-- the files were accepted, and the text is such a text
pub record IsStreamOfDrives (limits : NetworkLimits) (network traces : List ℕ) (idle : ℕ) (options : Params)
    (files : List ℕ → Option (List ℕ)) (text : List ℕ) : Type 0 where
  pub roads : List ℕ
  pub net : Net
  pub bytes : List ℕ
  pub roads_are : bytes_seen (file_limit limits) (files network) ≡ Some roads
  pub accepted : network_said limits roads ≡ Ok net
  pub bytes_are : bytes_seen trace_limit (files traces) ≡ Some bytes
  pub follows : FollowsEachDrive idle (record { network = net; params = options }) bytes text

-- what `streams` writes with status 0, where drives end
abbrev pub StreamsFollowEachDrive : Type 0
StreamsFollowEachDrive =
    (limits : NetworkLimits) (network traces : List ℕ) (idle : ℕ) (options : Params)
    (files : List ℕ → Option (List ℕ)) (o : Outcome) → idle < never
    → outcome_of (streams_plan limits network traces idle options) files ≡ Some o → o.status ≡ 0
    → IsStreamOfDrives limits network traces idle options files o.out
