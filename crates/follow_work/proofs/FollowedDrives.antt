-- Where `streams` is done and drives end, each id has what `follow` writes of its drives.
use Rattle.std.proofs.Common.{◌≡◌, ℕ, true, cond, nat_lt, List, [], ◌∷◌, ◌++◌, Option, Some, None, refl, sym, ap, ◌∙◌, subst, arith, length, map}
use Rattle.std.specs.List.{concat, flat_map}
use Rattle.std.proofs.lemmas.Bool.Decides.{nat_tests}
use Rattle.std.proofs.lemmas.List.{append_assoc}
use Rattle.std.proofs.lemmas.List.Folds.{concat-append}
use Rattle.program_frame.specs.Counts.{total_of}
use Rattle.program_frame.specs.Jobs.{JobText, position_count}
use Rattle.program_frame.specs.Outcome.{Outcome}
use Rattle.program_frame.specs.Plan.{loads, outcome_of}
use Rattle.program_frame.specs.Refusals.{network_said}
use Rattle.program_frame.specs.Stream.{works_traces}
use Rattle.program_frame.specs.declared.stop.File.TheVariants.{Network}
use Rattle.road_network.specs.Limits.{file_limit}
use Rattle.trace_match.specs.Setting.{Setting}
use Rattle.trace_match.specs.Totals.{piece_count, asked_count}
use Rattle.trace_reader.specs.Reading.{file_fault, file_traces}
use Rattle.trace_reader.specs.declared.trace.Trace.{Trace}
use Rattle.trace_sessions.specs.Drives.{all_drive_lines, drive_lines, drives_of, no_drives}
use Rattle.trace_sessions.specs.DrivesAlone.{drives_with}
use Rattle.trace_sessions.specs.FollowText.{follow_text}
use Rattle.trace_sessions.specs.Sessions.{Pair}
use Rattle.trace_sessions.specs.StreamText.{closing_lines, points_in, text_led_by, trace_of}
use Rattle.trace_sessions.proofs.ByteLines.{none-leads}
use Rattle.trace_sessions.proofs.DriveBytes.{drives_have_follow_texts_before}
use Rattle.follow_work.specs.Drives.{drive_ending, drive_traces, driven_of, drives_job, fleet_of}
use Rattle.follow_work.specs.Follow.{followed_of}
use Rattle.follow_work.specs.FollowedDrives.{FollowsEachDrive, StreamsFollowEachDrive}
use Rattle.follow_work.specs.Streams.{never, streams_job}
use Rattle.follow_work.proofs.FollowedIds.{no-number, small-points, total-one}
use Rattle.follow_work.proofs.ReadIds.{read_ids}
use Rattle.follow_work.proofs.StreamOutcomes.{outcome-says}

text-is : (idle : ℕ) (on : Setting) (traces : List Trace) → driven_of on idle traces ++ drive_ending on idle traces
    ≡ concat (all_drive_lines on.network on.params idle (points_in traces)) ++ total_of (piece_count on) (asked_count on) (drive_traces idle traces)
text-is idle on traces =
    let lines = drive_lines on.network on.params idle no_drives (points_in traces) in
    let last = closing_lines on.network on.params (fleet_of idle traces).drives in
    let total = total_of (piece_count on) (asked_count on) (drive_traces idle traces) in
    sym (append_assoc (concat lines) (concat last) total) ∙ ap (λ t. t ++ total) (sym (concat-append lines last))

traces-text : (on : Setting) (drives : List Pair) → flat_map (λ drive. follow_text on.network on.params (trace_of drive)) drives ≡ followed_of on (map trace_of drives)
traces-text on [] = refl
traces-text on (drive ∷ drives) = ap (λ t. follow_text on.network on.params (trace_of drive) ++ t) (traces-text on drives)

follows : (idle : ℕ) (on : Setting) (bytes : List ℕ) → file_fault bytes ≡ None → (drives_job on idle).refusal (file_traces bytes) ≡ None
    → FollowsEachDrive idle on bytes (driven_of on idle (file_traces bytes) ++ drive_ending on idle (file_traces bytes))
follows idle on bytes whole none =
    let traces = file_traces bytes in
    let points = points_in traces in
    let all = drive_traces idle traces in
    let are = small-points traces (read_ids bytes) in
    let total = total_of (piece_count on) (asked_count on) all in
    record {
      no_fault = whole;
      followed = λ id small.
          ap (text_led_by id) (text-is idle on traces)
          ∙ drives_have_follow_texts_before on.network on.params idle points id total are small
          (total-one (length all) (position_count all) (piece_count on all) (asked_count on all))
          (none-leads id total small (no-number (length all) (position_count all) (piece_count on all) (asked_count on all)))
          ∙ traces-text on (drives_with id (drives_of idle points));
      lines = concat (all_drive_lines on.network on.params idle points);
      ended = text-is idle on traces;
    }

pub streams_follow_each_drive : StreamsFollowEachDrive
streams_follow_each_drive limits network traces idle options files o low is done =
    let plan_of : (Setting → JobText) → Option Outcome = λ job.
    outcome_of (loads Network network (file_limit limits) 5 (network_said limits) (λ net. works_traces traces (job (record { network = net; params = options })))) files in
    let e : nat_lt idle never ≡ true = grind (arith, nat_tests) in
    let driven : plan_of (λ on. drives_job on idle) ≡ Some o =
    subst (λ b. plan_of (λ on. let job : JobText = cond b (drives_job on idle) (streams_job on) in job) ≡ Some o) e is in
    let r = outcome-says (λ on. drives_job on idle) (FollowsEachDrive idle) (follows idle) limits network traces options files o driven done in
    record {
      roads = r.roads;
      net = r.accepted.net;
      bytes = r.accepted.read.bytes;
      roads_are = r.roads_are;
      accepted = r.accepted.said_is;
      bytes_are = r.accepted.read.held_is;
      follows = r.accepted.read.holds;
    }
