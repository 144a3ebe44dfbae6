-- `streams --idle S`: what the bytes of a trace file give, where drives end among its positions.
use Rattle.std.specs.Prelude.{ℕ, List, ◌++◌, map}
use Rattle.std.specs.List.{concat}
use Rattle.std.proofs.Common.{refl}
use Rattle.program_frame.specs.Counts.{total_of}
use Rattle.program_frame.specs.Jobs.{JobText}
use Rattle.program_frame.specs.NoRefusal.{no_line, no_refusal}
use Rattle.trace_match.specs.Setting.{Setting}
use Rattle.trace_match.specs.Totals.{piece_count, asked_count}
use Rattle.trace_reader.specs.declared.trace.Trace.{Trace}
use Rattle.trace_sessions.specs.Drives.{Fleet, drive_lines, drives_of, no_drives, fleet_after_all}
use Rattle.trace_sessions.specs.StreamText.{closing_lines, points_in, trace_of}
use Rattle.follow_work.specs.DriveTexts.{drives-begin}

-- the lines of the positions, with those of the drives that end among them
abbrev pub driven_of : Setting → (idle : ℕ) → List Trace → List ℕ
driven_of on idle traces =
    concat (drive_lines on.network on.params idle no_drives (points_in traces))

-- after the positions of these fragments
abbrev pub fleet_of : (idle : ℕ) → List Trace → Fleet
fleet_of idle traces = fleet_after_all idle no_drives (points_in traces)

-- the traces of all drives, in the order of their ends
abbrev pub drive_traces : (idle : ℕ) → List Trace → List Trace
drive_traces idle traces = map trace_of (drives_of idle (points_in traces))

-- the last lines of the drives that are open, and the total line of all drives
abbrev pub drive_ending : Setting → (idle : ℕ) → List Trace → List ℕ
drive_ending on idle traces =
    concat (closing_lines on.network on.params (fleet_of idle traces).drives)
    ++ total_of (piece_count on) (asked_count on) (drive_traces idle traces)

-- nothing is refused but by the file: a drive that is too long ends
abbrev pub drives_job : Setting → (idle : ℕ) → JobText
drives_job on idle = record {
  texts = driven_of on idle;
  refusal = λ traces. no_refusal;
  ending = drive_ending on idle;
  nothing = refl;
  allowed = refl;
  begins = λ front back. drives-begin on.network on.params idle front back;
  stays = λ front back line is. absurd (no_line line is);
}
