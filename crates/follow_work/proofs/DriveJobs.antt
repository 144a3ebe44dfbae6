-- A job of drives, before its first trace and after more, and its end.
use Rattle.std.proofs.Common.{◌≡◌, ◌↔◌, ⊎_elim, ℕ, ◌+◌, ◌<◌, ◌^◌, List, [], ◌++◌, sym, ap, ◌∙◌, subst, arith, length, map}
use Rattle.std.specs.Prelude.{Contains}
use Rattle.std.specs.List.{concat}
use Rattle.std.proofs.lemmas.List.{append_assoc, length-append, length-map}
use Rattle.std.proofs.lemmas.List.Elements.{All-nil}
use Rattle.std.proofs.lemmas.List.Sums.{sum_by-append}
use Rattle.bounded_table.specs.Known.{IsKnownList}
use Rattle.bounded_table.specs.Rows.{AreRowsOf, AsksOnly, RowsState, no_rows}
use Rattle.bounded_table.proofs.Asking.{still_of}
use Rattle.bounded_table.proofs.Counting.{count_listed}
use Rattle.cost_model.specs.Options.{IsAccepted}
use Rattle.program_frame.specs.Counts.{total_of}
use Rattle.program_frame.specs.Jobs.{GrowsByTexts, IsBounded, position_count}
use Rattle.program_frame.specs.Total.{total_line}
use Rattle.program_frame.specs.declared.total.Tally.{Tally}
use Rattle.program_frame.proofs.PointCounts.{points-append as counts-append}
use Rattle.trace_match.specs.Match.{match_of}
use Rattle.trace_match.specs.Setting.{Setting}
use Rattle.trace_match.specs.Totals.{is_asked_by, piece_count, asked_count}
use Rattle.trace_reader.specs.Trace.{IsLawfulTrace}
use Rattle.trace_reader.specs.declared.trace.Trace.{Trace}
use Rattle.trace_sessions.specs.Drives.{drive_lines, ended_among, no_drives, fleet_after_all}
use Rattle.trace_sessions.specs.Sessions.{RepresentsPairs, Pair, SessionsState}
use Rattle.trace_sessions.specs.StreamText.{closing_lines, points_in, trace_of}
use Rattle.trace_sessions.specs.Streaming.{AsksSome, EndsPairs, fixes_in, pieces_of_all, pieces_told}
use Rattle.trace_sessions.proofs.StreamLines.{few-pieces}
use Rattle.follow_work.specs.DriveTexts.{driven-text}
use Rattle.follow_work.proofs.DriveSums.{ended-append, rows-append}
use Rattle.follow_work.specs.Drives.{drives_job, fleet_of}
use Rattle.follow_work.specs.StreamTexts.{points-append}
use Rattle.follow_work.specs.declared.drives.Drives.{Drives}
use Rattle.follow_work.specs.inside.DrivesDone.{AreAny, HasDriven, HasDrives, HasDrove, IsAtFleet, TakesAll, ending_of}
use Rattle.follow_work.proofs.StreamJobs.{points-length}
use Rattle.follow_work.proofs.StreamTakes.{at-setting, no-node}
use Rattle.follow_work.proofs.StreamTotals.{whole-sum}
use Rattle.follow_work.proofs.DriveCounts.{Asks, asks-back, few-drives}
use Rattle.follow_work.proofs.DriveSteps.{of-some}

-- ---- before the first trace

pub begun : (on : Setting) (s : SessionsState) (times : List (ℕ × ℕ)) (rows : RowsState) (tally : Tally) → IsAccepted on.params → s.network ≡ on.network → s.params ≡ on.params → RepresentsPairs s [] → times ≡ []
    → rows ≡ no_rows on.network on.params.bound → tally.traces ≡ 0 → tally.points ≡ 0 → tally.pieces ≡ 0 → HasDrove on s times rows tally [] []
begun on s times rows tally accepted network params stands none fresh traces points pieces = record {
  accepted = accepted;
  network = network;
  params = params;
  stands = stands;
  times_are = none;
  ended_lawful = All-nil (λ (q : Pair). IsLawfulTrace (trace_of q));
  lawful = All-nil (λ (q : Pair). IsLawfulTrace (trace_of q));
  rows_are = record { network = ap (λ r. r.network) fresh; bound = ap (λ r. r.bound) fresh };
  asked = λ v. (λ has. no-node v rows.known _ (ap (λ r. r.known) fresh) has, λ asked. absurd (cc asked));
  few = omega (arith, points);
  traces_are = traces;
  points_are = points;
  pieces_are = pieces;
}

-- ---- more traces

pub driven-any : (on : Setting) (idle : ℕ) (d : Drives) (before : List Trace) → HasDriven on idle d before → HasDrives d AreAny
driven-any on idle d before has = record {
  on = on;
  ended = ended_among idle no_drives (points_in before);
  drives = (fleet_of idle before).drives;
  drove = has.at.drove;
  has = tt;
}

pub driven-few : (on : Setting) (idle : ℕ) (d : Drives) (before more : List Trace) → HasDriven on idle d before → IsBounded (before ++ more) → d.tally.points + position_count more < 2 ^ 62
driven-few on idle d before more has bounded =
    let few = bounded.few_points in
    let both = counts-append before more in
    omega (arith, few, both, has.count)

pub driven-more : (on : Setting) (idle : ℕ) (d d' : Drives) (before more : List Trace) (t t' : List ℕ) → HasDriven on idle d before → TakesAll idle (points_in more) d d' t t' → HasDriven on idle d' (before ++ more)
driven-more on idle d d' before more t t' has takes =
    let front = points_in before in
    let back = points_in more in
    let rows = takes on (ended_among idle no_drives front) (fleet_of idle before) has.at in
    let all = points-append before more in
    let joined = subst (λ f. IsAtFleet on d' (ended_among idle no_drives (front ++ back)) f) (sym (rows-append idle no_drives front back))
    (subst (λ ds. IsAtFleet on d' ds (fleet_after_all idle (fleet_of idle before) back)) (sym (ended-append idle no_drives front back)) rows.at) in
    record {
      at = subst (λ ps. IsAtFleet on d' (ended_among idle no_drives ps) (fleet_after_all idle no_drives ps)) (sym all) joined;
      count = (
          let both = counts-append before more in
          let long = points-length more in
          omega (arith, has.count, rows.count, both, long));
    }

pub driven-grows : (on : Setting) (idle : ℕ) (d d' : Drives) (before more : List Trace) (t t' : List ℕ) → HasDriven on idle d before → TakesAll idle (points_in more) d d' t t' → GrowsByTexts (drives_job on idle) before more t t'
driven-grows on idle d d' before more t t' has takes =
    let rows = takes on (ended_among idle no_drives (points_in before)) (fleet_of idle before) has.at in
    record {
      text = concat (drive_lines on.network on.params idle (fleet_of idle before) (points_in more));
      grown = rows.written;
      is = ap (λ ps. concat (drive_lines on.network on.params idle no_drives ps)) (points-append before more) ∙ driven-text on.network on.params idle no_drives (points_in before) (points_in more);
    }

-- ---- the end

-- the counts of all drives stay in their ranges
pub few-in-all : (on : Setting) (s : SessionsState) (times : List (ℕ × ℕ)) (rows : RowsState) (tally : Tally) (ended drives : List Pair) (old new : List ℕ) (many pieces : ℕ) → HasDrove on s times rows tally ended drives
    → EndsPairs s drives old new pieces → many ≡ length drives → (tally.traces + many < 2 ^ 62) × (tally.pieces + pieces < 2 ^ 62)
few-in-all on s times rows tally ended drives old new many pieces has ends opened =
    let counted = at-setting (λ m q. pieces_of_all m q drives ≡ pieces_told m q drives + pieces) on s has.network has.params ends.counted in
    let most = few-pieces on.network on.params drives has.accepted has.lawful in
    let most_before = few-pieces on.network on.params ended has.accepted has.ended_lawful in
    let some = few-drives drives has.lawful in
    let some_before = few-drives ended has.ended_lawful in
    let few = has.few in
    (omega (arith, few, has.traces_are, has.points_are, some, some_before, opened), omega (arith, few, has.pieces_are, has.points_are, counted, most, most_before))

total-points : (ended drives : List Pair) → position_count (map trace_of (ended ++ drives)) ≡ fixes_in ended + fixes_in drives
total-points ended drives = whole-sum (λ trace. length trace.fixes) (ended ++ drives) ∙ sum_by-append (λ (q : Pair). length q.1) ended drives

total-pieces : (on : Setting) (ended drives : List Pair) → piece_count on (map trace_of (ended ++ drives)) ≡ pieces_of_all on.network on.params ended + pieces_of_all on.network on.params drives
total-pieces on ended drives =
    whole-sum (λ trace. length (match_of on.network on.params trace).pieces) (ended ++ drives)
    ∙ sum_by-append (λ (q : Pair). length (match_of on.network on.params (trace_of q)).pieces) ended drives

rows-counted : (on : Setting) (s : SessionsState) (times : List (ℕ × ℕ)) (rows rows' : RowsState) (tally : Tally) (ended drives : List Pair) → HasDrove on s times rows tally ended drives
    → AsksOnly rows rows' (AsksSome s drives) → IsKnownList rows'.network rows'.known → length rows'.known ≡ asked_count on (map trace_of (ended ++ drives))
rows-counted on s times rows rows' tally ended drives has asks listed =
    let are : AreRowsOf rows' on.network on.params.bound = still_of asks.keeps has.rows_are in
    let knows : (v : ℕ) → Contains rows'.known v ↔ Asks on (ended ++ drives) v = λ v. (
      λ now. ⊎_elim (λ old. (has.asked v).0 old) (λ asked. asks-back on ended drives v (of-some on s drives v has.network has.params asked)) (asks.nothing_else v now),
      λ asked. asks.keeps.known v ((has.asked v).1 asked),
    ) in
    let inside = subst (λ n. IsKnownList n rows'.known) are.network listed in
    count_listed (length on.network.nodes) rows'.known (is_asked_by on (map trace_of (ended ++ drives))) inside.rising inside.nodes (λ v low. knows v)

pub ending-is : (on : Setting) (s : SessionsState) (times : List (ℕ × ℕ)) (rows rows' : RowsState) (tally : Tally) (ended drives : List Pair) (many pieces count : ℕ) (old new : List ℕ) → HasDrove on s times rows tally ended drives
    → EndsPairs s drives old new pieces → AsksOnly rows rows' (AsksSome s drives) → IsKnownList rows'.network rows'.known → count ≡ length rows'.known → many ≡ length drives
    → new ++ total_line (tally.traces + many) tally.points (tally.pieces + pieces) count ≡ old ++ ending_of on ended drives
ending-is on s times rows rows' tally ended drives many pieces count old new has ends asks listed counted opened =
    let whole = map trace_of (ended ++ drives) in
    let lines = concat (closing_lines on.network on.params drives) in
    let written = at-setting (λ m q. new ≡ old ++ concat (closing_lines m q drives)) on s has.network has.params ends.written in
    let told = at-setting (λ m q. pieces_of_all m q drives ≡ pieces_told m q drives + pieces) on s has.network has.params ends.counted in
    let traces_are : tally.traces + many ≡ length whole = (
    let both = length-append ended drives in
    let all = length-map (ended ++ drives) trace_of in
    omega (arith, has.traces_are, opened, both, all)) in
    let points_are : tally.points ≡ position_count whole = has.points_are ∙ sym (total-points ended drives) in
    let pieces_are : tally.pieces + pieces ≡ piece_count on whole = (
    let all = total-pieces on ended drives in
    omega (arith, has.pieces_are, told, all)) in
    let rows_are : count ≡ asked_count on whole = counted ∙ rows-counted on s times rows rows' tally ended drives has asks listed in
    ap (λ t. t ++ total_line (tally.traces + many) tally.points (tally.pieces + pieces) count) written
    ∙ ap (λ t. (old ++ lines) ++ t)
    (ap (λ n. total_line n tally.points (tally.pieces + pieces) count) traces_are
    ∙ ap (λ n. total_line (length whole) n (tally.pieces + pieces) count) points_are
    ∙ ap (λ n. total_line (length whole) (position_count whole) n count) pieces_are
    ∙ ap (total_line (length whole) (position_count whole) (piece_count on whole)) rows_are)
    ∙ append_assoc old lines (total_of (piece_count on) (asked_count on) whole)
