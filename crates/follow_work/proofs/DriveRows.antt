-- What is left of drives after a position, and after more of them.
use Rattle.std.proofs.Common.{◌≡◌, ℕ, ◌+◌, ◌<◌, ◌≤◌, ◌^◌, Bool, List, [], ◌∷◌, ◌++◌, refl, sym, ap, ◌∙◌, subst, arith, get_or, length, map, max, take}
use Rattle.std.specs.List.{concat, filter}
use Rattle.std.proofs.lemmas.List.{append_assoc, append-nil, length-append, length-map, length-take, map-append, take_all, take_more}
use Rattle.std.proofs.lemmas.List.Concat.{flat_map-append}
use Rattle.std.proofs.lemmas.List.Folds.{concat-append}
use Rattle.std.proofs.lemmas.List.Sums.{sum_by-cons}
use Rattle.program_frame.specs.Jobs.{position_count}
use Rattle.program_frame.proofs.PointCounts.{points-append as counts-append}
use Rattle.trace_match.specs.Setting.{Setting}
use Rattle.trace_match.proofs.Traces.{next_trace}
use Rattle.trace_reader.specs.declared.trace.Fix.{Fix}
use Rattle.trace_reader.specs.declared.trace.Trace.{Trace}
use Rattle.trace_sessions.specs.Drives.{Fleet, awake_at, clock_at, drive_lines, ended_among, ended_at, is_full_of, is_idle, open_at, fleet_lines, fleet_after, fleet_after_all}
use Rattle.trace_sessions.specs.Sessions.{Pair, fixes_of}
use Rattle.trace_sessions.specs.StreamText.{Point, closing_lines, fragment_points, led_by, lines_at_end, lines_of_fix, points_in}
use Rattle.follow_work.specs.DriveTexts.{driven-text}
use Rattle.follow_work.proofs.DriveSums.{ended-append, rows-append}
use Rattle.follow_work.specs.declared.drives.Drives.{Drives}
use Rattle.follow_work.specs.inside.DrivesDone.{AreAny, Drove, EndsAll, HasDrives, HaveRoomFor, IsAtFleet, TakesAll, DrivesTakePosition, TakesRows}
use Rattle.follow_work.proofs.DriveLists.{others, room-left}
use Rattle.follow_work.proofs.StreamJobs.{first-points, points-length}

-- ---- one position

-- the full drive of an id ends after those that are idle
pub any-ended : (on : Setting) (ended drives : List Pair) (test : Pair → Bool) (d d' : Drives) (t t' : List ℕ) → EndsAll on ended drives test d d' t t' → HasDrives d' AreAny
any-ended on ended drives test d d' t t' ends = record { on = on; ended = ended ++ filter test drives; drives = others test drives; drove = ends.drove; has = tt }

-- and then the id has room
pub room-ended : (on : Setting) (ended drives before : List Pair) (id : ℕ) (d d' : Drives) (t t' : List ℕ) → Drove on d before drives → EndsAll on ended drives (is_full_of id) d d' t t' → HasDrives d' (HaveRoomFor id)
room-ended on ended drives before id d d' t t' drove ends = record {
  on = on;
  ended = ended ++ filter (is_full_of id) drives;
  drives = others (is_full_of id) drives;
  drove = ends.drove;
  has = room-left id drives drove.stands.different;
}

row-text : (on : Setting) (idle : ℕ) (fleet : Fleet) (x : Point) (t0 t1 t2 t3 : List ℕ) → t1 ≡ t0 ++ concat (closing_lines on.network on.params (filter (is_idle idle (clock_at fleet x)) fleet.drives))
    → t2 ≡ t1 ++ concat (closing_lines on.network on.params (filter (is_full_of x.0) (awake_at idle fleet x)))
    → t3 ≡ t2 ++ concat (led_by x.0 (lines_of_fix on.network on.params x.0 (fixes_of (open_at idle fleet x) x.0) x.1))
    → t3 ≡ t0 ++ concat (drive_lines on.network on.params idle fleet (x ∷ []))
row-text on idle fleet x t0 t1 t2 t3 one two three =
    let n = on.network in
    let p = on.params in
    let first = filter (is_idle idle (clock_at fleet x)) fleet.drives in
    let second = filter (is_full_of x.0) (awake_at idle fleet x) in
    let own = led_by x.0 (lines_of_fix n p x.0 (fixes_of (open_at idle fleet x) x.0) x.1) in
    let a = concat (closing_lines n p first) in
    let b = concat (closing_lines n p second) in
    three
    ∙ ap (λ t. t ++ concat own) (two ∙ ap (λ t. t ++ b) one)
    ∙ append_assoc (t0 ++ a) b (concat own)
    ∙ append_assoc t0 a (b ++ concat own)
    ∙ ap (λ t. t0 ++ t)
    (sym (append_assoc a b (concat own))
    ∙ ap (λ t. t ++ concat own) (sym (concat-append (closing_lines n p first) (closing_lines n p second)) ∙ ap concat (sym (flat_map-append (lines_at_end n p) first second)))
    ∙ sym (concat-append (closing_lines n p (ended_at idle fleet x)) own)
    ∙ ap concat (sym (append-nil (fleet_lines n p idle fleet x))))

pub row-taken : (on : Setting) (idle id : ℕ) (fix : Fix) (ended : List Pair) (fleet : Fleet) (clock : ℕ) (d0 d1 d2 d3 d4 : Drives) (t0 t1 t2 t3 : List ℕ) → clock ≡ max d0.clock fix.time → d1.clock ≡ clock → d1.tally.points ≡ d0.tally.points
    → IsAtFleet on d0 ended fleet
    → EndsAll on ended fleet.drives (is_idle idle clock) d1 d2 t0 t1
    → EndsAll on (ended ++ filter (is_idle idle clock) fleet.drives) (others (is_idle idle clock) fleet.drives) (is_full_of id) d2 d3 t1 t2
    → DrivesTakePosition on ((ended ++ filter (is_idle idle clock) fleet.drives) ++ filter (is_full_of id) (others (is_idle idle clock) fleet.drives)) (others (is_full_of id) (others (is_idle idle clock) fleet.drives)) id fix d3 d4 t2 t3
    → TakesRows on idle ended fleet ((id, fix) ∷ []) d0 d4 t0 t3
row-taken on idle id fix ended fleet clock d0 d1 d2 d3 d4 t0 t1 t2 t3 clock_is clock1 points1 at first second third =
    let x : Point = (id, fix) in
    let same : clock ≡ clock_at fleet x = clock_is ∙ ap (λ c. max c fix.time) at.clock_is in
    let one = subst (λ c. EndsAll on ended fleet.drives (is_idle idle c) d1 d2 t0 t1) same first in
    let two = subst (λ c. EndsAll on (ended ++ filter (is_idle idle c) fleet.drives) (others (is_idle idle c) fleet.drives) (is_full_of id) d2 d3 t1 t2) same second in
    let three = subst
    (λ c. DrivesTakePosition on ((ended ++ filter (is_idle idle c) fleet.drives) ++ filter (is_full_of id) (others (is_idle idle c) fleet.drives)) (others (is_full_of id) (others (is_idle idle c) fleet.drives)) id fix d3 d4 t2 t3)
    same third in
    let front = filter (is_idle idle (clock_at fleet x)) fleet.drives in
    let back = filter (is_full_of id) (awake_at idle fleet x) in
    let parts : (ended ++ front) ++ back ≡ ended ++ ((front ++ back) ++ []) = append_assoc ended front back ∙ ap (λ ds. ended ++ ds) (sym (append-nil (front ++ back))) in
    record {
      at = record {
        drove = subst (λ ds. Drove on d4 ds (fleet_after idle fleet x).drives) parts three.drove;
        clock_is = three.clock ∙ two.stays.clock ∙ one.stays.clock ∙ clock1 ∙ same;
      };
      count = three.points ∙ ap (λ k. k + 1) (two.stays.points ∙ one.stays.points ∙ points1);
      written = row-text on idle fleet x t0 t1 t2 t3 one.written two.written three.written;
    }

-- ---- more positions

pub none-taken : (idle : ℕ) (d : Drives) (t : List ℕ) → TakesAll idle [] d d t t
none-taken idle d t on ended fleet at = record {
  at = subst (λ ds. IsAtFleet on d ds fleet) (sym (append-nil ended)) at;
  count = omega arith;
  written = sym (append-nil t);
}

pub rows-then : (idle : ℕ) (front back : List Point) (d0 d1 d2 : Drives) (t0 t1 t2 : List ℕ) → TakesAll idle front d0 d1 t0 t1 → TakesAll idle back d1 d2 t1 t2 → TakesAll idle (front ++ back) d0 d2 t0 t2
rows-then idle front back d0 d1 d2 t0 t1 t2 first second on ended fleet at =
    let n = on.network in
    let p = on.params in
    let one = first on ended fleet at in
    let next = fleet_after_all idle fleet front in
    let gone = ended_among idle fleet front in
    let two = second on (ended ++ gone) next one.at in
    let parts : (ended ++ gone) ++ ended_among idle next back ≡ ended ++ ended_among idle fleet (front ++ back) =
    append_assoc ended gone (ended_among idle next back) ∙ ap (λ ds. ended ++ ds) (sym (ended-append idle fleet front back)) in
    let a = concat (drive_lines n p idle fleet front) in
    let b = concat (drive_lines n p idle next back) in
    record {
      at = subst (λ f. IsAtFleet on d2 (ended ++ ended_among idle fleet (front ++ back)) f) (sym (rows-append idle fleet front back)) (subst (λ ds. IsAtFleet on d2 ds (fleet_after_all idle next back)) parts two.at);
      count = (let sum = length-append front back in omega (arith, one.count, two.count, sum));
      written = two.written ∙ ap (λ t. t ++ b) one.written ∙ append_assoc t0 a b ∙ ap (λ t. t0 ++ t) (sym (driven-text n p idle fleet front back));
    }

-- what some drives are, as a fleet
pub record TakesAny (idle : ℕ) (points : List Point) (d0 d : Drives) : Type 0 where
  pub any : HasDrives d AreAny
  pub count : d.tally.points ≡ d0.tally.points + length points

pub taken-any : (idle : ℕ) (points : List Point) (d0 d : Drives) (t0 t : List ℕ) → HasDrives d0 AreAny → TakesAll idle points d0 d t0 t → TakesAny idle points d0 d
taken-any idle points d0 d t0 t some takes =
    let fleet : Fleet = record { clock = d0.clock; drives = some.drives } in
    let rows = takes some.on some.ended fleet (record { drove = some.drove; clock_is = refl }) in
    record {
      any = record { on = some.on; ended = some.ended ++ ended_among idle fleet points; drives = (fleet_after_all idle fleet points).drives; drove = rows.at.drove; has = tt };
      count = rows.count;
    }

-- ---- the fixes of a fragment

abbrev pub first_points : Trace → ℕ → List Point
first_points trace i = map (λ (fix : Fix). (trace.id, fix)) (take i trace.fixes)

pub next-point : (trace : Trace) (fixes : List Fix) (i : ℕ) (d : Fix) → fixes ≡ trace.fixes → i < length fixes → first_points trace (i + 1) ≡ first_points trace i ++ (trace.id, get_or fixes i d) ∷ []
next-point trace fixes i d same low =
    let point : Fix → Point = λ f. (trace.id, f) in
    let low_there : i < length trace.fixes = subst (λ fs. i < length fs) same low in
    ap (map point) (take_more trace.fixes i d low_there ∙ ap (λ fs. take i trace.fixes ++ get_or fs i d ∷ []) (sym same))
    ∙ map-append point (take i trace.fixes) (get_or fixes i d ∷ [])

pub all-points : (trace : Trace) (fixes : List Fix) (i : ℕ) → fixes ≡ trace.fixes → length fixes ≤ i → first_points trace i ≡ fragment_points trace
all-points trace fixes i same high =
    let high_there : length trace.fixes ≤ i = subst (λ fs. length fs ≤ i) same high in
    ap (map (λ (f : Fix). (trace.id, f))) (take_all i trace.fixes high_there)

pub point-few : (trace : Trace) (fixes : List Fix) (i before points : ℕ) → fixes ≡ trace.fixes → i < length fixes → points ≡ before + length (first_points trace i) → before + length trace.fixes < 2 ^ 62 → points + 1 < 2 ^ 62
point-few trace fixes i before points same low count few =
    let low_there : i < length trace.fixes = subst (λ fs. i < length fs) same low in
    let cut = length-take i trace.fixes in
    let all = length-map {B = Point} (take i trace.fixes) (λ (f : Fix). (trace.id, f)) in
    omega (arith, cut, all, low_there, count, few)

-- ---- fragments

pub fragment-few : (traces : List Trace) (i : ℕ) (trace : Trace) (before points : ℕ) → i < length traces → trace ≡ get_or traces i trace → points ≡ before + length (points_in (take i traces)) → before + position_count traces < 2 ^ 62
    → points + length trace.fixes < 2 ^ 62
fragment-few traces i trace before points low is there few =
    let count = points-length (take i traces) in
    let next : position_count (take (i + 1) traces) ≡ position_count (take i traces) + position_count (trace ∷ []) = ap position_count (next_trace traces i trace low is) ∙ counts-append (take i traces) (trace ∷ []) in
    let one = sum_by-cons (λ (t : Trace). length t.fixes) trace [] in
    let most = first-points traces (i + 1) in
    omega (arith, count, next, one, most, there, few)
