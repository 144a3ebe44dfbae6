-- Where no drive is idle or full, the lines of a stream whose drives end are those of one whose drives do not.
use Rattle.std.proofs.Common.{◌≡◌, ℕ, ◌+◌, ◌<◌, ◌≤◌, Bool, true, false, cond, List, [], ◌∷◌, ◌++◌, Some, None, refl, sym, ap, ◌∙◌, subst, arith, length, nat_eq, unwrap_or}
use Rattle.std.specs.Prelude.{◌&&◌, not, nat_le}
use Rattle.std.specs.List.{All, filter}
use Rattle.std.specs.Map.{lookup}
use Rattle.std.proofs.lemmas.Bool.{le-ltb, lt-leb}
use Rattle.std.proofs.lemmas.Bool.Decides.{nat_tests}
use Rattle.std.proofs.lemmas.List.Elements.{All-head, All-tail}
use Rattle.cost_model.specs.declared.params.Params.{Params}
use Rattle.road_network.specs.Net.{Net}
use Rattle.trace_sessions.specs.Sessions.{Pair, fixes_and, fixes_of, with_fix}
use Rattle.trace_sessions.specs.StreamText.{Point, closing_lines, full_id, has_room, led_by, lines_of_fix, stream_lines, with_points}
use Rattle.trace_sessions.specs.Drives.{Fleet, awake_at, clock_at, drive_lines, ended_among, ended_at, is_full_of, is_idle, newest, no_drives, open_at, fleet_after, fleet_after_all}
use Rattle.trace_sessions.specs.DrivesAlone.{IdsHaveOneDrive, NoDriveIsIdle}
use Rattle.trace_sessions.proofs.StreamPoints.{Once, once-insert}
use Rattle.trace_sessions.proofs.DrivesKept.{others}

-- the test finds none of the drives
record FindsNone (test : Pair → Bool) (es : List Pair) : Type 0 where
  found : filter test es ≡ []
  left : others test es ≡ es

one-more : (test : Pair → Bool) (e : Pair) (es : List Pair) → test e ≡ false → FindsNone test es → FindsNone test (e ∷ es)
one-more test e es fails rest = record {
  found = ap (λ b. cond b (e ∷ filter test es) (filter test es)) fails ∙ rest.found;
  left = ap (λ b. cond (not b) (e ∷ others test es) (others test es)) fails ∙ ap (λ ds. e ∷ ds) rest.left;
}

none-idle : (idle clock : ℕ) (es : List Pair) → clock ≤ idle → FindsNone (is_idle idle clock) es
none-idle idle clock [] low = record { found = refl; left = refl }
none-idle idle clock (e ∷ es) low = one-more (is_idle idle clock) e es (le-ltb (newest e.1 + idle) clock (omega (arith, low))) (none-idle idle clock es low)

abbrev Any : ℕ → Type 0
Any id = Unit {0}

none-full : (id : ℕ) (es : List Pair) → Once Any es → length (fixes_of es id) < 100_000 → FindsNone (is_full_of id) es
none-full id [] once low = record { found = refl; left = refl }
none-full id (e ∷ es) once low = step (nat_eq id e.0) refl low (none-full id es once.2)
  where
    step : (b : Bool) → nat_eq id e.0 ≡ b → length (unwrap_or (cond b (Some e.1) (lookup (nat_eq id) es)) []) < 100_000
        → (length (fixes_of es id) < 100_000 → FindsNone (is_full_of id) es) → FindsNone (is_full_of id) (e ∷ es)
    step true is few rest =
        let same : id ≡ e.0 = grind (arith, nat_tests) in
        let none : fixes_of es id ≡ [] = ap (λ o. unwrap_or o []) (ap (λ k. lookup (nat_eq k) es) same ∙ once.1) in
        let count = ap length none in
        one-more (is_full_of id) e es (ap (λ b. b && nat_le 100_000 (length e.1)) is ∙ lt-leb 100_000 (length e.1) few) (rest (omega (arith, count)))
    step false is few rest = one-more (is_full_of id) e es (ap (λ b. b && nat_le 100_000 (length e.1)) is) (rest few)

-- at a position none ends
pub record EndsNoDrive (idle : ℕ) (fleet : Fleet) (x : Point) : Type 0 where
  pub ended : ended_at idle fleet x ≡ []
  pub goes_on : open_at idle fleet x ≡ fleet.drives

pub none-ends : (idle : ℕ) (fleet : Fleet) (x : Point) → Once Any fleet.drives → clock_at fleet x ≤ idle → length (fixes_of fleet.drives x.0) < 100_000 → EndsNoDrive idle fleet x
none-ends idle fleet x once low room =
    let quiet = is_idle idle (clock_at fleet x) in
    let full = is_full_of x.0 in
    let first = none-idle idle (clock_at fleet x) fleet.drives low in
    let second = none-full x.0 fleet.drives once room in
    record {
      ended = ap (λ ds. ds ++ filter full (awake_at idle fleet x)) first.found ∙ ap (filter full) first.left ∙ second.found;
      goes_on = ap (others full) first.left ∙ second.left;
    }

abbrev IsTimely : Point → Type 0
IsTimely x = x.1.time ≤ 4_294_967_295

-- the lines and the drives are those without ends
record GoesOn (fleet : Fleet) (points : List Point) : Type 0 where
  ended : ended_among 4_294_967_295 fleet points ≡ []
  lines : (n : Net) (p : Params) → drive_lines n p 4_294_967_295 fleet points ≡ stream_lines n p fleet.drives points
  drives : (fleet_after_all 4_294_967_295 fleet points).drives ≡ with_points fleet.drives points

goes-on : (fleet : Fleet) (points : List Point) → Once Any fleet.drives → fleet.clock ≤ 4_294_967_295 → All IsTimely points → full_id fleet.drives points ≡ None
    → GoesOn fleet points
goes-on fleet [] once low are room = record { ended = refl; lines = λ n p. refl; drives = refl }
goes-on fleet (x ∷ more) once low are room = step (has_room fleet.drives x.0) refl room (goes-on (fleet_after 4_294_967_295 fleet x) more)
  where
    step : (b : Bool) → has_room fleet.drives x.0 ≡ b → cond b (full_id (with_fix fleet.drives x.0 x.1) more) (Some x.0) ≡ None
        → (Once Any (fleet_after 4_294_967_295 fleet x).drives → clock_at fleet x ≤ 4_294_967_295 → All IsTimely more → full_id (fleet_after 4_294_967_295 fleet x).drives more ≡ None
        → GoesOn (fleet_after 4_294_967_295 fleet x) more)
        → GoesOn fleet (x ∷ more)
    step false is full later = absurd cc
    step true is rest later =
        let few : length (fixes_of fleet.drives x.0) < 100_000 = grind (arith, nat_tests) in
        let time = All-head IsTimely x more are in
        let clock : clock_at fleet x ≤ 4_294_967_295 = grind arith in
        let none = none-ends 4_294_967_295 fleet x once clock few in
        let drives : with_fix (open_at 4_294_967_295 fleet x) x.0 x.1 ≡ with_fix fleet.drives x.0 x.1 = ap (λ ds. with_fix ds x.0 x.1) none.goes_on in
        let behind = later
        (subst (Once Any) (sym drives) (once-insert Any x.0 (fixes_and fleet.drives x.0 x.1) fleet.drives tt once)) clock (All-tail IsTimely x more are)
        (ap (λ ds. full_id ds more) drives ∙ rest) in
        record {
          ended = ap (λ ds. ds ++ ended_among 4_294_967_295 (fleet_after 4_294_967_295 fleet x) more) none.ended ∙ behind.ended;
          lines = λ n p.
              let own = led_by x.0 (lines_of_fix n p x.0 (fixes_of fleet.drives x.0) x.1) in
              ap (λ ds. (closing_lines n p ds ++ led_by x.0 (lines_of_fix n p x.0 (fixes_of (open_at 4_294_967_295 fleet x) x.0) x.1)) ++ drive_lines n p 4_294_967_295 (fleet_after 4_294_967_295 fleet x) more) none.ended
              ∙ ap (λ ds. led_by x.0 (lines_of_fix n p x.0 (fixes_of ds x.0) x.1) ++ drive_lines n p 4_294_967_295 (fleet_after 4_294_967_295 fleet x) more) none.goes_on
              ∙ ap (λ ls. own ++ ls) (behind.lines n p ∙ ap (λ ds. stream_lines n p ds more) drives)
              ∙ sym (ap (λ b. cond b (own ++ stream_lines n p (with_fix fleet.drives x.0 x.1) more) []) is);
          drives = behind.drives ∙ ap (λ ds. with_points ds more) drives;
        }

pub no_drive_is_idle : NoDriveIsIdle
no_drive_is_idle n p points are room =
    let all = goes-on no_drives points tt (omega arith) are room in
    ap (λ ls. ls ++ closing_lines n p (fleet_after_all 4_294_967_295 no_drives points).drives) (all.lines n p)
    ∙ ap (λ ds. stream_lines n p [] points ++ closing_lines n p ds) all.drives

pub ids_have_one_drive : IdsHaveOneDrive
ids_have_one_drive points are room =
    let all = goes-on no_drives points tt (omega arith) are room in
    ap (λ ds. ds ++ (fleet_after_all 4_294_967_295 no_drives points).drives) all.ended ∙ all.drives
