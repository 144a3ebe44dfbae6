-- The lines of an id in a stream whose drives end are the follow texts of its drives.
use Rattle.std.proofs.Common.{◌≡◌, ℕ, ◌<◌, ◌^◌, Bool, true, false, cond, List, [], ◌∷◌, ◌++◌, Option, Some, None, refl, sym, ap, ◌∙◌, length, map, nat_eq, unwrap_or}
use Rattle.std.specs.Prelude.{not}
use Rattle.std.specs.List.{All, filter, flat_map}
use Rattle.std.specs.Map.{lookup}
use Rattle.std.proofs.lemmas.List.{append_assoc, append-nil}
use Rattle.std.proofs.lemmas.List.Concat.{flat_map-append}
use Rattle.std.proofs.lemmas.List.Elements.{All-head, All-tail, filter-append}
use Rattle.cost_model.specs.declared.params.Params.{Params}
use Rattle.road_network.specs.Net.{Net}
use Rattle.match_text.specs.MatchText.{end_line}
use Rattle.trace_match.specs.Match.{layer_of}
use Rattle.trace_reader.specs.declared.trace.Fix.{Fix}
use Rattle.trace_sessions.specs.FollowText.{follow_lines, last_lines}
use Rattle.trace_sessions.specs.Sessions.{Pair, fixes_of, with_fix}
use Rattle.trace_sessions.specs.StreamText.{Point, closing_lines, fixes_among, led_by, lines_at_end, lines_led_by, lines_of_fix, trace_of}
use Rattle.trace_sessions.specs.Drives.{Fleet, awake_at, clock_at, drive_lines, ended_among, ended_at, is_full_of, is_idle, no_drives, open_at, fleet_after, fleet_after_all}
use Rattle.trace_sessions.specs.DrivesAlone.{DrivesAreFollowedAlone, DrivesHaveEachPosition, drives_with}
use Rattle.trace_sessions.proofs.StreamPoints.{fixes-with}
use Rattle.trace_sessions.proofs.StreamAlone.{IsShort, IsSmall, alone-all, alone_step, closing-alone, ends_alone, led-append, lines_alone, part}
use Rattle.trace_sessions.proofs.DrivesKept.{AreDrives, given, lookup-filter, no-drives-are, once-filter, others, others-are, passed, row-are, two-parts, with-lookup}

-- ---- the lines of an id

abbrev follows : Net → Params → List Pair → List (List ℕ)
follows n p drives = flat_map (λ drive. follow_lines n p (trace_of drive)) drives

-- what was written of the open drive of an id
abbrev begun : Net → Params → ℕ → List Pair → List (List ℕ)
begun n p id drives = lines_alone n p id [] (fixes_of drives id)

follows-with : (n : Net) (p : Params) (id : ℕ) (xs ys : List Pair) → follows n p (drives_with id (xs ++ ys)) ≡ follows n p (drives_with id xs) ++ follows n p (drives_with id ys)
follows-with n p id xs ys =
    ap (follows n p) (filter-append (λ (drive : Pair). nat_eq id drive.0) xs ys)
    ∙ flat_map-append (λ (drive : Pair). follow_lines n p (trace_of drive)) (drives_with id xs) (drives_with id ys)

-- a drive that ends
end_case : (n : Net) (p : Params) (id : ℕ) (o : Option (List Fix)) → ((fixes : List Fix) → o ≡ Some fixes → 0 < length fixes)
    → lines_alone n p id [] (unwrap_or o []) ++ ends_alone n p id o ≡ follows n p (given id o)
end_case n p id None some = refl
end_case n p id (Some fixes) some =
    ap (λ ls. ls ++ (last_lines n p (map (layer_of n p) fixes) ++ end_line id ∷ [])) (alone-all n p id fixes (some fixes refl))
    ∙ sym (append-nil (follow_lines n p (trace_of (id, fixes))))

-- or maybe goes on
part_case : (n : Net) (p : Params) (id : ℕ) (ends : Pair → Bool) (o : Option (List Fix)) → ((fixes : List Fix) → o ≡ Some fixes → 0 < length fixes)
    → lines_alone n p id [] (unwrap_or o []) ++ ends_alone n p id (passed ends id o)
    ≡ follows n p (given id (passed ends id o)) ++ lines_alone n p id [] (unwrap_or (passed (λ drive. not (ends drive)) id o) [])
part_case n p id ends None some = refl
part_case n p id ends (Some fixes) some = step (ends (id, fixes))
  where
    step : (c : Bool)
        → lines_alone n p id [] fixes ++ ends_alone n p id (cond c (Some fixes) None)
        ≡ follows n p (given id (cond c (Some fixes) None)) ++ lines_alone n p id [] (unwrap_or (cond (not c) (Some fixes) None) [])
    step true = end_case n p id (Some fixes) some ∙ sym (append-nil (follows n p (given id (Some fixes))))
    step false = append-nil (lines_alone n p id [] fixes)

all-end : (n : Net) (p : Params) (id : ℕ) (drives : List Pair) → id < 2 ^ 32 → AreDrives IsShort drives
    → begun n p id drives ++ lines_led_by id (closing_lines n p drives) ≡ follows n p (drives_with id drives)
all-end n p id drives small are =
    ap (λ ls. begun n p id drives ++ ls) (closing-alone n p id drives small are.once)
    ∙ end_case n p id (lookup (nat_eq id) drives) (are.some id)
    ∙ ap (follows n p) (sym (with-lookup IsShort id drives are.once))

some-end : (n : Net) (p : Params) (id : ℕ) (ends : Pair → Bool) (drives : List Pair) → id < 2 ^ 32 → AreDrives IsShort drives
    → begun n p id drives ++ lines_led_by id (closing_lines n p (filter ends drives)) ≡ follows n p (drives_with id (filter ends drives)) ++ begun n p id (others ends drives)
some-end n p id ends drives small are =
    let gone = filter ends drives in
    let once = once-filter IsShort ends drives are.once in
    let goes = lookup-filter IsShort ends id drives are.once in
    let stays = lookup-filter IsShort (λ drive. not (ends drive)) id drives are.once in
    ap (λ ls. begun n p id drives ++ ls) (closing-alone n p id gone small once ∙ ap (ends_alone n p id) goes)
    ∙ part_case n p id ends (lookup (nat_eq id) drives) (are.some id)
    ∙ ap (λ ds. follows n p ds ++ lines_alone n p id [] (unwrap_or (passed (λ drive. not (ends drive)) id (lookup (nat_eq id) drives)) []))
    (sym (with-lookup IsShort id gone once ∙ ap (given id) goes))
    ∙ ap (λ o. follows n p (drives_with id gone) ++ lines_alone n p id [] (unwrap_or o [])) (sym stays)

-- the drives that a position ends
ends-here : (n : Net) (p : Params) (idle : ℕ) (fleet : Fleet) (x : Point) (id : ℕ) → id < 2 ^ 32 → AreDrives IsShort fleet.drives
    → begun n p id fleet.drives ++ lines_led_by id (closing_lines n p (ended_at idle fleet x)) ≡ follows n p (drives_with id (ended_at idle fleet x)) ++ begun n p id (open_at idle fleet x)
ends-here n p idle fleet x id small are =
    let quiet = is_idle idle (clock_at fleet x) in
    let full = is_full_of x.0 in
    let awake = awake_at idle fleet x in
    let first = filter quiet fleet.drives in
    let second = filter full awake in
    ap (λ ls. begun n p id fleet.drives ++ lines_led_by id ls) (closing-append first second)
    ∙ ap (λ ls. begun n p id fleet.drives ++ ls) (led-append id (closing_lines n p first) (closing_lines n p second))
    ∙ two-parts (begun n p id fleet.drives) (lines_led_by id (closing_lines n p first)) (lines_led_by id (closing_lines n p second))
    (follows n p (drives_with id first)) (begun n p id awake) (follows n p (drives_with id second)) (begun n p id (open_at idle fleet x))
    (some-end n p id quiet fleet.drives small are) (some-end n p id full awake small (others-are IsShort quiet fleet.drives are))
    ∙ ap (λ ls. ls ++ begun n p id (open_at idle fleet x)) (sym (follows-with n p id first second))
  where
    closing-append : (xs ys : List Pair) → closing_lines n p (xs ++ ys) ≡ closing_lines n p xs ++ closing_lines n p ys
    closing-append xs ys = flat_map-append (lines_at_end n p) xs ys

alone-append : (n : Net) (p : Params) (id : ℕ) (fixes front back : List Fix) → lines_alone n p id fixes (front ++ back) ≡ lines_alone n p id fixes front ++ lines_alone n p id (fixes ++ front) back
alone-append n p id fixes [] back = ap (λ fs. lines_alone n p id fs back) (sym (append-nil fixes))
alone-append n p id fixes (fix ∷ front) back =
    let here = lines_of_fix n p id fixes fix in
    let rest = lines_alone n p id (fixes ++ fix ∷ []) front in
    ap (λ ls. here ++ ls) (alone-append n p id (fixes ++ fix ∷ []) front back)
    ∙ sym (append_assoc here rest (lines_alone n p id ((fixes ++ fix ∷ []) ++ front) back))
    ∙ ap (λ fs. (here ++ rest) ++ lines_alone n p id fs back) (append_assoc fixes (fix ∷ []) front)

-- the position itself
goes-on : (n : Net) (p : Params) (drives : List Pair) (x : Point) (id : ℕ) → id < 2 ^ 32 → x.0 < 2 ^ 32
    → begun n p id drives ++ lines_led_by id (led_by x.0 (lines_of_fix n p x.0 (fixes_of drives x.0) x.1)) ≡ begun n p id (with_fix drives x.0 x.1)
goes-on n p drives x id small small' =
    let fixes = fixes_of drives id in
    let lines = lines_of_fix n p x.0 (fixes_of drives x.0) x.1 in
    let own : lines_led_by id (led_by x.0 lines) ≡ lines_alone n p id fixes (fixes_among id (x ∷ [])) =
    ap (lines_led_by id) (sym (append-nil (led_by x.0 lines)))
    ∙ part id x.0 lines [] [] (nat_eq id x.0) small small' refl refl
    ∙ alone_step n p id fixes (fixes_of (with_fix drives x.0 x.1) id) x [] lines (nat_eq id x.0) refl (fixes-with drives id x.0 x.1)
    (λ e. ap (λ j. lines_of_fix n p j (fixes_of drives j) x.1) (sym e)) in
    ap (λ ls. begun n p id drives ++ ls) own
    ∙ sym (alone-append n p id [] fixes (fixes_among id (x ∷ [])))
    ∙ ap (lines_alone n p id []) (sym (fixes-with drives id x.0 x.1))

three_parts : {X : Type 0} (a l m r f b c g : List X) → a ++ l ≡ f ++ b → b ++ m ≡ c → c ++ r ≡ g → a ++ ((l ++ m) ++ r) ≡ f ++ g
three_parts a l m r f b c g one two three =
    ap (λ x. a ++ x) (append_assoc l m r) ∙ sym (append_assoc a l (m ++ r)) ∙ ap (λ x. x ++ (m ++ r)) one ∙ append_assoc f b (m ++ r)
    ∙ ap (λ x. f ++ x) (sym (append_assoc b m r) ∙ ap (λ x. x ++ r) two ∙ three)

rows-alone : (n : Net) (p : Params) (idle : ℕ) (fleet : Fleet) (points : List Point) (id : ℕ) → id < 2 ^ 32 → All IsSmall points → AreDrives IsShort fleet.drives
    → begun n p id fleet.drives ++ lines_led_by id (drive_lines n p idle fleet points ++ closing_lines n p (fleet_after_all idle fleet points).drives)
    ≡ follows n p (drives_with id (ended_among idle fleet points ++ (fleet_after_all idle fleet points).drives))
rows-alone n p idle fleet [] id small are drives = all-end n p id fleet.drives small drives
rows-alone n p idle fleet (x ∷ more) id small are drives =
    let next = fleet_after idle fleet x in
    let gone = closing_lines n p (ended_at idle fleet x) in
    let here = led_by x.0 (lines_of_fix n p x.0 (fixes_of (open_at idle fleet x) x.0) x.1) in
    let behind = drive_lines n p idle next more in
    let last = closing_lines n p (fleet_after_all idle next more).drives in
    let ended = ended_at idle fleet x in
    let later = ended_among idle next more in
    let last_open = (fleet_after_all idle next more).drives in
    ap (λ ls. begun n p id fleet.drives ++ lines_led_by id ls) (append_assoc (gone ++ here) behind last)
    ∙ ap (λ ls. begun n p id fleet.drives ++ ls)
    (led-append id (gone ++ here) (behind ++ last) ∙ ap (λ ls. ls ++ lines_led_by id (behind ++ last)) (led-append id gone here))
    ∙ three_parts (begun n p id fleet.drives) (lines_led_by id gone) (lines_led_by id here) (lines_led_by id (behind ++ last))
    (follows n p (drives_with id ended)) (begun n p id (open_at idle fleet x)) (begun n p id next.drives) (follows n p (drives_with id (later ++ last_open)))
    (ends-here n p idle fleet x id small drives)
    (goes-on n p (open_at idle fleet x) x id small (All-head IsSmall x more are))
    (rows-alone n p idle next more id small (All-tail IsSmall x more are) (row-are IsShort idle fleet x (All-head IsSmall x more are) drives))
    ∙ sym (follows-with n p id ended (later ++ last_open))
    ∙ ap (λ ds. follows n p (drives_with id ds)) (sym (append_assoc ended later last_open))

pub drives_are_followed_alone : DrivesAreFollowedAlone
drives_are_followed_alone n p idle points id are small = rows-alone n p idle no_drives points id small are (no-drives-are IsShort)

-- ---- the positions of an id

abbrev positions : List Pair → List Fix
positions drives = flat_map (λ drive. drive.1) drives

positions-with : (id : ℕ) (xs ys : List Pair) → positions (drives_with id (xs ++ ys)) ≡ positions (drives_with id xs) ++ positions (drives_with id ys)
positions-with id xs ys =
    ap positions (filter-append (λ (drive : Pair). nat_eq id drive.0) xs ys) ∙ flat_map-append (λ (drive : Pair). drive.1) (drives_with id xs) (drives_with id ys)

abbrev Any : ℕ → Type 0
Any id = Unit {0}

whole_case : (id : ℕ) (o : Option (List Fix)) → unwrap_or o [] ≡ positions (given id o)
whole_case id None = refl
whole_case id (Some fixes) = sym (append-nil fixes)

pass_case : (id : ℕ) (ends : Pair → Bool) (o : Option (List Fix)) → unwrap_or o [] ≡ positions (given id (passed ends id o)) ++ unwrap_or (passed (λ drive. not (ends drive)) id o) []
pass_case id ends None = refl
pass_case id ends (Some fixes) = step (ends (id, fixes))
  where
    step : (c : Bool) → fixes ≡ positions (given id (cond c (Some fixes) None)) ++ unwrap_or (cond (not c) (Some fixes) None) []
    step true = sym (append-nil (fixes ++ []) ∙ append-nil fixes)
    step false = refl

some-pass : (id : ℕ) (ends : Pair → Bool) (drives : List Pair) → AreDrives Any drives → fixes_of drives id ≡ positions (drives_with id (filter ends drives)) ++ fixes_of (others ends drives) id
some-pass id ends drives are =
    pass_case id ends (lookup (nat_eq id) drives)
    ∙ ap (λ ds. positions ds ++ unwrap_or (passed (λ drive. not (ends drive)) id (lookup (nat_eq id) drives)) [])
    (sym (with-lookup Any id (filter ends drives) (once-filter Any ends drives are.once) ∙ ap (given id) (lookup-filter Any ends id drives are.once)))
    ∙ ap (λ o. positions (drives_with id (filter ends drives)) ++ unwrap_or o []) (sym (lookup-filter Any (λ drive. not (ends drive)) id drives are.once))

pass-here : (idle : ℕ) (fleet : Fleet) (x : Point) (id : ℕ) → AreDrives Any fleet.drives → fixes_of fleet.drives id ≡ positions (drives_with id (ended_at idle fleet x)) ++ fixes_of (open_at idle fleet x) id
pass-here idle fleet x id are =
    let quiet = is_idle idle (clock_at fleet x) in
    let full = is_full_of x.0 in
    let awake = awake_at idle fleet x in
    let first = filter quiet fleet.drives in
    let second = filter full awake in
    some-pass id quiet fleet.drives are
    ∙ ap (λ fs. positions (drives_with id first) ++ fs) (some-pass id full awake (others-are Any quiet fleet.drives are))
    ∙ sym (append_assoc (positions (drives_with id first)) (positions (drives_with id second)) (fixes_of (open_at idle fleet x) id))
    ∙ ap (λ fs. fs ++ fixes_of (open_at idle fleet x) id) (sym (positions-with id first second))

among-first : (id : ℕ) (x : Point) (more : List Point) → fixes_among id (x ∷ []) ++ fixes_among id more ≡ fixes_among id (x ∷ more)
among-first id x more = step (nat_eq id x.0)
  where
    step : (b : Bool) → map (λ (y : Point). y.1) (cond b (x ∷ []) []) ++ map (λ (y : Point). y.1) (filter (λ (y : Point). nat_eq id y.0) more)
        ≡ map (λ (y : Point). y.1) (cond b (x ∷ filter (λ (y : Point). nat_eq id y.0) more) (filter (λ (y : Point). nat_eq id y.0) more))
    step true = refl
    step false = refl

rows-pass : (idle : ℕ) (fleet : Fleet) (points : List Point) (id : ℕ) → AreDrives Any fleet.drives
    → fixes_of fleet.drives id ++ fixes_among id points ≡ positions (drives_with id (ended_among idle fleet points ++ (fleet_after_all idle fleet points).drives))
rows-pass idle fleet [] id are =
    append-nil (fixes_of fleet.drives id) ∙ whole_case id (lookup (nat_eq id) fleet.drives) ∙ ap positions (sym (with-lookup Any id fleet.drives are.once))
rows-pass idle fleet (x ∷ more) id are =
    let next = fleet_after idle fleet x in
    let still = open_at idle fleet x in
    let ended = ended_at idle fleet x in
    let later = ended_among idle next more in
    let last_open = (fleet_after_all idle next more).drives in
    let gone = positions (drives_with id ended) in
    ap (λ fs. fs ++ fixes_among id (x ∷ more)) (pass-here idle fleet x id are)
    ∙ append_assoc gone (fixes_of still id) (fixes_among id (x ∷ more))
    ∙ ap (λ fs. gone ++ fs)
    (ap (λ fs. fixes_of still id ++ fs) (sym (among-first id x more))
    ∙ sym (append_assoc (fixes_of still id) (fixes_among id (x ∷ [])) (fixes_among id more))
    ∙ ap (λ fs. fs ++ fixes_among id more) (sym (fixes-with still id x.0 x.1))
    ∙ rows-pass idle next more id (row-are Any idle fleet x tt are))
    ∙ sym (positions-with id ended (later ++ last_open))
    ∙ ap (λ ds. positions (drives_with id ds)) (sym (append_assoc ended later last_open))

pub drives_have_each_position : DrivesHaveEachPosition
drives_have_each_position idle points id = sym (rows-pass idle no_drives points id (no-drives-are Any))
