-- The traces of a town, and that its trace file says them.
use Rattle.std.proofs.Common.{◌≡◌, ℕ, zero, suc, ◌+◌, ◌*◌, ◌<◌, ◌≤◌, ◌^◌, ◌==◌, true, false, cond, List, [], ◌∷◌, ◌++◌, All, length, pos, ◌-ℤ◌, nat_abs, Ok, Some, None, Option, option_to_list, IfSome, codes, refl, sym, ap, ap₂, ◌∙◌, subst, inl, inr, arith, append_assoc, length-append}
use Rattle.std.specs.List.{flat_map}
use Rattle.std.proofs.lemmas.Bool.{cases_Bool, eqb-true, leb-false, leb-true, lt-leb, ne_eqb}
use Rattle.std.proofs.lemmas.Int.{ints}
use Rattle.std.proofs.lemmas.List.{append-nil}
use Rattle.std.proofs.lemmas.List.Elements.{All-append, All-cons, All-from_recursion, All-head, All-nil, All-tail, All-weaker}
use Rattle.std.proofs.lemmas.List.Sums.{fold-append}
use Rattle.polyline_geometry.specs.Plane.{InRange}
use Rattle.trace_reader.specs.Content.{Content, extend_trace, no_content}
use Rattle.trace_reader.specs.Reading.{Outcome, end_line, end_read, end_reading, file_fault, file_traces, nothing_read, read_byte, read_bytes, reading_of, reads}
use Rattle.trace_reader.specs.Trace.{point_of_fix}
use Rattle.trace_reader.specs.declared.row.Header.TheVariants.{Untimed}
use Rattle.trace_reader.specs.declared.trace.Fix.{Fix}
use Rattle.trace_reader.specs.declared.trace.Trace.{Trace}
use Rattle.trace_reader.proofs.Lines.{add_first, add_longer, add_next, header_line, skip_line}
use Rattle.trace_reader.proofs.Unended.{read_ended}
use Rattle.town.specs.declared.corner.Corner.{Corner}
use Rattle.town.specs.declared.corner.Heading.{Heading}
use Rattle.town.specs.declared.corner.Spot.{Spot}
use Rattle.town.specs.Corners.{IsInTown, along, heading_of, is_border, next_corner, opposite, turned}
use Rattle.town.specs.declared.corner.Heading.TheVariants.{East, North, West, South}
use Rattle.town.specs.Draws.{draw, state_after}
use Rattle.town.specs.Laws.{IsTownTrace, SaysTraces, TracesAreLawful}
use Rattle.town.specs.Traces.{fix_line, fix_near, start_corner, street_fixes, town_trace, town_trace_list, trace_lines, traces_from, traces_text, walk_fixes, way_from}
use Rattle.town.proofs.TraceLines.{IsPlainFix, between_lines, content-read, line-brings, line_part, part-length, row_with}

-- what is read so far: these traces are closed, and this one is open
abbrev pub content_with : List Trace → Trace → Content
content_with closed trace = record { header = Some Untimed; closed = closed; open_trace = Some trace }

-- more fixes of the open trace
abbrev pub longer : Trace → List Fix → Trace
longer trace fixes = record { id = trace.id; fixes = trace.fixes ++ fixes }

line-short : (id : ℕ) (fix : Fix) → id < 2 ^ 32 → IsPlainFix fix → length (fix_line id fix) ≤ 65
line-short id fix small plain = let long = (part-length id fix small plain).1 in omega (arith, long, length-append (line_part id fix) (codes "\n"))

lines-short : (fixes : List Fix) (id : ℕ) → id < 2 ^ 32 → All IsPlainFix fixes → length (flat_map (fix_line id) fixes) ≤ 65 * length fixes
lines-short [] id small all = omega arith
lines-short (fix ∷ rest) id small all =
    let one = line-short id fix small (All-head IsPlainFix fix rest all) in
    let later = lines-short rest id small (All-tail IsPlainFix fix rest all) in
    omega (arith, one, later, length-append (fix_line id fix) (flat_map (fix_line id) rest))

fixes-read : (fixes : List Fix) (bytes lines : ℕ) (closed : List Trace) (trace : Trace) → trace.id < 2 ^ 32 → All IsPlainFix fixes → bytes + 65 * length fixes ≤ 1_000_000_000 → length trace.fixes + length fixes ≤ 100_000
    → read_bytes (between_lines bytes lines (content_with closed trace)) (flat_map (fix_line trace.id) fixes)
    ≡ between_lines (bytes + length (flat_map (fix_line trace.id) fixes)) (lines + length fixes) (content_with closed (longer trace fixes))
fixes-read [] bytes lines closed trace small all few room =
    let b : bytes ≡ bytes + 0 = omega arith in
    let l : lines ≡ lines + 0 = omega arith in
    ap₂ (λ i j. between_lines i j (content_with closed trace)) b l
    ∙ ap (λ t. between_lines (bytes + 0) (lines + 0) (content_with closed (record { id = trace.id; fixes = t }))) (sym (append-nil trace.fixes))
fixes-read (fix ∷ rest) bytes lines closed trace small all few room =
    let f = fix_line trace.id in
    let plain = All-head IsPlainFix fix rest all in
    let next = extend_trace trace (row_with trace.id fix) in
    let added = add_longer (lines + 1) (content_with closed trace) (row_with trace.id fix) trace refl refl (omega (arith, room)) in
    let here = line-brings bytes lines (content_with closed trace) (content_with closed next) trace.id fix small plain (omega (arith, few)) (content-read (lines + 1) trace.id fix (content_with closed trace) (Ok (content_with closed next)) small plain refl added) in
    let size : bytes + length (f fix) + length (flat_map f rest) ≡ bytes + length (flat_map f (fix ∷ rest)) = omega (arith, length-append (f fix) (flat_map f rest)) in
    let count : lines + 1 + length rest ≡ lines + length (fix ∷ rest) = omega arith in
    fold-append read_byte (between_lines bytes lines (content_with closed trace)) (f fix) (flat_map f rest)
    ∙ ap (λ r. read_bytes r (flat_map f rest)) here
    ∙ fixes-read rest (bytes + length (f fix)) (lines + 1) closed next small (All-tail IsPlainFix fix rest all) (omega (arith, few, line-short trace.id fix small plain)) (omega (arith, room, length-append trace.fixes (fix ∷ [])))
    ∙ ap₂ (λ i j. between_lines i j (content_with closed (longer next rest))) size count
    ∙ ap (λ t. between_lines (bytes + length (flat_map f (fix ∷ rest))) (lines + length (fix ∷ rest)) (content_with closed (record { id = trace.id; fixes = t }))) (append_assoc trace.fixes (fix ∷ []) rest)

-- what is closed and open, where some traces are read
abbrev pub content_before : List Trace → Option Trace → Content
content_before closed open_trace = record { header = Some Untimed; closed = closed; open_trace = open_trace }

-- the open trace has another id
abbrev IsOther : Option Trace → ℕ → Type 0
IsOther open_trace id = IfSome open_trace (λ trace. trace.id < id)

-- the first fix of a trace opens it
first-read : (open_trace : Option Trace) (bytes lines : ℕ) (closed : List Trace) (id : ℕ) (fix : Fix) → IsOther open_trace id → id < 2 ^ 32 → IsPlainFix fix → bytes ≤ 1_000_000_000
    → read_bytes (between_lines bytes lines (content_before closed open_trace)) (fix_line id fix)
    ≡ between_lines (bytes + length (fix_line id fix)) (lines + 1) (content_with (closed ++ option_to_list open_trace) (record { id = id; fixes = fix ∷ [] }))
first-read None bytes lines closed id fix other small plain few =
    let new = content_with closed (record { id = id; fixes = fix ∷ [] }) in
    line-brings bytes lines (content_before closed None) new id fix small plain few
    (content-read (lines + 1) id fix (content_before closed None) (Ok new) small plain refl (add_first (lines + 1) (content_before closed None) (row_with id fix) refl))
    ∙ ap (λ c. between_lines (bytes + length (fix_line id fix)) (lines + 1) (content_with c (record { id = id; fixes = fix ∷ [] }))) (sym (append-nil closed))
first-read (Some trace) bytes lines closed id fix other small plain few =
    let new = content_with (closed ++ trace ∷ []) (record { id = id; fixes = fix ∷ [] }) in
    line-brings bytes lines (content_before closed (Some trace)) new id fix small plain few
    (content-read (lines + 1) id fix (content_before closed (Some trace)) (Ok new) small plain refl (add_next (lines + 1) (content_before closed (Some trace)) (row_with id fix) trace refl (λ e. omega (arith, other, e))))

trace-read : (open_trace : Option Trace) (bytes lines : ℕ) (closed : List Trace) (id : ℕ) (fix : Fix) (rest : List Fix) → IsOther open_trace id → id < 2 ^ 32 → All IsPlainFix (fix ∷ rest)
    → bytes + 65 * length (fix ∷ rest) ≤ 1_000_000_000 → length (fix ∷ rest) ≤ 100_000
    → read_bytes (between_lines bytes lines (content_before closed open_trace)) (flat_map (fix_line id) (fix ∷ rest))
    ≡ between_lines (bytes + length (flat_map (fix_line id) (fix ∷ rest))) (lines + length (fix ∷ rest)) (content_with (closed ++ option_to_list open_trace) (record { id = id; fixes = fix ∷ rest }))
trace-read open_trace bytes lines closed id fix rest other small all few room =
    let f = fix_line id in
    let plain = All-head IsPlainFix fix rest all in
    let size : bytes + length (f fix) + length (flat_map f rest) ≡ bytes + length (flat_map f (fix ∷ rest)) = omega (arith, length-append (f fix) (flat_map f rest)) in
    let count : lines + 1 + length rest ≡ lines + length (fix ∷ rest) = omega arith in
    let shut = closed ++ option_to_list open_trace in
    fold-append read_byte (between_lines bytes lines (content_before closed open_trace)) (f fix) (flat_map f rest)
    ∙ ap (λ r. read_bytes r (flat_map f rest)) (first-read open_trace bytes lines closed id fix other small plain (omega (arith, few)))
    ∙ fixes-read rest (bytes + length (f fix)) (lines + 1) shut (record { id = id; fixes = fix ∷ [] }) small (All-tail IsPlainFix fix rest all) (omega (arith, few, line-short id fix small plain)) (omega (arith, room))
    ∙ ap₂ (λ i j. between_lines i j (content_with shut (record { id = id; fixes = fix ∷ rest }))) size count

-- a trace of 20 such fixes
pub record IsPlainTrace (trace : Trace) : Type 0 where
  pub count : length trace.fixes ≡ 20
  pub each : All IsPlainFix trace.fixes

one-read : (trace : Trace) (open_trace : Option Trace) (bytes lines : ℕ) (closed : List Trace) → IsOther open_trace trace.id → trace.id < 2 ^ 32 → IsPlainTrace trace → bytes ≤ 100_000_000
    → read_bytes (between_lines bytes lines (content_before closed open_trace)) (trace_lines trace)
    ≡ between_lines (bytes + length (trace_lines trace)) (lines + 20) (content_with (closed ++ option_to_list open_trace) trace)
one-read trace open_trace bytes lines closed other small plain few = go trace.fixes refl
  where
    go : (fixes : List Fix) → trace.fixes ≡ fixes
        → read_bytes (between_lines bytes lines (content_before closed open_trace)) (trace_lines trace)
        ≡ between_lines (bytes + length (trace_lines trace)) (lines + 20) (content_with (closed ++ option_to_list open_trace) trace)
    go [] same = let no = ap length same in let count = plain.count in absurd (omega (arith, no, count))
    go (fix ∷ rest) same =
        let long : length (fix ∷ rest) ≡ 20 = sym (ap length same) ∙ plain.count in
        let read = trace-read open_trace bytes lines closed trace.id fix rest other small (subst (All IsPlainFix) same plain.each) (omega (arith, few, long)) (omega (arith, long)) in
        subst (λ (fixes : List Fix). read_bytes (between_lines bytes lines (content_before closed open_trace)) (flat_map (fix_line trace.id) fixes)
        ≡ between_lines (bytes + length (flat_map (fix_line trace.id) fixes)) (lines + 20) (content_with (closed ++ option_to_list open_trace) (record { id = trace.id; fixes = fixes }))) (sym same)
        (read ∙ ap (λ k. between_lines (bytes + length (flat_map (fix_line trace.id) (fix ∷ rest))) (lines + k) (content_with (closed ++ option_to_list open_trace) (record { id = trace.id; fixes = fix ∷ rest }))) long)

trace-short : (trace : Trace) → trace.id < 2 ^ 32 → IsPlainTrace trace → length (trace_lines trace) ≤ 1_300
trace-short trace small plain = let short = lines-short trace.fixes trace.id small plain.each in let count = plain.count in omega (arith, short, count)

-- what is read, where these traces follow what is closed and open
content_all : List Trace → Option Trace → List Trace → Content
content_all closed open_trace [] = content_before closed open_trace
content_all closed open_trace (trace ∷ traces) = content_all (closed ++ option_to_list open_trace) (Some trace) traces

-- the end of the file closes them all
all-ended : (traces closed : List Trace) (open_trace : Option Trace) (bytes lines : ℕ)
    → end_reading (between_lines bytes lines (content_all closed open_trace traces)) ≡ record { traces = closed ++ option_to_list open_trace ++ traces; fault = None }
unfolding content_all
all-ended [] closed open_trace bytes lines =
    let content = content_before closed open_trace in
    ap (end_read content) (skip_line (lines + 1) content [] refl)
    ∙ ap (λ t. record { traces = t; fault = None }) (sym (append-nil (closed ++ option_to_list open_trace)))
all-ended (trace ∷ traces) closed open_trace bytes lines =
    all-ended traces (closed ++ option_to_list open_trace) (Some trace) bytes lines
    ∙ ap (λ t. record { traces = t; fault = None }) (append_assoc (closed ++ option_to_list open_trace) (trace ∷ []) traces)

-- The fixes of a walk.
fix-plain : (spot : Spot) (x : ℕ) → spot.x ≤ 2_000_000 → spot.y ≤ 2_000_000 → IsPlainFix (fix_near spot x)
fix-plain spot x small_x small_y =
    let a : draw 1 x 2_001 ≤ 2_000 = omega arith in
    let b : draw 2 x 2_001 ≤ 2_000 = omega arith in
    record {
      x_small = small (spot.x + draw 1 x 2_001) (omega (arith, small_x, a));
      y_small = small (spot.y + draw 2 x 2_001) (omega (arith, small_y, b));
      no_time = refl;
    }
  where
    small : (k : ℕ) → k ≤ 3_000_000 → nat_abs (pos k -ℤ pos 1_000) ≤ 1_000_000_000
    small k h = omega (arith, ints, h)

along-small : (c : Corner) (way : Heading) (far : ℕ) → c.row ≤ 100 → c.column ≤ 100 → far ≤ 10_000 → ((along c way far).x ≤ 2_000_000) × ((along c way far).y ≤ 2_000_000)
along-small c East far row column near = (omega (arith, column, near), omega (arith, row))
along-small c North far row column near = (omega (arith, column), omega (arith, row, near))
along-small c West far row column near = (omega (arith, column), omega (arith, row))
along-small c South far row column near = (omega (arith, column), omega (arith, row))

next-inside : (n : ℕ) (c : Corner) (way : Heading) → IsInTown n c → is_border n c way ≡ false → IsInTown n (next_corner c way)
next-inside n c East inside open_end = record { row_is = inside.row_is; column_is = leb-false n (c.column + 1) open_end }
next-inside n c North inside open_end = record { row_is = leb-false n (c.row + 1) open_end; column_is = inside.column_is }
next-inside n c West inside open_end = let h = inside.column_is in record { row_is = inside.row_is; column_is = omega (arith, h) }
next-inside n c South inside open_end = let h = inside.row_is in record { row_is = omega (arith, h); column_is = inside.column_is }

-- where the way is shut, the opposite one is not
opposite-open : (n : ℕ) (c : Corner) (way : Heading) → 2 ≤ n → IsInTown n c → is_border n c way ≡ true → is_border n c (opposite way) ≡ false
opposite-open n c East two inside shut = let h = leb-true n (c.column + 1) shut in ne_eqb c.column 0 (λ e. omega (arith, h, e, two))
opposite-open n c North two inside shut = let h = leb-true n (c.row + 1) shut in ne_eqb c.row 0 (λ e. omega (arith, h, e, two))
opposite-open n c West two inside shut = let h = eqb-true c.column 0 shut in lt-leb n (c.column + 1) (omega (arith, h, two))
opposite-open n c South two inside shut = let h = eqb-true c.row 0 shut in lt-leb n (c.row + 1) (omega (arith, h, two))

turned-open : (n : ℕ) (c : Corner) (way : Heading) → 2 ≤ n → IsInTown n c → is_border n c (turned n c way) ≡ false
turned-open n c way two inside = elim (cases_Bool (is_border n c way)) [
  | inl t ↦ ap (λ b. is_border n c (cond b (opposite way) way)) t ∙ opposite-open n c way two inside t
  | inr f ↦ ap (λ b. is_border n c (cond b (opposite way) way)) f ∙ f
]

walk-plain : (streets n : ℕ) (c : Corner) (x : ℕ) → 2 ≤ n → n ≤ 100 → IsInTown n c → All IsPlainFix (walk_fixes n streets c x) × (length (walk_fixes n streets c x) ≡ 2 * streets)
unfolding walk_fixes
walk-plain zero n c x two few inside = (All-nil IsPlainFix, refl)
walk-plain (suc streets) n c x two few inside =
    let way = way_from n c x in
    let row = inside.row_is in
    let column = inside.column_is in
    let first = along-small c way 2_500 (omega (arith, row, few)) (omega (arith, column, few)) (omega arith) in
    let second = along-small c way 7_500 (omega (arith, row, few)) (omega (arith, column, few)) (omega arith) in
    let y = state_after 1 x in
    let here = All-cons IsPlainFix (fix_near (along c way 2_500) y) (fix_near (along c way 7_500) (state_after 2 y) ∷ []) (fix-plain (along c way 2_500) y first.0 first.1) (All-cons IsPlainFix (fix_near (along c way 7_500) (state_after 2 y)) [] (fix-plain (along c way 7_500) (state_after 2 y) second.0 second.1) (All-nil IsPlainFix)) in
    let later = walk-plain streets n (next_corner c way) (state_after 5 x) two few (next-inside n c way inside (turned-open n c (heading_of (draw 1 x 4)) two inside)) in
    let count = later.1 in
    (All-append IsPlainFix (street_fixes c way y) (walk_fixes n streets (next_corner c way) (state_after 5 x)) here later.0, omega (arith, count, length-append (street_fixes c way y) (walk_fixes n streets (next_corner c way) (state_after 5 x))))

start-inside : (n x : ℕ) → 2 ≤ n → IsInTown n (start_corner n x)
start-inside n x two = record { row_is = omega (arith, two); column_is = omega (arith, two) }

trace-plain : (n id x : ℕ) → 2 ≤ n → n ≤ 100 → IsPlainTrace (town_trace n id x)
trace-plain n id x two few =
    let walk = walk-plain 10 n (start_corner n x) (state_after 2 x) two few (start-inside n x two) in
    record { count = walk.1; each = walk.0 }

-- so many traces from this number on
traces-read : (count n id x : ℕ) (open_trace : Option Trace) (bytes lines : ℕ) (closed : List Trace) → 2 ≤ n → n ≤ 100 → IsOther open_trace id → id + count ≤ 2_000 → bytes ≤ 1_300 * id + 10
    → read_bytes (between_lines bytes lines (content_before closed open_trace)) (flat_map trace_lines (traces_from n count id x))
    ≡ between_lines (bytes + length (flat_map trace_lines (traces_from n count id x))) (lines + 20 * count) (content_all closed open_trace (traces_from n count id x))
unfolding traces_from content_all
traces-read zero n id x open_trace bytes lines closed two few other room low =
    let b : bytes ≡ bytes + 0 = omega arith in
    let l : lines ≡ lines + 20 * 0 = omega arith in
    ap₂ (λ i j. between_lines i j (content_before closed open_trace)) b l
traces-read (suc count) n id x open_trace bytes lines closed two few other room low =
    let trace = town_trace n id x in
    let rest = traces_from n count (id + 1) (state_after 52 x) in
    let plain = trace-plain n id x two few in
    let one = one-read trace open_trace bytes lines closed other (omega (arith, room)) plain (omega (arith, room, low)) in
    let short = trace-short trace (omega (arith, room)) plain in
    let size : bytes + length (trace_lines trace) + length (flat_map trace_lines rest) ≡ bytes + length (flat_map trace_lines (trace ∷ rest)) = omega (arith, length-append (trace_lines trace) (flat_map trace_lines rest)) in
    let lines_are : lines + 20 + 20 * count ≡ lines + 20 * suc count = omega arith in
    fold-append read_byte (between_lines bytes lines (content_before closed open_trace)) (trace_lines trace) (flat_map trace_lines rest)
    ∙ ap (λ r. read_bytes r (flat_map trace_lines rest)) one
    ∙ traces-read count n (id + 1) (state_after 52 x) (Some trace) (bytes + length (trace_lines trace)) (lines + 20) (closed ++ option_to_list open_trace) two few (omega arith) (omega (arith, room)) (omega (arith, low, short))
    ∙ ap₂ (λ i j. between_lines i j (content_all (closed ++ option_to_list open_trace) (Some trace) rest)) size lines_are

-- the header is read
header-read : read_bytes (reads nothing_read) (codes "trace,x,y\n") ≡ between_lines 10 1 (content_before [] None)
header-read =
    read_ended nothing_read (codes "trace,x,y") (All-from_recursion (λ b. (b == 10) ≡ false) (codes "trace,x,y") (refl, (refl, (refl, (refl, (refl, (refl, (refl, (refl, (refl, tt)))))))))) (omega arith) (omega arith)
    ∙ ap (end_line (record { bytes = 9; lines = 0; line = codes "trace,x,y"; content = no_content })) (header_line 1 no_content (codes "trace,x,y") Untimed refl refl refl)

file-read : (n t seed : ℕ) → 2 ≤ n → n ≤ 100 → t ≤ 2_000 → end_reading (reading_of (traces_text n t seed)) ≡ record { traces = town_trace_list n t seed; fault = None }
unfolding reading_of
file-read n t seed two few count =
    let traces = town_trace_list n t seed in
    ap end_reading (fold-append read_byte (reads nothing_read) (codes "trace,x,y\n") (flat_map trace_lines traces)
    ∙ ap (λ r. read_bytes r (flat_map trace_lines traces)) header-read
    ∙ traces-read t n 0 seed None 10 1 [] two few tt (omega (arith, count)) (omega arith))
    ∙ all-ended traces [] None (10 + length (flat_map trace_lines traces)) (1 + 20 * t)

says : (n t seed : ℕ) → 2 ≤ n → n ≤ 100 → t ≤ 2_000 → SaysTraces (traces_text n t seed) (town_trace_list n t seed)
unfolding file_fault file_traces
says n t seed two few count = record { faultless = ap (λ (o : Outcome). o.fault) (file-read n t seed two few count); are = ap (λ (o : Outcome). o.traces) (file-read n t seed two few count) }

lawful : (trace : Trace) → IsPlainTrace trace → IsTownTrace trace
lawful trace plain =
    let count = plain.count in
    record {
      lawful = record {
        some = omega (arith, count);
        few = omega (arith, count);
        in_range = All-weaker IsPlainFix (λ fix. InRange (point_of_fix fix)) (λ fix h. record { x_abs = h.x_small; y_abs = h.y_small }) trace.fixes plain.each;
      };
      fixes = count;
    }

each-lawful : (count n id x : ℕ) → 2 ≤ n → n ≤ 100 → All IsTownTrace (traces_from n count id x) × (length (traces_from n count id x) ≡ count)
unfolding traces_from
each-lawful zero n id x two few = (All-nil IsTownTrace, refl)
each-lawful (suc count) n id x two few =
    let later = each-lawful count n (id + 1) (state_after 52 x) two few in
    let size = later.1 in
    (All-cons IsTownTrace (town_trace n id x) (traces_from n count (id + 1) (state_after 52 x)) (lawful (town_trace n id x) (trace-plain n id x two few)) later.0, omega (arith, size))

pub traces_are_lawful : TracesAreLawful
traces_are_lawful n t seed two few some count =
    let each = each-lawful t n 0 seed two few in
    record { says = says n t seed two few count; count = each.1; each = each.0 }
