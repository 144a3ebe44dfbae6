-- The file that lists traces is read as these traces.
use Rattle.std.proofs.Common.{◌≡◌, ◌≢◌, ◌⊎◌, ℕ, ◌+◌, ◌-◌, ◌<◌, ◌≤◌, ◌^◌, ◌==◌, false, List, [], ◌∷◌, ◌++◌, All, length, get_or, map, ℤ, nat_abs, Option, Some, None, option_to_list, IfSome, Result, Ok, codes, refl, sym, ap, ap₂, subst, ◌∙◌, inl, arith, append_assoc, length-append}
use Rattle.std.specs.List.{flat_map, list_all, slice_split}
use Rattle.std.proofs.lemmas.Bool.{ne_eqb}
use Rattle.std.proofs.lemmas.List.{append-nil, get_or_append_left, get_or-append-add}
use Rattle.std.proofs.lemmas.List.Elements.{All-append, All-cons, All-head, All-nil, All-tail}
use Rattle.std.proofs.lemmas.List.Splits.{slice_split_at, slice_split_none}
use Rattle.decimal_text.specs.Blank.{is_blank}
use Rattle.decimal_text.specs.Number.{decimal, signed_decimal, signed_within, unsigned_within}
use Rattle.decimal_text.proofs.Laws.{length-decimal, signed_within-signed_decimal, unsigned_within-decimal}
use Rattle.polyline_geometry.specs.Plane.{InRange}
use Rattle.trace_reader.specs.Content.{Content, add_row, extend_trace, no_content, read_line, without_return}
use Rattle.trace_reader.specs.LineByLine.{IsReadByLine, IsWithinLimits, after_line, lines_in, read_lines}
use Rattle.trace_reader.specs.Reading.{Outcome, line_limit}
use Rattle.trace_reader.specs.Row.{coordinate_of, fields_of, row_of, u32_of}
use Rattle.trace_reader.specs.Trace.{point_of_fix}
use Rattle.trace_reader.specs.declared.row.Header.TheVariants.{Timed}
use Rattle.trace_reader.specs.declared.row.Row.{Row}
use Rattle.trace_reader.specs.declared.trace.Fix.{Fix}
use Rattle.trace_reader.specs.declared.trace.Trace.{Trace}
use Rattle.trace_reader.specs.declared.fault.TraceFault.{TraceFault}
use Rattle.trace_reader.proofs.Lines.{add_first, add_longer, add_next, header_line, row_line, skip_line}
use Rattle.listed_files.specs.TraceText.{DoIdsChange, IsListedTrace, TracesAreRead, fix_text, trace_text, traces_text}
use Rattle.listed_files.proofs.Numerals.{in-decimal, in-signed, length-signed, none-is, solid-at, trim-number}

-- ---- the line of a position

-- what a position needs so that its line is read back
record Fits (id : ℕ) (fix : Fix) : Type 0 where
  id_small : id < 2 ^ 32
  x_small : nat_abs fix.x ≤ 1_000_000_000
  y_small : nat_abs fix.y ≤ 1_000_000_000
  time_small : fix.time < 2 ^ 32

no-byte : (c : ℕ) → (c < 45) ⊎ (57 < c) → (44 == c) ≡ false → (id : ℕ) (fix : Fix) → Fits id fix → All (λ b. (b == c) ≡ false) (fix_text id fix)
no-byte c outside comma id fix fits =
    let P = λ (b : ℕ). (b == c) ≡ false in
    let id_small = fits.id_small in
    let x_small = fits.x_small in
    let y_small = fits.y_small in
    let time_small = fits.time_small in
    let a = none-is c outside (decimal id) (in-decimal id (omega (arith, id_small))) in
    let x = none-is c outside (signed_decimal fix.x) (in-signed fix.x (omega (arith, x_small))) in
    let y = none-is c outside (signed_decimal fix.y) (in-signed fix.y (omega (arith, y_small))) in
    let t = none-is c outside (decimal fix.time) (in-decimal fix.time (omega (arith, time_small))) in
    let sep = All-cons P 44 [] comma (All-nil P) in
    All-append P (decimal id ++ codes "," ++ signed_decimal fix.x ++ codes "," ++ signed_decimal fix.y ++ codes ",") (decimal fix.time)
    (All-append P (decimal id ++ codes "," ++ signed_decimal fix.x ++ codes "," ++ signed_decimal fix.y) (codes ",")
    (All-append P (decimal id ++ codes "," ++ signed_decimal fix.x ++ codes ",") (signed_decimal fix.y)
    (All-append P (decimal id ++ codes "," ++ signed_decimal fix.x) (codes ",") (All-append P (decimal id ++ codes ",") (signed_decimal fix.x) (All-append P (decimal id) (codes ",") a sep) x) sep) y) sep) t

text-length : (id : ℕ) (fix : Fix) → Fits id fix → (1 ≤ length (fix_text id fix)) × (length (fix_text id fix) ≤ 85)
text-length id fix fits =
    let id_small = fits.id_small in
    let x_small = fits.x_small in
    let y_small = fits.y_small in
    let time_small = fits.time_small in
    let a = length-decimal id (omega (arith, id_small)) in
    let x = (length-signed fix.x (omega (arith, x_small))).1 in
    let y = (length-signed fix.y (omega (arith, y_small))).1 in
    let t = (length-decimal fix.time (omega (arith, time_small))).1 in
    let all : length (fix_text id fix) ≡ length (decimal id) + 1 + length (signed_decimal fix.x) + 1 + length (signed_decimal fix.y) + 1 + length (decimal fix.time) = simp length-append in
    (omega (arith, a.0, all), omega (arith, a.1, x, y, t, all))

text-apart : (id : ℕ) (fix : Fix) → fix_text id fix ≡ decimal id ++ 44 ∷ (signed_decimal fix.x ++ 44 ∷ (signed_decimal fix.y ++ 44 ∷ decimal fix.time))
text-apart id fix = simp append_assoc

fields-are : (id : ℕ) (fix : Fix) → Fits id fix → fields_of (fix_text id fix) ≡ decimal id ∷ signed_decimal fix.x ∷ signed_decimal fix.y ∷ decimal fix.time ∷ []
fields-are id fix fits =
    let p = λ (b : ℕ). b == 44 in
    let id_small = fits.id_small in
    let x_small = fits.x_small in
    let y_small = fits.y_small in
    let time_small = fits.time_small in
    let a = none-is 44 (inl (omega arith)) (decimal id) (in-decimal id (omega (arith, id_small))) in
    let x = none-is 44 (inl (omega arith)) (signed_decimal fix.x) (in-signed fix.x (omega (arith, x_small))) in
    let y = none-is 44 (inl (omega arith)) (signed_decimal fix.y) (in-signed fix.y (omega (arith, y_small))) in
    let t = none-is 44 (inl (omega arith)) (decimal fix.time) (in-decimal fix.time (omega (arith, time_small))) in
    ap (slice_split p) (text-apart id fix)
    ∙ slice_split_at p (decimal id) 44 (signed_decimal fix.x ++ 44 ∷ (signed_decimal fix.y ++ 44 ∷ decimal fix.time)) a refl
    ∙ ap (λ l. decimal id ∷ l) (slice_split_at p (signed_decimal fix.x) 44 (signed_decimal fix.y ++ 44 ∷ decimal fix.time) x refl)
    ∙ ap (λ l. decimal id ∷ signed_decimal fix.x ∷ l) (slice_split_at p (signed_decimal fix.y) 44 (decimal fix.time) y refl)
    ∙ ap (λ l. decimal id ∷ signed_decimal fix.x ∷ signed_decimal fix.y ∷ l) (slice_split_none p (decimal fix.time) t)

pub number-read : (n : ℕ) → n < 2 ^ 32 → u32_of (decimal n) ≡ Ok n
number-read n small =
    ap (unsigned_within 4_294_967_295) (trim-number (decimal n) (in-decimal n (omega (arith, small))) (length-decimal n (omega (arith, small))).0)
    ∙ unsigned_within-decimal 4_294_967_295 n (omega (arith, small)) (omega arith)

pub coordinate-read : (z : ℤ) → nat_abs z ≤ 1_000_000_000 → coordinate_of (signed_decimal z) ≡ Ok z
coordinate-read z small =
    ap (signed_within 1_000_000_000) (trim-number (signed_decimal z) (in-signed z (omega (arith, small))) (length-signed z (omega (arith, small))).0)
    ∙ signed_within-signed_decimal 1_000_000_000 z small (omega arith)

abbrev row_with : ℕ → Fix → Row
row_with id fix = record { id = id; fix = fix }

row-read : (line id : ℕ) (fix : Fix) → Fits id fix → Ok (row_with id fix) ≡ row_of Timed line (fields_of (fix_text id fix))
unfolding row_of
row-read line id fix fits =
    rw (fields-are id fix fits, number-read id fits.id_small, coordinate-read fix.x fits.x_small, coordinate-read fix.y fits.y_small, number-read fix.time fits.time_small) refl

-- nothing is dropped of a line, and it is not skipped

pub last-place : (base y : List ℕ) → 1 ≤ length y → get_or (base ++ y) (length (base ++ y) - 1) 0 ≡ get_or y (length y - 1) 0
last-place base y some =
    let place : length (base ++ y) - 1 ≡ length base + (length y - 1) = omega (arith, length-append base y, some) in
    ap (λ i. get_or (base ++ y) i 0) place ∙ get_or-append-add base y (length y - 1) 0

not-return : (id : ℕ) (fix : Fix) → Fits id fix → without_return (fix_text id fix) ≡ fix_text id fix
not-return id fix fits =
    let time_small = fits.time_small in
    let t = decimal fix.time in
    let some = (length-decimal fix.time (omega (arith, time_small))).0 in
    let last = last-place (decimal id ++ codes "," ++ signed_decimal fix.x ++ codes "," ++ signed_decimal fix.y ++ codes ",") t some in
    let byte = in-decimal fix.time (omega (arith, time_small)) (length t - 1) 0 (omega (arith, some)) in
    let other : (get_or (fix_text id fix) (length (fix_text id fix) - 1) 0 == 13) ≡ false = ne_eqb _ 13 (λ e. omega (arith, byte.0, e, last)) in
    rw other refl

pub first-solid : (text : List ℕ) → 1 ≤ length text → is_blank (get_or text 0 0) ≡ false → list_all is_blank text ≡ false
first-solid [] some solid = absurd (omega (arith, some))
first-solid (c ∷ text) some solid = rw solid refl

not-skipped : (id : ℕ) (fix : Fix) → Fits id fix → list_all is_blank (without_return (fix_text id fix)) ≡ false
not-skipped id fix fits =
    let id_small = fits.id_small in
    let some = (length-decimal id (omega (arith, id_small))).0 in
    let rest = signed_decimal fix.x ++ 44 ∷ (signed_decimal fix.y ++ 44 ∷ decimal fix.time) in
    let first : get_or (fix_text id fix) 0 0 ≡ get_or (decimal id) 0 0 = ap (λ t. get_or t 0 0) (text-apart id fix) ∙ get_or_append_left (decimal id) (44 ∷ (signed_decimal fix.x ++ 44 ∷ (signed_decimal fix.y ++ 44 ∷ decimal fix.time))) 0 0 (omega (arith, some)) in
    ap (list_all is_blank) (not-return id fix fits)
    ∙ first-solid (fix_text id fix) (text-length id fix fits).0 (ap is_blank first ∙ solid-at (decimal id) 0 (in-decimal id (omega (arith, id_small))) (omega (arith, some)))

-- a line brings its row
line-brings : (line id : ℕ) (fix : Fix) (content : Content) (result : Result Content TraceFault) → Fits id fix → content.header ≡ Some Timed
    → add_row line content (row_with id fix) ≡ result → read_line line content (fix_text id fix) ≡ result
line-brings line id fix content result fits header added =
    row_line line content (fix_text id fix) Timed (row_with id fix) result (not-skipped id fix fits) header
    (row-read line id fix fits ∙ ap (λ t. row_of Timed line (fields_of t)) (sym (not-return id fix fits))) added

-- ---- the lines of the file

abbrev fix_lines : Trace → List (List ℕ)
fix_lines trace = map (fix_text trace.id) trace.fixes

lines-of_fixes : (fixes : List Fix) (id : ℕ) (rest : List ℕ) → All (Fits id) fixes
    → lines_in (flat_map (λ fix. fix_text id fix ++ codes "\n") fixes ++ rest) ≡ map (fix_text id) fixes ++ lines_in rest
lines-of_fixes [] id rest all = refl
lines-of_fixes (fix ∷ fixes) id rest all =
    let later = flat_map (λ (f : Fix). fix_text id f ++ codes "\n") fixes in
    ap lines_in (append_assoc (fix_text id fix ++ codes "\n") later rest ∙ append_assoc (fix_text id fix) (codes "\n") (later ++ rest))
    ∙ slice_split_at (λ byte. byte == 10) (fix_text id fix) 10 (later ++ rest) (no-byte 10 (inl (omega arith)) refl id fix (All-head (Fits id) fix fixes all)) refl
    ∙ ap (λ lines. fix_text id fix ∷ lines) (lines-of_fixes fixes id rest (All-tail (Fits id) fix fixes all))

abbrev FitsTrace : Trace → Type 0
FitsTrace trace = All (Fits trace.id) trace.fixes

lines-of_traces : (traces : List Trace) → All FitsTrace traces → lines_in (flat_map trace_text traces) ≡ flat_map fix_lines traces ++ [] ∷ []
lines-of_traces [] all = refl
lines-of_traces (trace ∷ traces) all =
    lines-of_fixes trace.fixes trace.id (flat_map trace_text traces) (All-head FitsTrace trace traces all)
    ∙ ap (λ lines. fix_lines trace ++ lines) (lines-of_traces traces (All-tail FitsTrace trace traces all))
    ∙ sym (append_assoc (fix_lines trace) (flat_map fix_lines traces) ([] ∷ []))

lines-of_text : (traces : List Trace) → All FitsTrace traces → lines_in (traces_text traces) ≡ codes "trace,x,y,time" ∷ (flat_map fix_lines traces ++ [] ∷ [])
lines-of_text traces all = ap (λ lines. codes "trace,x,y,time" ∷ lines) (lines-of_traces traces all)

abbrev IsShort : List ℕ → Type 0
IsShort line = length line ≤ line_limit

short-fixes : (fixes : List Fix) (id : ℕ) → All (Fits id) fixes → All IsShort (map (fix_text id) fixes)
short-fixes [] id all = All-nil IsShort
short-fixes (fix ∷ fixes) id all =
    let here = (text-length id fix (All-head (Fits id) fix fixes all)).1 in
    All-cons IsShort (fix_text id fix) (map (fix_text id) fixes) (omega (arith, here)) (short-fixes fixes id (All-tail (Fits id) fix fixes all))

short-traces : (traces : List Trace) → All FitsTrace traces → All IsShort (flat_map fix_lines traces)
short-traces [] all = All-nil IsShort
short-traces (trace ∷ traces) all =
    All-append IsShort (fix_lines trace) (flat_map fix_lines traces)
    (short-fixes trace.fixes trace.id (All-head FitsTrace trace traces all))
    (short-traces traces (All-tail FitsTrace trace traces all))

-- ---- the lines, one after the other

-- these traces are closed, and this one may be open
abbrev content_with : List Trace → Option Trace → Content
content_with closed open_trace = record { header = Some Timed; closed = closed; open_trace = open_trace }

abbrev longer : Trace → List Fix → Trace
longer trace fixes = record { id = trace.id; fixes = trace.fixes ++ fixes }

fixes-read : (fixes : List Fix) (number : ℕ) (closed : List Trace) (trace : Trace) (lines : List (List ℕ)) → All (Fits trace.id) fixes → length trace.fixes + length fixes ≤ 100_000
    → read_lines number (content_with closed (Some trace)) (map (fix_text trace.id) fixes ++ lines)
    ≡ read_lines (number + length fixes) (content_with closed (Some (longer trace fixes))) lines
fixes-read [] number closed trace lines all few =
    let same : number ≡ number + 0 = omega arith in
    ap₂ (λ (i : ℕ) (fixes : List Fix). read_lines i (content_with closed (Some (record { id = trace.id; fixes = fixes }))) lines) same (sym (append-nil trace.fixes))
fixes-read (fix ∷ fixes) number closed trace lines all few =
    let content = content_with closed (Some trace) in
    let next = extend_trace trace (row_with trace.id fix) in
    let added = add_longer number content (row_with trace.id fix) trace refl refl (omega (arith, few)) in
    let count : number + 1 + length fixes ≡ number + length (fix ∷ fixes) = omega arith in
    ap (λ read. after_line content read (λ after. read_lines (number + 1) after (map (fix_text trace.id) fixes ++ lines)))
    (line-brings number trace.id fix content (Ok (content_with closed (Some next))) (All-head (Fits trace.id) fix fixes all) refl added)
    ∙ fixes-read fixes (number + 1) closed next lines (All-tail (Fits trace.id) fix fixes all) (omega (arith, few, length-append trace.fixes (fix ∷ [])))
    ∙ ap₂ (λ (i : ℕ) (all_fixes : List Fix). read_lines i (content_with closed (Some (record { id = trace.id; fixes = all_fixes }))) lines) count (append_assoc trace.fixes (fix ∷ []) fixes)

-- the open trace has another id
abbrev IsOther : Option Trace → ℕ → Type 0
IsOther open_trace id = IfSome open_trace (λ trace. trace.id ≢ id)

first-read : (open_trace : Option Trace) (number : ℕ) (closed : List Trace) (id : ℕ) (fix : Fix) → IsOther open_trace id → Fits id fix
    → read_line number (content_with closed open_trace) (fix_text id fix) ≡ Ok (content_with (closed ++ option_to_list open_trace) (Some (record { id = id; fixes = fix ∷ [] })))
first-read None number closed id fix other fits =
    line-brings number id fix (content_with closed None) (Ok (content_with closed (Some (record { id = id; fixes = fix ∷ [] })))) fits refl
    (add_first number (content_with closed None) (row_with id fix) refl)
    ∙ ap (λ shut. let r : Result Content TraceFault = Ok (content_with shut (Some (record { id = id; fixes = fix ∷ [] }))) in r) (sym (append-nil closed))
first-read (Some trace) number closed id fix other fits =
    line-brings number id fix (content_with closed (Some trace)) (Ok (content_with (closed ++ trace ∷ []) (Some (record { id = id; fixes = fix ∷ [] })))) fits refl
    (add_next number (content_with closed (Some trace)) (row_with id fix) trace refl other)

trace-read : (fixes : List Fix) (open_trace : Option Trace) (number : ℕ) (closed : List Trace) (id : ℕ) (lines : List (List ℕ)) → IsOther open_trace id → All (Fits id) fixes
    → 1 ≤ length fixes → length fixes ≤ 100_000
    → read_lines number (content_with closed open_trace) (map (fix_text id) fixes ++ lines)
    ≡ read_lines (number + length fixes) (content_with (closed ++ option_to_list open_trace) (Some (record { id = id; fixes = fixes }))) lines
trace-read [] open_trace number closed id lines other all some few = absurd (omega (arith, some))
trace-read (fix ∷ fixes) open_trace number closed id lines other all some few =
    let content = content_with closed open_trace in
    let shut = closed ++ option_to_list open_trace in
    let count : number + 1 + length fixes ≡ number + length (fix ∷ fixes) = omega arith in
    ap (λ read. after_line content read (λ after. read_lines (number + 1) after (map (fix_text id) fixes ++ lines)))
    (first-read open_trace number closed id fix other (All-head (Fits id) fix fixes all))
    ∙ fixes-read fixes (number + 1) shut (record { id = id; fixes = fix ∷ [] }) lines (All-tail (Fits id) fix fixes all) (omega (arith, few))
    ∙ ap (λ (i : ℕ). read_lines i (content_with shut (Some (record { id = id; fixes = fix ∷ fixes }))) lines) count

-- no trace has the id of the one before it, the open one first
abbrev DoFollow : Option Trace → List Trace → Type 0
DoFollow None traces = DoIdsChange traces
DoFollow (Some trace) traces = DoIdsChange (trace ∷ traces)

follow-on : (open_trace : Option Trace) (trace : Trace) (traces : List Trace) → DoFollow open_trace (trace ∷ traces) → IsOther open_trace trace.id × DoIdsChange (trace ∷ traces)
follow-on None trace traces follow = (tt, follow)
follow-on (Some before) trace traces follow = follow

all-read : (traces : List Trace) (open_trace : Option Trace) (number : ℕ) (closed : List Trace) → All IsListedTrace traces → All FitsTrace traces → DoFollow open_trace traces
    → read_lines number (content_with closed open_trace) (flat_map fix_lines traces ++ [] ∷ []) ≡ record { traces = closed ++ option_to_list open_trace ++ traces; fault = None }
all-read [] open_trace number closed each all follow =
    let content = content_with closed open_trace in
    ap (λ read. after_line content read (λ after. read_lines (number + 1) after [])) (skip_line number content [] refl)
    ∙ ap (λ (traces : List Trace). let o : Outcome = record { traces = traces; fault = None } in o) (sym (append-nil (closed ++ option_to_list open_trace)))
all-read (trace ∷ traces) open_trace number closed each all follow =
    let content = content_with closed open_trace in
    let shut = closed ++ option_to_list open_trace in
    let one = All-head IsListedTrace trace traces each in
    let next = follow-on open_trace trace traces follow in
    ap (read_lines number content) (append_assoc (fix_lines trace) (flat_map fix_lines traces) ([] ∷ []))
    ∙ trace-read trace.fixes open_trace number closed trace.id (flat_map fix_lines traces ++ [] ∷ []) next.0 (All-head FitsTrace trace traces all) one.lawful.some one.lawful.few
    ∙ all-read traces (Some trace) (number + length trace.fixes) shut (All-tail IsListedTrace trace traces each) (All-tail FitsTrace trace traces all) next.1
    ∙ ap (λ (ts : List Trace). let o : Outcome = record { traces = ts; fault = None } in o) (append_assoc shut (trace ∷ []) traces)

-- ---- the file

fits-of : (trace : Trace) → IsListedTrace trace → FitsTrace trace
fits-of trace listed i d low =
    let within : InRange (point_of_fix (get_or trace.fixes i d)) = listed.lawful.in_range i d low in
    record { id_small = listed.id; x_small = within.x_abs; y_small = within.y_abs; time_small = listed.times i d low }

header-read : read_line 1 no_content (codes "trace,x,y,time") ≡ Ok (content_with [] None)
header-read = header_line 1 no_content (codes "trace,x,y,time") Timed refl refl refl

pub traces_are_read : ((bytes : List ℕ) → IsWithinLimits bytes → IsReadByLine bytes) → TracesAreRead
traces_are_read by_line traces listed =
    let all : All FitsTrace traces = λ i d low. fits-of (get_or traces i d) (listed.each i d low) in
    let lines = flat_map fix_lines traces ++ [] ∷ [] in
    let lines_are = lines-of_text traces all in
    let header_short : IsShort (codes "trace,x,y,time") = omega arith in
    let end_short : IsShort [] = omega arith in
    let short = All-cons IsShort (codes "trace,x,y,time") lines header_short (All-append IsShort (flat_map fix_lines traces) ([] ∷ []) (short-traces traces all) (All-cons IsShort [] [] end_short (All-nil IsShort))) in
    let read =
    sym (by_line (traces_text traces) (record { file = listed.bytes; lines = subst (All IsShort) (sym lines_are) short }))
    ∙ ap (read_lines 1 no_content) lines_are
    ∙ ap (λ read. after_line no_content read (λ after. read_lines 2 after lines)) header-read
    ∙ all-read traces None 2 [] listed.each all listed.change in
    record { faultless = ap (λ (o : Outcome). o.fault) read; are = ap (λ (o : Outcome). o.traces) read }
