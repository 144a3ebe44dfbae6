-- Each trace that is closed is lawful.
use Rattle.std.proofs.Common.{◌≡◌, ℕ, ◌+◌, ◌<◌, Bool, true, false, ◌==◌, cond, nat_lt, nat_le, List, [], ◌∷◌, length, ℤ, Option, Some, None, Result, Ok, Err, option_to_list, refl, sym, subst, arith, length-append}
use Rattle.std.specs.List.{All, list_all}
use Rattle.std.specs.Option.{IfSome}
use Rattle.std.proofs.lemmas.Bool.{ltb-true}
use Rattle.std.proofs.lemmas.List.Elements.{All-nil, All-push, All-append, All-cons}
use Rattle.polyline_geometry.specs.Plane.{InRange}
use Rattle.trace_reader.proofs.Magnitudes.{abs-signed_within}
use Rattle.decimal_text.specs.Blank.{is_blank, trim}
use Rattle.decimal_text.specs.declared.number.NumberFault.{NumberFault}
use Rattle.trace_reader.specs.Row.{header_of, fields_of, row_of, numbers_of, u32_of, time_of, coordinate_of}
use Rattle.trace_reader.specs.Content.{Content, add_to, add_row, add_header, add_read, add_text, read_line, without_return, begin_trace, extend_trace, point_limit}
use Rattle.trace_reader.specs.Reading.{Progress, Reading, reads, refused, read_byte, read_bytes, reading_of, nothing_read, end_line, closed, closed_of, end_content, end_read, end_reading, file_traces, file_limit, line_limit}
use Rattle.trace_reader.specs.Trace.{IsLawfulTrace, point_of_fix}
use Rattle.trace_reader.specs.declared.row.Header.{Header}
use Rattle.trace_reader.specs.declared.row.Header.TheVariants.{Untimed, Timed}
use Rattle.trace_reader.specs.declared.row.Row.{Row}
use Rattle.trace_reader.specs.declared.trace.Fix.{Fix}
use Rattle.trace_reader.specs.declared.trace.Trace.{Trace}
use Rattle.trace_reader.specs.declared.fault.TraceFault.{TraceFault}

-- the coordinates of a fix are in range
abbrev pub HasPlace : Fix → Type 0
HasPlace fix = InRange (point_of_fix fix)

numbers-place : (line : ℕ) (id time : Result ℕ NumberFault) (x y : Result ℤ NumberFault) (a b : List ℕ) (row : Row) → x ≡ coordinate_of a → y ≡ coordinate_of b
    → numbers_of line id x y time ≡ Ok row → HasPlace row.fix
numbers-place line (Ok i) (Ok t) (Ok x) (Ok y) a b row ex ey e =
    let same : record { id = i; fix = record { x = x; y = y; time = t } } ≡ row = cc e in
    subst (λ (r : Row). HasPlace r.fix) same (record { x_abs = abs-signed_within 1_000_000_000 x (trim a) (sym ex); y_abs = abs-signed_within 1_000_000_000 y (trim b) (sym ey) })
numbers-place line (Err f) time x y a b row ex ey e = absurd (cc e)
numbers-place line (Ok i) (Err f) (Err g) y a b row ex ey e = absurd (cc e)
numbers-place line (Ok i) (Err f) (Ok x) (Err g) a b row ex ey e = absurd (cc e)
numbers-place line (Ok i) (Err f) (Ok x) (Ok y) a b row ex ey e = absurd (cc e)
numbers-place line (Ok i) (Ok t) (Err f) y a b row ex ey e = absurd (cc e)
numbers-place line (Ok i) (Ok t) (Ok x) (Err f) a b row ex ey e = absurd (cc e)

row-place : (header : Header) (line : ℕ) (fields : List (List ℕ)) (row : Row) → row_of header line fields ≡ Ok row → HasPlace row.fix
unfolding row_of
row-place Untimed line [] row e = absurd (cc e)
row-place Untimed line (a ∷ []) row e = absurd (cc e)
row-place Untimed line (a ∷ b ∷ []) row e = absurd (cc e)
row-place Untimed line (a ∷ b ∷ c ∷ []) row e = numbers-place line (u32_of a) (time_of None) (coordinate_of b) (coordinate_of c) b c row refl refl e
row-place Untimed line (a ∷ b ∷ c ∷ d ∷ rest) row e = absurd (cc e)
row-place Timed line [] row e = absurd (cc e)
row-place Timed line (a ∷ []) row e = absurd (cc e)
row-place Timed line (a ∷ b ∷ []) row e = absurd (cc e)
row-place Timed line (a ∷ b ∷ c ∷ []) row e = absurd (cc e)
row-place Timed line (a ∷ b ∷ c ∷ d ∷ []) row e = numbers-place line (u32_of a) (time_of (Some d)) (coordinate_of b) (coordinate_of c) b c row refl refl e
row-place Timed line (a ∷ b ∷ c ∷ d ∷ f ∷ rest) row e = absurd (cc e)

-- the closed traces and the open one are lawful
pub record IsLawful (content : Content) : Type 0 where
  pub closed : All IsLawfulTrace content.closed
  pub open_trace : IfSome content.open_trace IsLawfulTrace

IsLawfulRead : Result Content TraceFault → Type 0
IsLawfulRead (Ok content) = IsLawful content
IsLawfulRead (Err fault) = Unit {0}

IsLawfulReading : Reading → Type 0
IsLawfulReading (reads p) = IsLawful p.content
IsLawfulReading (refused closed fault) = All IsLawfulTrace closed

by_choice : {A : Type 0} (P : A → Type 0) (b : Bool) (x y : A) → (b ≡ true → P x) → (b ≡ false → P y) → P (cond b x y)
by_choice P true x y f g = f refl
by_choice P false x y f g = g refl

begun : (row : Row) → HasPlace row.fix → IsLawfulTrace (begin_trace row)
begun row place = record { some = omega arith; few = omega arith; in_range = All-cons HasPlace row.fix [] place (All-nil HasPlace) }

extended : (trace : Trace) (row : Row) → IsLawfulTrace trace → HasPlace row.fix → length trace.fixes < point_limit → IsLawfulTrace (extend_trace trace row)
extended trace row lawful place short = record {
  some = omega (arith, length-append trace.fixes (row.fix ∷ []));
  few = omega (arith, length-append trace.fixes (row.fix ∷ []));
  in_range = All-push HasPlace trace.fixes row.fix lawful.in_range place;
}

lawful_add : (open_trace : Option Trace) (line : ℕ) (content : Content) (row : Row) → All IsLawfulTrace content.closed → IfSome open_trace IsLawfulTrace → HasPlace row.fix
    → IsLawfulRead (add_to open_trace line content row)
unfolding IsLawfulRead
lawful_add None line content row closed some place = record { closed = closed; open_trace = begun row place }
lawful_add (Some trace) line content row closed some place =
    by_choice IsLawfulRead (trace.id == row.id) _ _ (λ _.
    by_choice IsLawfulRead (nat_lt (length trace.fixes) point_limit) _ _
    (λ short. record { closed = closed; open_trace = extended trace row some place (ltb-true (length trace.fixes) point_limit short) })
    (λ _. tt))
    (λ _. record { closed = All-push IsLawfulTrace content.closed trace closed some; open_trace = begun row place })

lawful_row : (line : ℕ) (content : Content) (row : Row) → IsLawful content → HasPlace row.fix → IsLawfulRead (add_row line content row)
unfolding add_row
lawful_row line content row lawful place = lawful_add content.open_trace line content row lawful.closed lawful.open_trace place

lawful_read : (line : ℕ) (content : Content) (row : Result Row TraceFault) → IsLawful content → ((r : Row) → row ≡ Ok r → HasPlace r.fix) → IsLawfulRead (add_read line content row)
unfolding IsLawfulRead
lawful_read line content (Ok row) lawful place = lawful_row line content row lawful (place row refl)
lawful_read line content (Err fault) lawful place = tt

lawful_header : (content : Content) (header : Option Header) → IsLawful content → IsLawfulRead (add_header content header)
unfolding IsLawfulRead
lawful_header content None lawful = tt
lawful_header content (Some header) lawful = record { closed = lawful.closed; open_trace = lawful.open_trace }

lawful_text : (header : Option Header) (line : ℕ) (content : Content) (text : List ℕ) → IsLawful content → IsLawfulRead (add_text header line content text)
lawful_text None line content text lawful = lawful_header content (header_of text) lawful
lawful_text (Some header) line content text lawful = lawful_read line content (row_of header line (fields_of text)) lawful (λ row e. row-place header line (fields_of text) row e)

lawful_line : (line : ℕ) (content : Content) (bytes : List ℕ) → IsLawful content → IsLawfulRead (read_line line content bytes)
unfolding read_line IsLawfulRead
lawful_line line content bytes lawful =
    by_choice IsLawfulRead (list_all is_blank (without_return bytes)) _ _ (λ _. lawful) (λ _. lawful_text content.header line content (without_return bytes) lawful)

lawful_end : (p : Progress) (read : Result Content TraceFault) → All IsLawfulTrace p.content.closed → IsLawfulRead read → IsLawfulReading (end_line p read)
unfolding IsLawfulRead IsLawfulReading
lawful_end p (Ok content) closed lawful = lawful
lawful_end p (Err fault) closed lawful = closed

lawful_byte : (reading : Reading) (b : ℕ) → IsLawfulReading reading → IsLawfulReading (read_byte reading b)
unfolding read_byte IsLawfulReading
lawful_byte (refused closed fault) b lawful = lawful
lawful_byte (reads p) b lawful =
    by_choice IsLawfulReading (nat_le file_limit p.bytes) _ _ (λ _. lawful.closed) (λ _.
    by_choice IsLawfulReading (b == 10) _ _ (λ _. lawful_end p (read_line (p.lines + 1) p.content p.line) lawful.closed (lawful_line (p.lines + 1) p.content p.line lawful)) (λ _.
    by_choice IsLawfulReading (nat_le line_limit (length p.line)) _ _ (λ _. lawful.closed) (λ _. lawful)))

lawful_bytes : (bytes : List ℕ) (reading : Reading) → IsLawfulReading reading → IsLawfulReading (read_bytes reading bytes)
lawful_bytes [] reading lawful = lawful
lawful_bytes (b ∷ bytes) reading lawful = lawful_bytes bytes (read_byte reading b) (lawful_byte reading b lawful)

lawful_reading : (bytes : List ℕ) → IsLawfulReading (reading_of bytes)
unfolding reading_of IsLawfulReading
lawful_reading bytes = lawful_bytes bytes (reads nothing_read) (record { closed = All-nil IsLawfulTrace; open_trace = tt })

lawful_closed : (reading : Reading) → IsLawfulReading reading → All IsLawfulTrace (closed_of reading)
unfolding IsLawfulReading
lawful_closed (reads p) lawful = lawful.closed
lawful_closed (refused closed fault) lawful = lawful

pub IsLawfulTrace-closed : (bytes : List ℕ) → All IsLawfulTrace (closed bytes)
unfolding closed
IsLawfulTrace-closed bytes = lawful_closed (reading_of bytes) (lawful_reading bytes)

lawful_last : (open_trace : Option Trace) → IfSome open_trace IsLawfulTrace → All IsLawfulTrace (option_to_list open_trace)
lawful_last None some = All-nil IsLawfulTrace
lawful_last (Some trace) some = All-cons IsLawfulTrace trace [] some (All-nil IsLawfulTrace)

lawful_end_content : (header : Option Header) (content : Content) → IsLawful content → All IsLawfulTrace (end_content content header).traces
lawful_end_content None content lawful = lawful.closed
lawful_end_content (Some header) content lawful =
    All-append IsLawfulTrace content.closed (option_to_list content.open_trace) lawful.closed (lawful_last content.open_trace lawful.open_trace)

lawful_end_read : (before : Content) (read : Result Content TraceFault) → All IsLawfulTrace before.closed → IsLawfulRead read → All IsLawfulTrace (end_read before read).traces
unfolding IsLawfulRead
lawful_end_read before (Ok content) closed lawful = lawful_end_content content.header content lawful
lawful_end_read before (Err fault) closed lawful = closed

lawful_end_reading : (reading : Reading) → IsLawfulReading reading → All IsLawfulTrace (end_reading reading).traces
unfolding IsLawfulReading
lawful_end_reading (reads p) lawful =
    lawful_end_read p.content (read_line (p.lines + 1) p.content p.line) lawful.closed (lawful_line (p.lines + 1) p.content p.line lawful)
lawful_end_reading (refused closed fault) lawful = lawful

pub IsLawfulTrace-file_traces : (bytes : List ℕ) → All IsLawfulTrace (file_traces bytes)
unfolding file_traces
IsLawfulTrace-file_traces bytes = lawful_end_reading (reading_of bytes) (lawful_reading bytes)
