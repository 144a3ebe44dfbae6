-- The ids of the traces that are read from a file fit 32 bits.
use Rattle.std.proofs.Common.{◌≡◌, ℕ, ◌+◌, ◌-◌, ◌^◌, ◌<◌, Bool, true, false, ◌==◌, cond, nat_lt, nat_le, List, [], ◌∷◌, length, ℤ, Option, Some, None, Result, Ok, Err, option_to_list, refl, sym, arith}
use Rattle.std.specs.List.{All, list_all}
use Rattle.std.specs.Option.{IfSome}
use Rattle.std.proofs.lemmas.List.Elements.{All-nil, All-push, All-append, All-cons}
use Rattle.decimal_text.proofs.Laws.{Spells-unsigned_within}
use Rattle.decimal_text.specs.Blank.{is_blank, trim}
use Rattle.decimal_text.specs.declared.number.NumberFault.{NumberFault}
use Rattle.trace_reader.specs.Row.{header_of, fields_of, row_of, numbers_of, u32_of, time_of, coordinate_of}
use Rattle.trace_reader.specs.Content.{Content, add_to, add_row, add_header, add_read, add_text, read_line, without_return, point_limit}
use Rattle.trace_reader.specs.Reading.{Progress, Reading, reads, refused, read_byte, read_bytes, reading_of, nothing_read, end_line, end_content, end_read, end_reading, file_traces, file_limit, line_limit}
use Rattle.trace_reader.specs.declared.row.Header.{Header}
use Rattle.trace_reader.specs.declared.row.Header.TheVariants.{Untimed, Timed}
use Rattle.trace_reader.specs.declared.row.Row.{Row}
use Rattle.trace_reader.specs.declared.trace.Trace.{Trace}
use Rattle.trace_reader.specs.declared.fault.TraceFault.{TraceFault}

abbrev pub HasShortId : Trace → Type 0
HasShortId trace = trace.id < 2 ^ 32

number_id : (line : ℕ) (id time : Result ℕ NumberFault) (x y : Result ℤ NumberFault) (a : List ℕ) (row : Row) → id ≡ u32_of a → numbers_of line id x y time ≡ Ok row → row.id < 2 ^ 32
number_id line (Ok i) (Ok t) (Ok x) (Ok y) a row ea e =
    let same : i ≡ row.id = cc e in
    let small = (Spells-unsigned_within (2 ^ 32 - 1) i (trim a) (sym ea)).small in
    omega (arith, same, small)
number_id line (Err f) time x y a row ea e = absurd (cc e)
number_id line (Ok i) (Err f) (Err g) y a row ea e = absurd (cc e)
number_id line (Ok i) (Err f) (Ok x) (Err g) a row ea e = absurd (cc e)
number_id line (Ok i) (Err f) (Ok x) (Ok y) a row ea e = absurd (cc e)
number_id line (Ok i) (Ok t) (Err f) y a row ea e = absurd (cc e)
number_id line (Ok i) (Ok t) (Ok x) (Err f) a row ea e = absurd (cc e)

row_id : (header : Header) (line : ℕ) (fields : List (List ℕ)) (row : Row) → row_of header line fields ≡ Ok row → row.id < 2 ^ 32
unfolding row_of
row_id Untimed line [] row e = absurd (cc e)
row_id Untimed line (a ∷ []) row e = absurd (cc e)
row_id Untimed line (a ∷ b ∷ []) row e = absurd (cc e)
row_id Untimed line (a ∷ b ∷ c ∷ []) row e = number_id line (u32_of a) (time_of None) (coordinate_of b) (coordinate_of c) a row refl e
row_id Untimed line (a ∷ b ∷ c ∷ d ∷ rest) row e = absurd (cc e)
row_id Timed line [] row e = absurd (cc e)
row_id Timed line (a ∷ []) row e = absurd (cc e)
row_id Timed line (a ∷ b ∷ []) row e = absurd (cc e)
row_id Timed line (a ∷ b ∷ c ∷ []) row e = absurd (cc e)
row_id Timed line (a ∷ b ∷ c ∷ d ∷ []) row e = number_id line (u32_of a) (time_of (Some d)) (coordinate_of b) (coordinate_of c) a row refl e
row_id Timed line (a ∷ b ∷ c ∷ d ∷ f ∷ rest) row e = absurd (cc e)

-- the ids of the closed traces and of the open one are short
record AreShort (content : Content) : Type 0 where
  closed : All HasShortId content.closed
  open_trace : IfSome content.open_trace HasShortId

AreShortIf : Result Content TraceFault → Type 0
AreShortIf (Ok content) = AreShort content
AreShortIf (Err fault) = Unit {0}

AreShortIn : Reading → Type 0
AreShortIn (reads p) = AreShort p.content
AreShortIn (refused closed fault) = All HasShortId closed

by_choice : {A : Type 0} (P : A → Type 0) (b : Bool) (x y : A) → P x → P y → P (cond b x y)
by_choice P true x y f g = f
by_choice P false x y f g = g

short_add : (open_trace : Option Trace) (line : ℕ) (content : Content) (row : Row) → All HasShortId content.closed → IfSome open_trace HasShortId → row.id < 2 ^ 32
    → AreShortIf (add_to open_trace line content row)
unfolding AreShortIf
short_add None line content row closed some id = record { closed = closed; open_trace = id }
short_add (Some trace) line content row closed some id =
    by_choice AreShortIf (trace.id == row.id) _ _
    (by_choice AreShortIf (nat_lt (length trace.fixes) point_limit) _ _ (record { closed = closed; open_trace = some }) tt)
    (record { closed = All-push HasShortId content.closed trace closed some; open_trace = id })

short_row : (line : ℕ) (content : Content) (row : Row) → AreShort content → row.id < 2 ^ 32 → AreShortIf (add_row line content row)
unfolding add_row
short_row line content row h id = short_add content.open_trace line content row h.closed h.open_trace id

short_read : (line : ℕ) (content : Content) (row : Result Row TraceFault) → AreShort content → ((r : Row) → row ≡ Ok r → r.id < 2 ^ 32) → AreShortIf (add_read line content row)
unfolding AreShortIf
short_read line content (Ok row) h id = short_row line content row h (id row refl)
short_read line content (Err fault) h id = tt

short_header : (content : Content) (header : Option Header) → AreShort content → AreShortIf (add_header content header)
unfolding AreShortIf
short_header content None h = tt
short_header content (Some header) h = record { closed = h.closed; open_trace = h.open_trace }

short_text : (header : Option Header) (line : ℕ) (content : Content) (text : List ℕ) → AreShort content → AreShortIf (add_text header line content text)
short_text None line content text h = short_header content (header_of text) h
short_text (Some header) line content text h = short_read line content (row_of header line (fields_of text)) h (λ row e. row_id header line (fields_of text) row e)

short_line : (line : ℕ) (content : Content) (bytes : List ℕ) → AreShort content → AreShortIf (read_line line content bytes)
unfolding read_line AreShortIf
short_line line content bytes h =
    by_choice AreShortIf (list_all is_blank (without_return bytes)) _ _ h (short_text content.header line content (without_return bytes) h)

short_end : (p : Progress) (read : Result Content TraceFault) → All HasShortId p.content.closed → AreShortIf read → AreShortIn (end_line p read)
unfolding AreShortIf AreShortIn
short_end p (Ok content) closed h = h
short_end p (Err fault) closed h = closed

short_byte : (reading : Reading) (b : ℕ) → AreShortIn reading → AreShortIn (read_byte reading b)
unfolding read_byte AreShortIn
short_byte (refused closed fault) b h = h
short_byte (reads p) b h =
    by_choice AreShortIn (nat_le file_limit p.bytes) _ _ h.closed
    (by_choice AreShortIn (b == 10) _ _ (short_end p (read_line (p.lines + 1) p.content p.line) h.closed (short_line (p.lines + 1) p.content p.line h))
    (by_choice AreShortIn (nat_le line_limit (length p.line)) _ _ h.closed h))

short_bytes : (bytes : List ℕ) (reading : Reading) → AreShortIn reading → AreShortIn (read_bytes reading bytes)
short_bytes [] reading h = h
short_bytes (b ∷ bytes) reading h = short_bytes bytes (read_byte reading b) (short_byte reading b h)

short_reading : (bytes : List ℕ) → AreShortIn (reading_of bytes)
unfolding reading_of AreShortIn
short_reading bytes = short_bytes bytes (reads nothing_read) (record { closed = All-nil HasShortId; open_trace = tt })

short_last : (open_trace : Option Trace) → IfSome open_trace HasShortId → All HasShortId (option_to_list open_trace)
short_last None some = All-nil HasShortId
short_last (Some trace) some = All-cons HasShortId trace [] some (All-nil HasShortId)

short_content : (header : Option Header) (content : Content) → AreShort content → All HasShortId (end_content content header).traces
short_content None content h = h.closed
short_content (Some header) content h = All-append HasShortId content.closed (option_to_list content.open_trace) h.closed (short_last content.open_trace h.open_trace)

short_at_end : (before : Content) (read : Result Content TraceFault) → All HasShortId before.closed → AreShortIf read → All HasShortId (end_read before read).traces
unfolding AreShortIf
short_at_end before (Ok content) closed h = short_content content.header content h
short_at_end before (Err fault) closed h = closed

short_outcome : (reading : Reading) → AreShortIn reading → All HasShortId (end_reading reading).traces
unfolding AreShortIn
short_outcome (reads p) h = short_at_end p.content (read_line (p.lines + 1) p.content p.line) h.closed (short_line (p.lines + 1) p.content p.line h)
short_outcome (refused closed fault) h = h

pub read_ids : (bytes : List ℕ) → All HasShortId (file_traces bytes)
unfolding file_traces
read_ids bytes = short_outcome (reading_of bytes) (short_reading bytes)
