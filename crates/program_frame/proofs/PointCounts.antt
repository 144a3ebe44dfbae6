-- A trace file brings no more points than it has bytes, but for one of a last line without its end.
use Rattle.std.proofs.Common.{◌≡◌, ℕ, ◌+◌, ◌≤◌, Bool, true, false, ◌==◌, cond, nat_lt, nat_le, List, [], ◌∷◌, ◌++◌, length, Option, Some, None, Result, Ok, Err, option_to_list, arith, length-append}
use Rattle.std.specs.List.{list_all}
use Rattle.std.proofs.lemmas.List.Sums.{sum_by-append}
use Rattle.decimal_text.specs.Blank.{is_blank}
use Rattle.trace_reader.specs.Row.{header_of, fields_of, row_of}
use Rattle.trace_reader.specs.Content.{Content, add_to, add_row, add_header, add_read, add_text, read_line, without_return, point_limit}
use Rattle.trace_reader.specs.Reading.{Progress, Reading, reads, refused, read_byte, read_bytes, reading_of, nothing_read, end_line, closed, closed_of, end_content, end_read, end_reading, file_traces, file_limit, line_limit}
use Rattle.trace_reader.specs.declared.row.Header.{Header}
use Rattle.trace_reader.specs.declared.row.Row.{Row}
use Rattle.trace_reader.specs.declared.trace.Trace.{Trace}
use Rattle.trace_reader.specs.declared.fault.TraceFault.{TraceFault}
use Rattle.program_frame.specs.Jobs.{position_count}

abbrev open_points : Option Trace → ℕ
open_points None = 0
open_points (Some trace) = length trace.fixes

abbrev IsFew : ℕ → Content → Type 0
IsFew n content = position_count content.closed + open_points content.open_trace ≤ n

IsFewRead : ℕ → Result Content TraceFault → Type 0
IsFewRead n (Ok content) = IsFew n content
IsFewRead n (Err fault) = Unit {0}

IsFewReading : ℕ → Reading → Type 0
IsFewReading n (reads p) = IsFew n p.content
IsFewReading n (refused closed fault) = position_count closed ≤ n

pub by_choice : {A : Type 0} (P : A → Type 0) (b : Bool) (x y : A) → P x → P y → P (cond b x y)
by_choice P true x y f g = f
by_choice P false x y f g = g

pub points-append : (front back : List Trace) → position_count (front ++ back) ≡ position_count front + position_count back
points-append front back = sum_by-append (λ trace. length trace.fixes) front back

few_add : (open_trace : Option Trace) (n line : ℕ) (content : Content) (row : Row) → position_count content.closed + open_points open_trace ≤ n → IsFewRead (n + 1) (add_to open_trace line content row)
unfolding IsFewRead
few_add None n line content row few = omega arith
few_add (Some trace) n line content row few =
    by_choice (IsFewRead (n + 1)) (trace.id == row.id) _ _
    (by_choice (IsFewRead (n + 1)) (nat_lt (length trace.fixes) point_limit) _ _ (omega (arith, length-append trace.fixes (row.fix ∷ []))) tt)
    (omega (arith, points-append content.closed (trace ∷ [])))

few_row : (n line : ℕ) (content : Content) (row : Row) → IsFew n content → IsFewRead (n + 1) (add_row line content row)
unfolding add_row
few_row n line content row few = few_add content.open_trace n line content row few

few_read : (n line : ℕ) (content : Content) (row : Result Row TraceFault) → IsFew n content → IsFewRead (n + 1) (add_read line content row)
unfolding IsFewRead
few_read n line content (Ok row) few = few_row n line content row few
few_read n line content (Err fault) few = tt

few_header : (n : ℕ) (content : Content) (header : Option Header) → IsFew n content → IsFewRead (n + 1) (add_header content header)
unfolding IsFewRead
few_header n content None few = tt
few_header n content (Some header) few = omega arith

few_text : (header : Option Header) (n line : ℕ) (content : Content) (text : List ℕ) → IsFew n content → IsFewRead (n + 1) (add_text header line content text)
few_text None n line content text few = few_header n content (header_of text) few
few_text (Some header) n line content text few = few_read n line content (row_of header line (fields_of text)) few

few_line : (n line : ℕ) (content : Content) (bytes : List ℕ) → IsFew n content → IsFewRead (n + 1) (read_line line content bytes)
unfolding read_line IsFewRead
few_line n line content bytes few =
    by_choice (IsFewRead (n + 1)) (list_all is_blank (without_return bytes)) _ _ (omega arith) (few_text content.header n line content (without_return bytes) few)

few_end : (n : ℕ) (p : Progress) (read : Result Content TraceFault) → IsFew n p.content → IsFewRead (n + 1) read → IsFewReading (n + 1) (end_line p read)
unfolding IsFewRead IsFewReading
few_end n p (Ok content) before few = few
few_end n p (Err fault) before few = omega arith

few_byte : (n : ℕ) (reading : Reading) (b : ℕ) → IsFewReading n reading → IsFewReading (n + 1) (read_byte reading b)
unfolding read_byte IsFewReading
few_byte n (refused closed fault) b few = omega arith
few_byte n (reads p) b few =
    by_choice (IsFewReading (n + 1)) (nat_le file_limit p.bytes) _ _ (omega arith)
    (by_choice (IsFewReading (n + 1)) (b == 10) _ _ (few_end n p (read_line (p.lines + 1) p.content p.line) few (few_line n (p.lines + 1) p.content p.line few))
    (by_choice (IsFewReading (n + 1)) (nat_le line_limit (length p.line)) _ _ (omega arith) (omega arith)))

more : (m n : ℕ) (reading : Reading) → m ≤ n → IsFewReading m reading → IsFewReading n reading
unfolding IsFewReading
more m n (reads p) le few = omega arith
more m n (refused closed fault) le few = omega arith

few_bytes : (bytes : List ℕ) (n : ℕ) (reading : Reading) → IsFewReading n reading → IsFewReading (n + length bytes) (read_bytes reading bytes)
few_bytes [] n reading few = more n (n + 0) reading (omega arith) few
few_bytes (b ∷ bytes) n reading few = more (n + 1 + length bytes) (n + length (b ∷ bytes)) (read_bytes (read_byte reading b) bytes) (omega arith) (few_bytes bytes (n + 1) (read_byte reading b) (few_byte n reading b few))

few_reading : (bytes : List ℕ) → IsFewReading (length bytes) (reading_of bytes)
unfolding reading_of IsFewReading
few_reading bytes = more (0 + length bytes) (length bytes) (read_bytes (reads nothing_read) bytes) (omega arith) (few_bytes bytes 0 (reads nothing_read) (omega arith))

few_closed : (n : ℕ) (reading : Reading) → IsFewReading n reading → position_count (closed_of reading) ≤ n
unfolding IsFewReading
few_closed n (reads p) few = omega arith
few_closed n (refused closed fault) few = few

pub points-closed : (bytes : List ℕ) → position_count (closed bytes) ≤ length bytes
unfolding closed
points-closed bytes = few_closed (length bytes) (reading_of bytes) (few_reading bytes)

few_open : (open_trace : Option Trace) → position_count (option_to_list open_trace) ≤ open_points open_trace
few_open None = omega arith
few_open (Some trace) = omega arith

few_end_content : (n : ℕ) (content : Content) (header : Option Header) → IsFew n content → position_count (end_content content header).traces ≤ n
few_end_content n content None few = omega arith
few_end_content n content (Some header) few = omega (arith, points-append content.closed (option_to_list content.open_trace), few_open content.open_trace)

few_end_read : (n : ℕ) (before : Content) (read : Result Content TraceFault) → IsFew n before → IsFewRead (n + 1) read → position_count (end_read before read).traces ≤ n + 1
unfolding IsFewRead
few_end_read n before (Ok content) few after = few_end_content (n + 1) content content.header after
few_end_read n before (Err fault) few after = omega arith

few_end_reading : (n : ℕ) (reading : Reading) → IsFewReading n reading → position_count (end_reading reading).traces ≤ n + 1
unfolding IsFewReading
few_end_reading n (reads p) few = few_end_read n p.content (read_line (p.lines + 1) p.content p.line) few (few_line n (p.lines + 1) p.content p.line few)
few_end_reading n (refused closed fault) few = omega arith

pub points-file_traces : (bytes : List ℕ) → position_count (file_traces bytes) ≤ length bytes + 1
unfolding file_traces
points-file_traces bytes = few_end_reading (length bytes) (reading_of bytes) (few_reading bytes)
