-- The end of a trace file closes at most two traces: the one that its last line ends, and that of the
-- last line.
use Rattle.std.proofs.Common.{ℕ, ◌+◌, ◌≤◌, ◌==◌, nat_lt, List, [], ◌∷◌, length, Option, Some, None, Result, Ok, Err, option_to_list, arith, length-append}
use Rattle.std.specs.List.{list_all}
use Rattle.decimal_text.specs.Blank.{is_blank}
use Rattle.trace_reader.specs.Row.{header_of, fields_of, row_of}
use Rattle.trace_reader.specs.Content.{Content, add_to, add_row, add_header, add_read, add_text, read_line, without_return, point_limit}
use Rattle.trace_reader.specs.Reading.{Reading, reads, refused, reading_of, closed, closed_of, end_content, end_read, end_reading, file_traces}
use Rattle.trace_reader.specs.declared.row.Header.{Header}
use Rattle.trace_reader.specs.declared.row.Row.{Row}
use Rattle.trace_reader.specs.declared.trace.Trace.{Trace}
use Rattle.trace_reader.specs.declared.fault.TraceFault.{TraceFault}
use Rattle.program_frame.proofs.PointCounts.{by_choice}

-- a line was read that closed so few traces
HasClosed : ℕ → Result Content TraceFault → Type 0
HasClosed n (Ok content) = length content.closed ≤ n
HasClosed n (Err fault) = Unit {0}

one_add : (open_trace : Option Trace) (line : ℕ) (content : Content) (row : Row) → HasClosed (length content.closed + 1) (add_to open_trace line content row)
unfolding HasClosed
one_add None line content row = omega arith
one_add (Some trace) line content row =
    by_choice (HasClosed (length content.closed + 1)) (trace.id == row.id) _ _
    (by_choice (HasClosed (length content.closed + 1)) (nat_lt (length trace.fixes) point_limit) _ _ (omega arith) tt)
    (omega (arith, length-append content.closed (trace ∷ [])))

one_row : (line : ℕ) (content : Content) (row : Row) → HasClosed (length content.closed + 1) (add_row line content row)
unfolding add_row
one_row line content row = one_add content.open_trace line content row

one_read : (line : ℕ) (content : Content) (row : Result Row TraceFault) → HasClosed (length content.closed + 1) (add_read line content row)
unfolding HasClosed
one_read line content (Ok row) = one_row line content row
one_read line content (Err fault) = tt

one_header : (content : Content) (header : Option Header) → HasClosed (length content.closed + 1) (add_header content header)
unfolding HasClosed
one_header content None = tt
one_header content (Some header) = omega arith

one_text : (header : Option Header) (line : ℕ) (content : Content) (text : List ℕ) → HasClosed (length content.closed + 1) (add_text header line content text)
one_text None line content text = one_header content (header_of text)
one_text (Some header) line content text = one_read line content (row_of header line (fields_of text))

one_line : (line : ℕ) (content : Content) (bytes : List ℕ) → HasClosed (length content.closed + 1) (read_line line content bytes)
unfolding read_line HasClosed
one_line line content bytes =
    by_choice (HasClosed (length content.closed + 1)) (list_all is_blank (without_return bytes)) _ _ (omega arith) (one_text content.header line content (without_return bytes))

one_open : (open_trace : Option Trace) → length (option_to_list open_trace) ≤ 1
one_open None = omega arith
one_open (Some trace) = omega arith

last_content : (n : ℕ) (content : Content) (header : Option Header) → length content.closed ≤ n → length (end_content content header).traces ≤ n + 1
last_content n content None few = omega arith
last_content n content (Some header) few = omega (arith, length-append content.closed (option_to_list content.open_trace), one_open content.open_trace)

last_read : (before : Content) (read : Result Content TraceFault) → HasClosed (length before.closed + 1) read → length (end_read before read).traces ≤ length before.closed + 2
unfolding HasClosed
last_read before (Ok content) few = let all = last_content (length before.closed + 1) content content.header few in omega (arith, all)
last_read before (Err fault) few = omega arith

last_reading : (reading : Reading) → length (end_reading reading).traces ≤ length (closed_of reading) + 2
last_reading (reads p) = last_read p.content (read_line (p.lines + 1) p.content p.line) (one_line (p.lines + 1) p.content p.line)
last_reading (refused closed fault) = omega arith

pub closed_last : (bytes : List ℕ) → length (file_traces bytes) ≤ length (closed bytes) + 2
unfolding closed file_traces
closed_last bytes = last_reading (reading_of bytes)
