-- The cases of a line.
use Rattle.std.proofs.Common.{◌≡◌, ◌≢◌, ℕ, ◌<◌, ◌≤◌, true, false, cond, List, [], ◌∷◌, ◌++◌, length, Some, None, Result, Ok, Err, sym, ◌∙◌, ap}
use Rattle.std.specs.List.{list_all}
use Rattle.std.proofs.lemmas.Bool.{lt-ltb, le-ltb, eq-eqb, ne_eqb}
use Rattle.decimal_text.specs.Blank.{is_blank}
use Rattle.trace_reader.specs.Row.{header_of, fields_of, row_of}
use Rattle.trace_reader.specs.Content.{Content, add_row, add_read, add_text, read_line, without_return, begin_trace, extend_trace, point_limit}
use Rattle.trace_reader.specs.declared.row.Header.{Header}
use Rattle.trace_reader.specs.declared.row.Row.{Row}
use Rattle.trace_reader.specs.declared.trace.Trace.{Trace}
use Rattle.trace_reader.specs.declared.fault.TraceFault.{TraceFault}
use Rattle.trace_reader.specs.declared.fault.TraceFault.TheVariants.{BadHeader, TraceTooLong}

pub add_first : (line : ℕ) (content : Content) (row : Row) → content.open_trace ≡ None → add_row line content row ≡ Ok (record content { open_trace = Some (begin_trace row) })
unfolding add_row
add_first line content row none = rw none

pub add_longer : (line : ℕ) (content : Content) (row : Row) (trace : Trace) → content.open_trace ≡ Some trace → trace.id ≡ row.id → length trace.fixes < point_limit
    → add_row line content row ≡ Ok (record content { open_trace = Some (extend_trace trace row) })
unfolding add_row
add_longer line content row trace some same short = rw (some, eq-eqb trace.id row.id same, lt-ltb (length trace.fixes) point_limit short)

pub add_too_long : (line : ℕ) (content : Content) (row : Row) (trace : Trace) → content.open_trace ≡ Some trace → trace.id ≡ row.id → point_limit ≤ length trace.fixes
    → add_row line content row ≡ Err (TraceTooLong line)
unfolding add_row
add_too_long line content row trace some same long = rw (some, eq-eqb trace.id row.id same, le-ltb (length trace.fixes) point_limit long)

pub add_next : (line : ℕ) (content : Content) (row : Row) (trace : Trace) → content.open_trace ≡ Some trace → trace.id ≢ row.id
    → add_row line content row ≡ Ok (record content { closed = content.closed ++ trace ∷ []; open_trace = Some (begin_trace row) })
unfolding add_row
add_next line content row trace some other = rw (some, ne_eqb trace.id row.id other)

pub skip_line : (line : ℕ) (content : Content) (bytes : List ℕ) → list_all is_blank (without_return bytes) ≡ true → read_line line content bytes ≡ Ok content
unfolding read_line
skip_line line content bytes blank = rw blank

pub bad_header : (line : ℕ) (content : Content) (bytes : List ℕ) → list_all is_blank (without_return bytes) ≡ false → content.header ≡ None → header_of (without_return bytes) ≡ None
    → read_line line content bytes ≡ Err BadHeader
unfolding read_line
bad_header line content bytes some none other = rw (some, none, other)

pub header_line : (line : ℕ) (content : Content) (bytes : List ℕ) (header : Header) → list_all is_blank (without_return bytes) ≡ false → content.header ≡ None → header_of (without_return bytes) ≡ Some header
    → read_line line content bytes ≡ Ok (record content { header = Some header })
unfolding read_line
header_line line content bytes header some none is = rw (some, none, is)

a_line : (line : ℕ) (content : Content) (bytes : List ℕ) (header : Header) → list_all is_blank (without_return bytes) ≡ false → content.header ≡ Some header
    → read_line line content bytes ≡ add_read line content (row_of header line (fields_of (without_return bytes)))
unfolding read_line
a_line line content bytes header some is =
    let text = without_return bytes in
    ap (λ b. cond b (Ok content) (add_text content.header line content text)) some ∙ ap (λ h. add_text h line content text) is

pub row_line : (line : ℕ) (content : Content) (bytes : List ℕ) (header : Header) (row : Row) (result : Result Content TraceFault) → list_all is_blank (without_return bytes) ≡ false → content.header ≡ Some header
    → Ok row ≡ row_of header line (fields_of (without_return bytes)) → add_row line content row ≡ result → read_line line content bytes ≡ result
row_line line content bytes header row result some is read added =
    a_line line content bytes header some is ∙ ap (add_read line content) (sym read) ∙ added

pub faulty_line : (line : ℕ) (content : Content) (bytes : List ℕ) (header : Header) (fault : TraceFault) → list_all is_blank (without_return bytes) ≡ false → content.header ≡ Some header
    → Err fault ≡ row_of header line (fields_of (without_return bytes)) → read_line line content bytes ≡ Err fault
faulty_line line content bytes header fault some is read =
    a_line line content bytes header some is ∙ ap (add_read line content) (sym read)
