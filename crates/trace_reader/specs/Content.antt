-- What the lines of a trace file bring, one after the other.
use Rattle.std.specs.Prelude.{ℕ, ◌-◌, ◌==◌, List, [], ◌∷◌, ◌++◌, length, take, slice_index, nat_lt, Result, Ok, Err, Some, None, if◌then◌else◌}
use Rattle.std.specs.Prelude.{Option}
use Rattle.std.specs.List.{list_all}
use Rattle.decimal_text.specs.Blank.{is_blank}
use Rattle.trace_reader.specs.Row.{header_of, fields_of, row_of}
use Rattle.trace_reader.specs.declared.row.Header.{Header}
use Rattle.trace_reader.specs.declared.row.Row.{Row}
use Rattle.trace_reader.specs.declared.trace.Trace.{Trace}
use Rattle.trace_reader.specs.declared.fault.TraceFault.{TraceFault}
use Rattle.trace_reader.specs.declared.fault.TraceFault.TheVariants.{BadHeader, TraceTooLong}

-- the header, the traces that are closed, and the trace that is open
pub record Content : Type 0 where
  pub header : Option Header
  pub closed : List Trace
  pub open_trace : Option Trace

abbrev pub no_content : Content
no_content = record { header = None; closed = []; open_trace = None }

abbrev pub point_limit : ℕ
point_limit = 100_000

abbrev pub begin_trace : Row → Trace
begin_trace row = record { id = row.id; fixes = row.fix ∷ [] }

abbrev pub extend_trace : Trace → Row → Trace
extend_trace trace row = record { id = trace.id; fixes = trace.fixes ++ row.fix ∷ [] }

-- consecutive rows of one id form one trace; a row of another id closes the open trace
abbrev pub add_to : Option Trace → ℕ → Content → Row → Result Content TraceFault
add_to None line content row = Ok (record content { open_trace = Some (begin_trace row) })
add_to (Some trace) line content row =
    if trace.id == row.id then
    (if nat_lt (length trace.fixes) point_limit
    then Ok (record content { open_trace = Some (extend_trace trace row) })
    else Err (TraceTooLong line))
    else Ok (record content
    { closed = content.closed ++ trace ∷ []; open_trace = Some (begin_trace row) })

unfoldable pub add_row : ℕ → Content → Row → Result Content TraceFault
add_row line content row = add_to content.open_trace line content row

-- the first line that is not skipped
abbrev pub add_header : Content → Option Header → Result Content TraceFault
add_header content None = Err BadHeader
add_header content (Some header) = Ok (record content { header = Some header })

abbrev pub add_read : ℕ → Content → Result Row TraceFault → Result Content TraceFault
add_read line content (Ok row) = add_row line content row
add_read line content (Err fault) = Err fault

-- a line that is not skipped
abbrev pub add_text : Option Header → ℕ → Content → List ℕ → Result Content TraceFault
add_text None line content text = add_header content (header_of text)
add_text (Some header) line content text =
    add_read line content (row_of header line (fields_of text))

-- a line without a CR at its end
abbrev pub without_return : List ℕ → List ℕ
without_return line =
    let last = length line - 1 in if slice_index line last == 13 then take last line else line

-- the line of this number is read; spaces and tabs alone are skipped
unfoldable pub read_line : ℕ → Content → List ℕ → Result Content TraceFault
read_line line content bytes =
    let text = without_return bytes in
    if list_all is_blank text then Ok content else add_text content.header line content text
