-- What the bytes of a trace file bring. They are read one after the other, and the fault that is
-- known at the earliest byte decides.
use Rattle.std.specs.Prelude.{◌≡◌, ℕ, ◌+◌, ◌^◌, ◌==◌, List, [], ◌∷◌, ◌++◌, length, nat_le, Result, Ok, Err, Some, None, option_to_list, if◌then◌else◌}
use Rattle.std.specs.Prelude.{Option}
use Rattle.std.specs.List.{fold}
use Rattle.trace_reader.specs.Content.{Content, no_content, read_line}
use Rattle.trace_reader.specs.declared.row.Header.{Header}
use Rattle.trace_reader.specs.declared.trace.Trace.{Trace}
use Rattle.trace_reader.specs.declared.fault.TraceFault.{TraceFault}
use Rattle.trace_reader.specs.declared.fault.TraceFault.TheVariants.{BadHeader, LineTooLong, FileTooLong}

abbrev pub file_limit : ℕ
file_limit = 2 ^ 40

abbrev pub line_limit : ℕ
line_limit = 4_096

-- how many bytes and lines were read, the bytes since the last LF, and what the lines brought
pub record Progress : Type 0 where
  pub bytes : ℕ
  pub lines : ℕ
  pub line : List ℕ
  pub content : Content

-- bytes without a fault; or the first fault, and the traces that were closed before it
pub data Reading : Type 0 where
  reads : Progress → Reading
  refused : List Trace → TraceFault → Reading

-- a line ends: a fault of its content is known at its LF
abbrev pub end_line : Progress → Result Content TraceFault → Reading
end_line p (Ok content) =
    reads (record { bytes = p.bytes + 1; lines = p.lines + 1; line = []; content = content })
end_line p (Err fault) = refused p.content.closed fault

-- one more byte: the first above the limit of the file is a fault in any case, and else the first
-- of a line above the limit of lines
unfoldable pub read_byte : Reading → ℕ → Reading
read_byte (refused closed fault) byte = refused closed fault
read_byte (reads p) byte =
    if nat_le file_limit p.bytes then refused p.content.closed FileTooLong
    else if byte == 10 then end_line p (read_line (p.lines + 1) p.content p.line)
    else if nat_le line_limit (length p.line)
    then refused p.content.closed (LineTooLong (p.lines + 1))
    else reads (record
    { bytes = p.bytes + 1; lines = p.lines; line = p.line ++ byte ∷ []; content = p.content })

abbrev pub nothing_read : Progress
nothing_read = record { bytes = 0; lines = 0; line = []; content = no_content }

abbrev pub read_bytes : Reading → List ℕ → Reading
read_bytes reading bytes = fold read_byte reading bytes

unfoldable pub reading_of : List ℕ → Reading
reading_of bytes = read_bytes (reads nothing_read) bytes

abbrev pub closed_of : Reading → List Trace
closed_of (reads p) = p.content.closed
closed_of (refused closed fault) = closed

abbrev pub fault_of : Reading → Option TraceFault
fault_of (reads p) = None
fault_of (refused closed fault) = Some fault

-- the traces that are closed in these bytes, before any fault
unfoldable pub closed : List ℕ → List Trace
closed bytes = closed_of (reading_of bytes)

-- the fault that is known in these bytes, whatever follows them
unfoldable pub fault_in : List ℕ → Option TraceFault
fault_in bytes = fault_of (reading_of bytes)

-- The end of the file.

pub record Outcome : Type 0 where
  pub traces : List Trace
  pub fault : Option TraceFault

-- the faultless end closes the open trace
abbrev pub end_content : Content → Option Header → Outcome
end_content content None = record { traces = content.closed; fault = Some BadHeader }
end_content content (Some header) =
    record { traces = content.closed ++ option_to_list content.open_trace; fault = None }

-- what the end brings is these traces and this fault
abbrev pub EndsWith : Content → Option Header → List Trace → Option TraceFault → Type 0
EndsWith content header traces fault =
    end_content content header ≡ record { traces = traces; fault = fault }

abbrev pub end_read : Content → Result Content TraceFault → Outcome
end_read before (Ok content) = end_content content content.header
end_read before (Err fault) = record { traces = before.closed; fault = Some fault }

-- the rest after the last LF is the last line; without a byte it is skipped
abbrev pub end_reading : Reading → Outcome
end_reading (reads p) = end_read p.content (read_line (p.lines + 1) p.content p.line)
end_reading (refused closed fault) = record { traces = closed; fault = Some fault }

-- all traces of the file before any fault, and its fault
unfoldable pub file_traces : List ℕ → List Trace
file_traces bytes = (end_reading (reading_of bytes)).traces

unfoldable pub file_fault : List ℕ → Option TraceFault
file_fault bytes = (end_reading (reading_of bytes)).fault
