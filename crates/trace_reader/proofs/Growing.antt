-- What was closed before a call stays in front of what is closed in it.
use Rattle.std.proofs.Common.{◌≡◌, ℕ, ◌+◌, Bool, true, false, ◌==◌, cond, nat_le, nat_lt, List, [], ◌∷◌, ◌++◌, length, Option, Some, None, Result, Ok, Err, option_to_list, refl, sym, ◌∙◌, ap, append_assoc, append-nil}
use Rattle.std.specs.List.{list_all}
use Rattle.decimal_text.specs.Blank.{is_blank}
use Rattle.trace_reader.specs.Row.{header_of, fields_of, row_of}
use Rattle.trace_reader.specs.Content.{Content, add_to, add_row, add_header, add_read, add_text, read_line, without_return, begin_trace, point_limit}
use Rattle.trace_reader.specs.Reading.{Progress, Reading, reads, refused, read_byte, read_bytes, file_limit, line_limit, end_line, closed_of, Outcome, end_content, end_read, end_reading}
use Rattle.trace_reader.proofs.Unended.{refused_stays}
use Rattle.trace_reader.specs.declared.row.Header.{Header}
use Rattle.trace_reader.specs.declared.row.Row.{Row}
use Rattle.trace_reader.specs.declared.trace.Trace.{Trace}
use Rattle.trace_reader.specs.declared.fault.TraceFault.{TraceFault}

-- the same with these traces closed before
abbrev pub content_onto : List Trace → Content → Content
content_onto given content = record { header = content.header; closed = given ++ content.closed; open_trace = content.open_trace }

abbrev pub read_onto : List Trace → Result Content TraceFault → Result Content TraceFault
read_onto given (Ok content) = Ok (content_onto given content)
read_onto given (Err fault) = Err fault

abbrev pub progress_onto : List Trace → Progress → Progress
progress_onto given p = record { bytes = p.bytes; lines = p.lines; line = p.line; content = content_onto given p.content }

abbrev pub onto : List Trace → Reading → Reading
onto given (reads p) = reads (progress_onto given p)
onto given (refused closed fault) = refused (given ++ closed) fault

-- a function of a choice is the choice of its values
of_choice : {A B : Type 0} (f : A → B) (b : Bool) {x : B} {x' : A} {y : B} {y' : A} → x ≡ f x' → y ≡ f y' → cond b x y ≡ f (cond b x' y')
of_choice f true e h = e
of_choice f false e h = h

add_to-onto : (open_trace : Option Trace) (given : List Trace) (line : ℕ) (content : Content) (row : Row) → add_to open_trace line (content_onto given content) row ≡ read_onto given (add_to open_trace line content row)
add_to-onto None given line content row = refl
add_to-onto (Some trace) given line content row =
    of_choice (read_onto given) (trace.id == row.id)
    (of_choice (read_onto given) (nat_lt (length trace.fixes) point_limit) refl refl)
    (ap (λ closed. Ok (record { header = content.header; closed = closed; open_trace = Some (begin_trace row) })) (append_assoc given content.closed (trace ∷ [])))

add_row-onto : (given : List Trace) (line : ℕ) (content : Content) (row : Row) → add_row line (content_onto given content) row ≡ read_onto given (add_row line content row)
unfolding add_row
add_row-onto given line content row = add_to-onto content.open_trace given line content row

add_read-onto : (given : List Trace) (line : ℕ) (content : Content) (row : Result Row TraceFault) → add_read line (content_onto given content) row ≡ read_onto given (add_read line content row)
add_read-onto given line content (Ok row) = add_row-onto given line content row
add_read-onto given line content (Err fault) = refl

add_header-onto : (given : List Trace) (content : Content) (header : Option Header) → add_header (content_onto given content) header ≡ read_onto given (add_header content header)
add_header-onto given content None = refl
add_header-onto given content (Some header) = refl

add_text-onto : (header : Option Header) (given : List Trace) (line : ℕ) (content : Content) (text : List ℕ) → add_text header line (content_onto given content) text ≡ read_onto given (add_text header line content text)
add_text-onto None given line content text = add_header-onto given content (header_of text)
add_text-onto (Some header) given line content text = add_read-onto given line content (row_of header line (fields_of text))

pub read_line-onto : (given : List Trace) (line : ℕ) (content : Content) (bytes : List ℕ) → read_line line (content_onto given content) bytes ≡ read_onto given (read_line line content bytes)
unfolding read_line
read_line-onto given line content bytes =
    of_choice (read_onto given) (list_all is_blank (without_return bytes)) refl
    (add_text-onto content.header given line content (without_return bytes))

end_line-onto : (given : List Trace) (p : Progress) (read : Result Content TraceFault) → end_line (progress_onto given p) (read_onto given read) ≡ onto given (end_line p read)
end_line-onto given p (Ok content) = refl
end_line-onto given p (Err fault) = refl

read_byte-onto : (given : List Trace) (reading : Reading) (b : ℕ) → read_byte (onto given reading) b ≡ onto given (read_byte reading b)
unfolding read_byte
read_byte-onto given (refused closed fault) b = refl
read_byte-onto given (reads p) b =
    of_choice (onto given) (nat_le file_limit p.bytes) refl
    (of_choice (onto given) (b == 10)
    (ap (end_line (progress_onto given p)) (read_line-onto given (p.lines + 1) p.content p.line) ∙ end_line-onto given p (read_line (p.lines + 1) p.content p.line))
    (of_choice (onto given) (nat_le line_limit (length p.line)) refl refl))

pub read_bytes-onto : (bytes : List ℕ) (given : List Trace) (reading : Reading) → read_bytes (onto given reading) bytes ≡ onto given (read_bytes reading bytes)
read_bytes-onto [] given reading = refl
read_bytes-onto (b ∷ bytes) given reading =
    ap (λ r. read_bytes r bytes) (read_byte-onto given reading b) ∙ read_bytes-onto bytes given (read_byte reading b)

-- the same progress with these traces closed
abbrev pub with_closed : Progress → List Trace → Progress
with_closed p closed = record {
  bytes = p.bytes;
  lines = p.lines;
  line = p.line;
  content = record { header = p.content.header; closed = closed; open_trace = p.content.open_trace };
}

-- what bytes bring after this progress, but for what was closed before
abbrev pub brought : Progress → List ℕ → Reading
brought p bytes = read_bytes (reads (with_closed p [])) bytes

pub read_bytes-with_closed : (p : Progress) (given : List Trace) (bytes : List ℕ) → read_bytes (reads (with_closed p given)) bytes ≡ onto given (brought p bytes)
read_bytes-with_closed p given bytes =
    ap (λ closed. read_bytes (reads (with_closed p closed)) bytes) (sym (append-nil given)) ∙ read_bytes-onto bytes given (reads (with_closed p []))

closed_of-onto : (given : List Trace) (reading : Reading) → closed_of (onto given reading) ≡ given ++ closed_of reading
closed_of-onto given (reads p) = refl
closed_of-onto given (refused closed fault) = refl

pub closed_of-read_bytes : (p : Progress) (given : List Trace) (bytes : List ℕ) → closed_of (read_bytes (reads (with_closed p given)) bytes) ≡ given ++ closed_of (brought p bytes)
closed_of-read_bytes p given bytes = ap closed_of (read_bytes-with_closed p given bytes) ∙ closed_of-onto given (brought p bytes)

-- more bytes close more traces
pub closed_grows : (reading : Reading) (bytes : List ℕ) → (more : List Trace) × (closed_of (read_bytes reading bytes) ≡ closed_of reading ++ more)
closed_grows (refused closed fault) bytes = ([], ap closed_of (refused_stays closed fault bytes) ∙ sym (append-nil closed))
closed_grows (reads p) bytes = (closed_of (brought p bytes), closed_of-read_bytes p p.content.closed bytes)

-- the end of the file
abbrev pub outcome_onto : List Trace → Outcome → Outcome
outcome_onto given outcome = record { traces = given ++ outcome.traces; fault = outcome.fault }

end_content-onto : (header : Option Header) (given : List Trace) (content : Content) → end_content (content_onto given content) header ≡ outcome_onto given (end_content content header)
end_content-onto None given content = refl
end_content-onto (Some header) given content =
    ap (λ traces. record { traces = traces; fault = None }) (append_assoc given content.closed (option_to_list content.open_trace))

end_read-onto : (given : List Trace) (before : Content) (read : Result Content TraceFault) → end_read (content_onto given before) (read_onto given read) ≡ outcome_onto given (end_read before read)
end_read-onto given before (Ok content) = end_content-onto content.header given content
end_read-onto given before (Err fault) = refl

pub end_reading-onto : (given : List Trace) (reading : Reading) → end_reading (onto given reading) ≡ outcome_onto given (end_reading reading)
end_reading-onto given (refused closed fault) = refl
end_reading-onto given (reads p) =
    ap (end_read (content_onto given p.content)) (read_line-onto given (p.lines + 1) p.content p.line)
    ∙ end_read-onto given p.content (read_line (p.lines + 1) p.content p.line)

pub end_reading-with_closed : (p : Progress) (given : List Trace) → end_reading (reads (with_closed p given)) ≡ outcome_onto given (end_reading (reads (with_closed p [])))
end_reading-with_closed p given =
    ap (λ closed. end_reading (reads (with_closed p closed))) (sym (append-nil given)) ∙ end_reading-onto given (reads (with_closed p []))
