-- A file within the limits is read line by line.
use Rattle.std.proofs.Common.{◌≡◌, ℕ, ◌+◌, ◌<◌, ◌≤◌, Bool, true, false, ◌==◌, cond, List, [], ◌∷◌, ◌++◌, length, Result, Ok, Err, refl, sym, ◌∙◌, ap, arith, length-append, subst}
use Rattle.std.proofs.lemmas.Bool.{eqb-true}
use Rattle.std.proofs.lemmas.List.{append_assoc, append-nil}
use Rattle.std.proofs.lemmas.List.Elements.{All-head, All-tail}
use Rattle.std.proofs.lemmas.List.Splits.{length-slice_split}
use Rattle.std.specs.List.{onto_first}
use Rattle.trace_reader.specs.Content.{Content, no_content, read_line}
use Rattle.trace_reader.specs.LineByLine.{AreLinesShort, IsReadByLine, IsWithinLimits, after_line, lines_in, read_lines}
use Rattle.trace_reader.specs.Reading.{Progress, reads, read_byte, read_bytes, reading_of, nothing_read, end_line, end_read, end_reading, file_traces, file_fault, file_limit, line_limit}
use Rattle.trace_reader.specs.declared.fault.TraceFault.{TraceFault}
use Rattle.trace_reader.proofs.Unended.{line_end, one_byte, refused_stays, with_part}

-- the lines of a text that follows the beginning of a line

abbrev lines_after : List ℕ → List ℕ → List (List ℕ)
lines_after line [] = line ∷ []
lines_after line (byte ∷ text) = cond (byte == 10) (line ∷ lines_after [] text) (lines_after (line ++ byte ∷ []) text)

-- this in front of the first line
abbrev begun_by : List ℕ → List (List ℕ) → List (List ℕ)
begun_by line [] = line ∷ []
begun_by line (first ∷ lines) = (line ++ first) ∷ lines

begun_by-none : (lines : List (List ℕ)) → 0 < length lines → begun_by [] lines ≡ lines
begun_by-none [] some = absurd (omega (arith, some))
begun_by-none (first ∷ lines) some = refl

begun_by-byte : (line : List ℕ) (byte : ℕ) (lines : List (List ℕ)) → begun_by (line ++ byte ∷ []) lines ≡ begun_by line (onto_first byte lines)
begun_by-byte line byte [] = refl
begun_by-byte line byte (first ∷ lines) = ap (λ all. all ∷ lines) (append_assoc line (byte ∷ []) first)

some_line : (text : List ℕ) → 0 < length (lines_in text)
some_line text = let count = length-slice_split (λ byte. byte == 10) text in omega (arith, count)

after_byte : (v : Bool) (line : List ℕ) (byte : ℕ) (text : List ℕ) → ((begun : List ℕ) → lines_after begun text ≡ begun_by begun (lines_in text))
    → cond v (line ∷ lines_after [] text) (lines_after (line ++ byte ∷ []) text) ≡ begun_by line (cond v ([] ∷ lines_in text) (onto_first byte (lines_in text)))
after_byte true line byte text more = ap (λ lines. line ∷ lines) (more [] ∙ begun_by-none (lines_in text) (some_line text)) ∙ ap (λ first. first ∷ lines_in text) (sym (append-nil line))
after_byte false line byte text more = more (line ++ byte ∷ []) ∙ begun_by-byte line byte (lines_in text)

after_begun : (text line : List ℕ) → lines_after line text ≡ begun_by line (lines_in text)
after_begun [] line = ap (λ first. first ∷ []) (sym (append-nil line))
after_begun (byte ∷ text) line = after_byte (byte == 10) line byte text (after_begun text)

lines_are : (text : List ℕ) → lines_after [] text ≡ lines_in text
lines_are text = after_begun text [] ∙ begun_by-none (lines_in text) (some_line text)

abbrev IsShort : List ℕ → Type 0
IsShort line = length line ≤ line_limit

-- the beginning of a line is no longer than the line
begun_in : (v : Bool) (line text longer : List ℕ) → (AreLinesShort (lines_after longer text) → length longer ≤ line_limit) → length line ≤ length longer
    → AreLinesShort (cond v (line ∷ lines_after [] text) (lines_after longer text)) → length line ≤ line_limit
begun_in true line text longer more grown short = All-head IsShort line (lines_after [] text) short
begun_in false line text longer more grown short = let h = more short in omega (arith, h, grown)

begun_short : (line text : List ℕ) → AreLinesShort (lines_after line text) → length line ≤ line_limit
begun_short line [] short = All-head IsShort line [] short
begun_short line (byte ∷ text) short =
    begun_in (byte == 10) line text (line ++ byte ∷ []) (begun_short (line ++ byte ∷ []) text) (omega (arith, length-append line (byte ∷ []))) short

-- the rest of a file is read line by line
abbrev GoesByLine : List ℕ → Type 0
GoesByLine text = (p : Progress) → p.bytes + length text ≤ file_limit → AreLinesShort (lines_after p.line text)
    → end_reading (read_bytes (reads p) text) ≡ read_lines (p.lines + 1) p.content (lines_after p.line text)

last_line : (before : Content) (read : Result Content TraceFault) (number : ℕ) → end_read before read ≡ after_line before read (λ next. read_lines number next [])
last_line before (Ok content) number = refl
last_line before (Err fault) number = refl

line_ends : (text : List ℕ) (p : Progress) (read : Result Content TraceFault) → GoesByLine text → p.bytes + 1 + length text ≤ file_limit → AreLinesShort (lines_after [] text)
    → end_reading (read_bytes (end_line p read) text) ≡ after_line p.content read (λ next. read_lines (p.lines + 1 + 1) next (lines_after [] text))
line_ends text p (Ok content) more file short = more (record { bytes = p.bytes + 1; lines = p.lines + 1; line = []; content = content }) file short
line_ends text p (Err fault) more file short = ap end_reading (refused_stays p.content.closed fault text)

byte_goes : (v : Bool) (byte : ℕ) (text : List ℕ) (p : Progress) → (byte == 10) ≡ v → GoesByLine text → p.bytes + 1 + length text ≤ file_limit
    → AreLinesShort (cond v (p.line ∷ lines_after [] text) (lines_after (p.line ++ byte ∷ []) text))
    → end_reading (read_bytes (read_byte (reads p) byte) text) ≡ read_lines (p.lines + 1) p.content (cond v (p.line ∷ lines_after [] text) (lines_after (p.line ++ byte ∷ []) text))
byte_goes true byte text p is more file short =
    let ends : read_byte (reads p) byte ≡ end_line p (read_line (p.lines + 1) p.content p.line) = ap (read_byte (reads p)) (eqb-true byte 10 is) ∙ line_end p (omega (arith, file)) in
    ap (λ r. end_reading (read_bytes r text)) ends
    ∙ line_ends text p (read_line (p.lines + 1) p.content p.line) more file (All-tail IsShort p.line (lines_after [] text) short)
byte_goes false byte text p is more file short =
    let grown : length p.line < line_limit = let h = begun_short (p.line ++ byte ∷ []) text short in omega (arith, h, length-append p.line (byte ∷ [])) in
    ap (λ r. end_reading (read_bytes r text)) (one_byte p byte (omega (arith, file)) grown is)
    ∙ more (with_part p (byte ∷ [])) file short

text_goes : (text : List ℕ) → GoesByLine text
text_goes [] p file short = last_line p.content (read_line (p.lines + 1) p.content p.line) (p.lines + 1 + 1)
text_goes (byte ∷ text) p file short = byte_goes (byte == 10) byte text p refl (text_goes text) (omega (arith, file)) short

pub read_by_line : (text : List ℕ) → IsWithinLimits text → IsReadByLine text
unfolding reading_of file_traces file_fault
read_by_line text within =
    ap (read_lines 1 no_content) (sym (lines_are text))
    ∙ sym (text_goes text nothing_read (omega (arith, within.file)) (subst AreLinesShort (sym (lines_are text)) within.lines))
