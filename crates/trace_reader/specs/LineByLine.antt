-- A file read line by line: its lines are its parts between one LF and the next.
use Rattle.std.specs.Prelude.{◌≡◌, ℕ, ◌+◌, ◌≤◌, ◌==◌, All, List, [], ◌∷◌, length, Result, Ok, Err, Some}
use Rattle.std.specs.List.{slice_split}
use Rattle.trace_reader.specs.Content.{Content, no_content, read_line}
use Rattle.trace_reader.specs.Reading.{Outcome, end_content, file_fault, file_limit, file_traces, line_limit}
use Rattle.trace_reader.specs.declared.fault.TraceFault.{TraceFault}

-- the lines of a text without their LF, and what follows the last LF
abbrev pub lines_in : List ℕ → List (List ℕ)
lines_in text = slice_split (λ byte. byte == 10) text

-- what follows a line; a line with a fault is the last that is read
abbrev pub after_line : Content → Result Content TraceFault → (Content → Outcome) → Outcome
after_line before (Ok content) next = next content
after_line before (Err fault) next = record { traces = before.closed; fault = Some fault }

-- the lines are read one after the other; the first has this number
abbrev pub read_lines : ℕ → Content → List (List ℕ) → Outcome
read_lines number content [] = end_content content content.header
read_lines number content (line ∷ lines) =
    after_line content (read_line number content line)
    (λ next. read_lines (number + 1) next lines)

abbrev pub AreLinesShort : List (List ℕ) → Type 0
AreLinesShort lines = All (λ line. length line ≤ line_limit) lines

-- no limit of the file or of a line is passed
pub record IsWithinLimits (text : List ℕ) : Type 0 where
  pub file : length text ≤ file_limit
  pub lines : AreLinesShort (lines_in text)

-- the traces and the fault of the file are those of its lines
abbrev pub IsReadByLine : List ℕ → Type 0
IsReadByLine text =
    read_lines 1 no_content (lines_in text)
    ≡ record { traces = file_traces text; fault = file_fault text }
