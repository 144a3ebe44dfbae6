-- The text of a table: its first line, a line for each row, and its last line.
use Rattle.std.specs.Prelude.{ℕ, List, [], ◌∷◌, ◌++◌, codes, length, map}
use Rattle.std.specs.List.{flat_map}
use Rattle.bounded_table.specs.Table.{TableRow}
use Rattle.decimal_text.specs.Number.{decimal}
use Rattle.match_text.specs.MatchText.{line}
use Rattle.row_text.specs.RowLine.{row_line}

abbrev pub table_text_limit : ℕ
table_text_limit = 1_073_741_824

-- `fmm-table 1 bound U nodes N edges M`
abbrev pub table_first_line : (bound nodes edges : ℕ) → List ℕ
table_first_line bound nodes edges = line (codes "fmm-table")
    (codes "1" ∷ codes "bound" ∷ decimal bound ∷ codes "nodes" ∷ decimal nodes
    ∷ codes "edges" ∷ decimal edges ∷ [])

-- `end rows R`
abbrev pub table_end_line : ℕ → List ℕ
table_end_line rows = line (codes "end") (codes "rows" ∷ decimal rows ∷ [])

abbrev pub row_lines : List TableRow → List ℕ
row_lines rows = flat_map row_line rows

-- the text of these rows, for this bound and these counts
abbrev pub table_text : (bound nodes edges : ℕ) → List TableRow → List ℕ
table_text bound nodes edges rows =
    table_first_line bound nodes edges ++ (row_lines rows ++ table_end_line (length rows))

-- the lines of this text
abbrev pub table_lines : (bound nodes edges : ℕ) → List TableRow → List (List ℕ)
table_lines bound nodes edges rows =
    table_first_line bound nodes edges ∷ (map row_line rows ++ table_end_line (length rows) ∷ [])
