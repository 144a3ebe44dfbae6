-- The lines of a match.
use Rattle.std.specs.Prelude.{ℕ, ◌+◌, ◌==◌, if◌then◌else◌, List, [], ◌∷◌, ◌++◌, map, codes}
use Rattle.std.specs.List.{concat}
use Rattle.decimal_text.specs.Number.{decimal}
use Rattle.match_text.specs.declared.matched.Label.{Label}
use Rattle.match_text.specs.declared.matched.Label.TheVariants.{Missing, On}
use Rattle.match_text.specs.declared.matched.Routed.{Routed}
use Rattle.match_text.specs.declared.matched.MatchedTrace.{MatchedTrace}

-- ---- lines

-- each word after a space, and LF
abbrev pub words_after : List (List ℕ) → List ℕ
words_after [] = 10 ∷ []
words_after (word ∷ words) = 32 ∷ (word ++ words_after words)

-- a line: its words with one space between each two, and LF
abbrev pub line : List ℕ → List (List ℕ) → List ℕ
line word words = word ++ words_after words

abbrev pub trace_line : ℕ → List ℕ
trace_line id = line (codes "trace") (decimal id ∷ [])

-- the line of the position number i
abbrev pub label_line : ℕ → Label → List ℕ
label_line i Missing = line (codes "none") (decimal i ∷ [])
label_line i (On edge offset d2) = line (codes "at")
    (decimal i ∷ codes "edge" ∷ decimal edge ∷ codes "offset" ∷ decimal offset
    ∷ codes "d2" ∷ decimal d2 ∷ [])

abbrev pub piece_line : Routed → List ℕ
piece_line piece = line (codes "piece")
    (decimal piece.first ∷ decimal piece.last ∷ codes "cost" ∷ decimal piece.cost
    ∷ codes "route" ∷ map decimal piece.route)

abbrev pub end_line : ℕ → List ℕ
end_line id = line (codes "end") (decimal id ∷ [])

-- ---- the text

-- after the line of the position i: the line of the next piece if i is its last position, and the rest
abbrev pub piece_after : ℕ → List Routed → (List Routed → List (List ℕ)) → List (List ℕ)
piece_after i [] rest = rest []
piece_after i (piece ∷ pieces) rest =
    if piece.last == i then piece_line piece ∷ rest pieces else rest (piece ∷ pieces)

-- the lines of the positions from i on, the line of a piece directly after that of its last position
abbrev pub point_lines : ℕ → List Label → List Routed → List (List ℕ)
point_lines i [] pieces = []
point_lines i (label ∷ labels) pieces =
    label_line i label ∷ piece_after i pieces (point_lines (i + 1) labels)

abbrev pub lines_of : MatchedTrace → List (List ℕ)
lines_of m = trace_line m.id ∷ (point_lines 0 m.labels m.pieces ++ end_line m.id ∷ [])

abbrev pub text_of : MatchedTrace → List ℕ
text_of m = concat (lines_of m)
