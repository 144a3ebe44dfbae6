-- Words of a line.
use Rattle.std.specs.Prelude.{ℕ, List, ◌∷◌}
use Rattle.std.specs.List.{flat_map}
use Rattle.matching.specs.declared.parts.Cell.{Cell}
use Rattle.potential_certificate.specs.CertificateText.{cell_word}

-- each word after a space
abbrev pub words_text : List (List ℕ) → List ℕ
words_text words = flat_map (λ word. 32 ∷ word) words

-- each cell after a space
abbrev pub cells_text : List Cell → List ℕ
cells_text cells = flat_map (λ cell. 32 ∷ cell_word cell) cells
