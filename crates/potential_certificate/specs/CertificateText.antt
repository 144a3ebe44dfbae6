-- The text of a certificate: its first line, the lines of each proof, a line for each row, and its
-- last line.
use Rattle.std.specs.Prelude.{ℕ, ◌-◌, ◌^◌, ◌+◌, ◌==◌, if◌then◌else◌, List, [], ◌∷◌, ◌++◌, codes, length, map, Option, Some, None}
use Rattle.std.specs.List.{concat, flat_map}
use Rattle.cost_model.specs.declared.params.Params.{Params}
use Rattle.decimal_text.specs.Number.{decimal}
use Rattle.match_text.specs.MatchText.{end_line, label_line, line, piece_after, trace_line}
use Rattle.match_text.specs.declared.matched.Label.TheVariants.{Missing}
use Rattle.match_text.specs.declared.matched.Routed.{Routed}
use Rattle.matching.specs.declared.parts.Cell.{Cell}
use Rattle.row_text.specs.RowLine.{row_line}
use Rattle.potential_certificate.specs.declared.proof.Certificate.{Certificate}
use Rattle.potential_certificate.specs.declared.proof.TraceProof.{TraceProof}

abbrev pub certificate_text_limit : ℕ
certificate_text_limit = 1_073_741_824

-- ---- the first and the last line

-- which of its three forms the first line has: 3 where `gap` is not its default, else 2 where
-- `back` is not 0
abbrev pub form : Params → ℕ
form p = if p.gap == 2 ^ 32 - 1 then (if p.back == 0 then 1 else 2) else 3

-- the options that every form names
abbrev pub certificate_option_words : Params → List (List ℕ)
certificate_option_words p =
    codes "k" ∷ decimal p.k ∷ codes "radius" ∷ decimal p.radius
    ∷ codes "sigma" ∷ decimal p.sigma ∷ codes "beta" ∷ decimal p.beta
    ∷ codes "bound" ∷ decimal p.bound ∷ []

abbrev pub back_words : Params → List (List ℕ)
back_words p = if form p == 1 then [] else codes "back" ∷ decimal p.back ∷ []

abbrev pub gap_words : Params → List (List ℕ)
gap_words p = if form p == 3 then codes "gap" ∷ decimal p.gap ∷ [] else []

-- `fmm-certificate 1 k K radius A sigma S beta B bound U`, with `back W` and `gap G` in its forms
abbrev pub certificate_first_line : Params → List ℕ
certificate_first_line p = line (codes "fmm-certificate")
    (decimal (form p) ∷ certificate_option_words p ++ back_words p ++ gap_words p)

-- `certified traces T rows R`
abbrev pub last_line : ℕ → ℕ → List ℕ
last_line traces rows = line (codes "certified")
    (codes "traces" ∷ decimal traces ∷ codes "rows" ∷ decimal rows ∷ [])

-- ---- the lines of a proof

-- the rank of the position before
abbrev pub pointer_word : Option ℕ → List ℕ
pointer_word None = []
pointer_word (Some rank) = codes "<" ++ decimal rank

-- `-`, or the cost `C`, or the cost and the rank of the position before `C<P`
abbrev pub cost_word : Option ℕ → Option ℕ → List ℕ
cost_word None pointer = codes "-"
cost_word (Some cost) pointer = decimal cost ++ pointer_word pointer

abbrev pub cell_word : Cell → List ℕ
cell_word cell = cost_word cell.cost cell.«from»

-- `layer I rank R cells X0 X1 ..`
abbrev pub layer_line : ℕ → ℕ → List Cell → List ℕ
layer_line i rank cells = line (codes "layer")
    (decimal i ∷ codes "rank" ∷ decimal rank ∷ codes "cells" ∷ map cell_word cells)

-- the line of the position number i: `none I` where it has no rank
abbrev pub point_line : ℕ → Option ℕ → List Cell → List ℕ
point_line i None cells = label_line i Missing
point_line i (Some rank) cells = layer_line i rank cells

-- the lines of the positions from i on, the line of a piece directly after that of its last position
abbrev pub position_lines : ℕ → List (Option ℕ) → List (List Cell) → List Routed → List (List ℕ)
position_lines i [] tables pieces = []
position_lines i (rank ∷ ranks) [] pieces = []
position_lines i (rank ∷ ranks) (cells ∷ tables) pieces =
    point_line i rank cells ∷ piece_after i pieces (position_lines (i + 1) ranks tables)

abbrev pub proof_text : TraceProof → List ℕ
proof_text proof = trace_line proof.id
    ++ (concat (position_lines 0 proof.ranks proof.tables proof.pieces) ++ end_line proof.id)

-- ---- the text, for these options

abbrev pub certificate_text : Params → Certificate → List ℕ
certificate_text p c =
    certificate_first_line p ++ (flat_map proof_text c.proofs
    ++ (flat_map row_line c.rows ++ last_line (length c.proofs) (length c.rows)))

-- ---- its lines

abbrev pub proof_lines : TraceProof → List (List ℕ)
proof_lines proof = trace_line proof.id
    ∷ (position_lines 0 proof.ranks proof.tables proof.pieces ++ end_line proof.id ∷ [])

abbrev pub certificate_lines : Params → Certificate → List (List ℕ)
certificate_lines p c =
    certificate_first_line p ∷ (flat_map proof_lines c.proofs
    ++ (map row_line c.rows ++ last_line (length c.proofs) (length c.rows) ∷ []))
