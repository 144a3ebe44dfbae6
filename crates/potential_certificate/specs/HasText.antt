-- Which certificates have a text.
use Rattle.std.specs.Prelude.{ℕ, ◌≡◌, ◌^◌, ◌+◌, ◌<◌, ◌≤◌, List, [], ◌∷◌, length, map, Option, Some, None, IfSome}
use Rattle.std.specs.List.{AllByRecursion}
use Rattle.bounded_table.specs.Table.{TableRow}
use Rattle.match_text.specs.MatchText.{IsLawful, PieceFits}
use Rattle.match_text.specs.declared.matched.Label.{Label}
use Rattle.match_text.specs.declared.matched.Label.TheVariants.{Missing, On}
use Rattle.match_text.specs.declared.matched.MatchedTrace.{MatchedTrace}
use Rattle.matching.specs.declared.parts.Cell.{Cell}
use Rattle.row_text.specs.Laws.{IsRowValue}
use Rattle.potential_certificate.specs.declared.proof.Certificate.{Certificate}
use Rattle.potential_certificate.specs.declared.proof.TraceProof.{TraceProof}

-- ---- positions

-- no pointer without a cost
abbrev pub IsCellWord : Option ℕ → Option ℕ → Type 0
IsCellWord None pointer = pointer ≡ None
IsCellWord (Some cost) pointer = (cost < 2 ^ 64) × IfSome pointer (λ rank. rank < 2 ^ 32)

-- and the numbers have the range of their types
abbrev pub IsCellValue : Cell → Type 0
IsCellValue cell = IsCellWord cell.cost cell.«from»

-- a position without a rank has no cells; another has 1 to 32, and its rank is one of them
abbrev pub IsPoint : Option ℕ → List Cell → Type 0
IsPoint None cells = cells ≡ []
IsPoint (Some rank) cells =
    (rank < length cells) × (length cells ≤ 32) × AllByRecursion IsCellValue cells

-- as many ranks as tables, which are positions
abbrev pub ArePoints : List (Option ℕ) → List (List Cell) → Type 0
ArePoints [] [] = Unit {0}
ArePoints [] (cells ∷ tables) = ⊥
ArePoints (rank ∷ ranks) [] = ⊥
ArePoints (rank ∷ ranks) (cells ∷ tables) = IsPoint rank cells × ArePoints ranks tables

-- ---- proofs

-- a position with a rank lies on a road; which place it is, does not count here
abbrev pub label_of_proof : Option ℕ → Label
label_of_proof None = Missing
label_of_proof (Some rank) = On 0 0 0

-- a match whose positions lie on roads where those of the proof have a rank, with the same pieces
abbrev pub match_of_proof : TraceProof → MatchedTrace
match_of_proof proof =
    record { id = proof.id; labels = map label_of_proof proof.ranks; pieces = proof.pieces }

-- the pieces lie over the positions with a rank as those of a match text
pub record IsProof (proof : TraceProof) : Type 0 where
  pub points : ArePoints proof.ranks proof.tables
  pub pieces : IsLawful (match_of_proof proof)
  pub id : proof.id < 2 ^ 32
  pub pieces_fit : AllByRecursion PieceFits proof.pieces

-- ---- certificates

-- the origins rise strictly, from `least` on
abbrev pub AreRowValuesFrom : (least : ℕ) → List TableRow → Type 0
AreRowValuesFrom least [] = Unit {0}
AreRowValuesFrom least (row ∷ rows) =
    IsRowValue row × (least ≤ row.origin) × AreRowValuesFrom (row.origin + 1) rows

-- the numbers have the range of their types, and the rows meet the three rules of a row
pub record HasText (c : Certificate) : Type 0 where
  pub proofs : AllByRecursion IsProof c.proofs
  pub rows : AreRowValuesFrom 0 c.rows
  pub few : length c.rows < 2 ^ 32
