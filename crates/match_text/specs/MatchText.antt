-- The text of one matched trace, which matched traces are lawful, and the first line that is not allowed.
use Rattle.std.specs.Prelude.{◌≡◌, ◌-◌, ◌≢◌, ℕ, zero, suc, ◌+◌, ◌^◌, ◌<◌, ◌≤◌, ◌↔◌, ◌⊎◌, List, [], ◌∷◌, ◌++◌, length, take}
use Rattle.std.specs.List.{concat, AllByRecursion}
use Rattle.match_text.specs.declared.matched.Label.{Label}
use Rattle.match_text.specs.declared.matched.Label.TheVariants.{Missing, On}
use Rattle.match_text.specs.declared.matched.Routed.{Routed}
use Rattle.match_text.specs.declared.matched.MatchedTrace.{MatchedTrace}
pub use Rattle.match_text.specs.Lines.{end_line, label_line, line, lines_of, piece_after, piece_line, point_lines, text_of, trace_line, words_after}

-- ---- lawful matched traces

abbrev pub IsOn : Label → Type 0
IsOn Missing = ⊥
IsOn (On edge offset d2) = Unit {0}

-- the position i is there and has a candidate
abbrev pub IsMatched : List Label → ℕ → Type 0
IsMatched [] i = ⊥
IsMatched (label ∷ labels) zero = IsOn label
IsMatched (label ∷ labels) (suc i) = IsMatched labels i

-- the position i lies in one of the pieces
abbrev pub IsCovered : List Routed → ℕ → Type 0
IsCovered [] i = ⊥
IsCovered (piece ∷ pieces) i = ((piece.first ≤ i) × (i ≤ piece.last)) ⊎ IsCovered pieces i

-- none begins before the position i, and each begins after the one before it ends
abbrev pub IsRising : ℕ → List Routed → Type 0
IsRising i [] = Unit {0}
IsRising i (piece ∷ pieces) =
    (i ≤ piece.first) × (piece.first ≤ piece.last) × IsRising (piece.last + 1) pieces

pub record IsLawful (m : MatchedTrace) : Type 0 where
  pub rising : IsRising 0 m.pieces
  -- the pieces cover exactly the positions that are not Missing
  pub covers : (i : ℕ) → IsMatched m.labels i ↔ IsCovered m.pieces i
  pub routes : AllByRecursion (λ piece. piece.route ≢ []) m.pieces
  pub few : length m.labels ≤ 100000

-- ---- the numbers of a matched trace fit the types of its fields

abbrev pub LabelFits : Label → Type 0
LabelFits Missing = Unit {0}
LabelFits (On edge offset d2) = (edge < 2 ^ 32) × (offset < 2 ^ 32) × (d2 < 2 ^ 64)

pub record PieceFits (piece : Routed) : Type 0 where
  pub first : piece.first < 2 ^ 32
  pub last : piece.last < 2 ^ 32
  pub cost : piece.cost < 2 ^ 64
  pub route : AllByRecursion (λ edge. edge < 2 ^ 32) piece.route

pub record Fits (m : MatchedTrace) : Type 0 where
  pub id : m.id < 2 ^ 32
  pub labels : AllByRecursion LabelFits m.labels
  pub pieces : AllByRecursion PieceFits m.pieces

-- ---- the first line that is not allowed or is missing

-- the first n lines of the text are the first n lines of the text of some lawful matched trace
pub record BeginsWithLines (n : ℕ) (text : List ℕ) : Type 0 where
  pub trace : MatchedTrace
  pub lawful : IsLawful trace
  pub fits : Fits trace
  pub enough : n ≤ length (lines_of trace)
  pub rest : List ℕ
  pub begins : text ≡ concat (take n (lines_of trace)) ++ rest

-- the lines before line n are allowed, and line n, from 1, is not or is missing
pub record IsFirstBadLine (n : ℕ) (text : List ℕ) : Type 0 where
  pub positive : 1 ≤ n
  pub before : BeginsWithLines (n - 1) text
  pub bad : ¬ BeginsWithLines n text
  pub not_whole : (m : MatchedTrace) → IsLawful m → Fits m → text ≢ text_of m
