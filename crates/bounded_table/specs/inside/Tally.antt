-- What arcs tell of a row by the words of the nodes where they end, from a raised least word of a distance.
use Rattle.std.specs.Prelude.{ℕ, ◌≡◌, ◌+◌, ◌≤◌, ◌==◌, ◌↔◌, Bool, false, List, slice_index}
use Rattle.std.specs.List.{All, count_by}
use Rattle.road_network.specs.declared.Arc.{Arc}
use Rattle.bounded_table.specs.declared.word_check.Tally.{Tally}
use Rattle.bounded_table.specs.LabelWords.{word_by}

-- the raised word of the label by an arc
abbrev pub word_over : ℕ → Arc → ℕ
word_over base a = base + word_by a.length a.edge.0

-- whether that is the word where the arc ends
abbrev pub is_met : List ℕ → ℕ → Arc → Bool
is_met words base a = word_over base a == slice_index words a.to.0

-- or it is no less
abbrev pub IsEnough : List ℕ → ℕ → Arc → Type 0
IsEnough words base a = slice_index words a.to.0 ≤ word_over base a

-- how many arcs meet the word where they end, and whether one of them is not enough
pub record IsTally (words : List ℕ) (base : ℕ) (arcs : List Arc) (t : Tally) : Type 0 where
  pub given : t.given ≡ count_by (is_met words base) arcs
  pub short : (t.short ≡ false) ↔ All (IsEnough words base) arcs
