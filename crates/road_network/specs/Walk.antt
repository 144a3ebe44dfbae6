-- Walks through a network, their lengths and their order.
-- A walk is kept as the list of its edges FROM THE LAST TO THE FIRST, so that its last edge is the
-- head of the list, a walk that goes one edge further is `e ∷ w`, and the order that reads the
-- edges from the last to the first is the plain order of lists.
use Rattle.std.specs.Prelude.{ℕ, ◌≡◌, ◌+◌, ◌<◌, ◌⊎◌, List, [], ◌∷◌}
use Rattle.road_network.specs.Net.{Net, HasEdge, source, target, span}

-- w is a walk from s to v
abbrev pub IsWalk : Net → ℕ → List ℕ → ℕ → Type 0
IsWalk n s [] v = s ≡ v
IsWalk n s (e ∷ w) v = HasEdge n e × (target n e ≡ v) × IsWalk n s w (source n e)

-- the sum of the lengths of its edges
abbrev pub walk_length : Net → List ℕ → ℕ
walk_length n [] = 0
walk_length n (e ∷ w) = walk_length n w + span n e

-- the numbers of x, read from the last edge, come before those of y or are the same
abbrev pub ReadsBefore : List ℕ → List ℕ → Type 0
ReadsBefore [] y = Unit {0}
ReadsBefore (a ∷ x) [] = ⊥
ReadsBefore (a ∷ x) (b ∷ y) = (a < b) ⊎ ((a ≡ b) × ReadsBefore x y)

-- x is shorter than y, or as long and not after it
abbrev pub IsAtMost : Net → List ℕ → List ℕ → Type 0
IsAtMost n x y =
    (walk_length n x < walk_length n y) ⊎ ((walk_length n x ≡ walk_length n y) × ReadsBefore x y)

-- w is the least walk from s to v
pub record IsLeastWalk (n : Net) (s : ℕ) (w : List ℕ) (v : ℕ) : Type 0 where
  pub walk : IsWalk n s w v
  pub least : (x : List ℕ) → IsWalk n s x v → IsAtMost n w x

-- the edges es, in the order of travel, lead from u to v
abbrev pub Leads : Net → ℕ → List ℕ → ℕ → Type 0
Leads n u [] v = u ≡ v
Leads n u (e ∷ es) v = HasEdge n e × (source n e ≡ u) × Leads n (target n e) es v
