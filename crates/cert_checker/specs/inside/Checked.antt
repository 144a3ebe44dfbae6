-- What is known of the positions of a trace that have been checked.
use Rattle.std.specs.Prelude.{ℕ, ◌≡◌, ◌<◌, ◌≤◌, ◌-◌, ◌&&◌, true, List, [], ◌∷◌, length}
use Rattle.match_text.specs.declared.matched.Routed.{Routed}
use Rattle.cert_checker.specs.Case.{Case, has_way, is_looked_at, width}
use Rattle.cert_checker.specs.inside.CaseSeen.{IsCheckable}
use Rattle.cert_checker.specs.Cells.{is_first_pointer, is_relaxed, is_tight}
use Rattle.cert_checker.specs.inside.Columns.{each_cell}
use Rattle.cert_checker.specs.inside.InHand.{AreLeft}
use Rattle.cert_checker.specs.Verdicts.{each_later, has_breaks, has_candidates, has_rows}
use Rattle.cert_checker.specs.declared.verdict.Condition.{Condition}
use Rattle.cert_checker.specs.declared.verdict.Condition.TheVariants.{Break, FirstCost, Pointer, Relaxed, Tight}
use Rattle.cert_checker.specs.declared.point_ways.PointWays.{PointWays}

-- the position has met the conditions that the chosen ranks and the routes rest on
pub record HasCells (c : Case) (i : ℕ) : Type 0 where
  pub candidates : has_candidates c i ≡ true
  pub rows : has_rows c i ≡ true
  pub breaks : has_breaks c i ≡ true
  pub tight : each_later is_tight c i ≡ true

-- the position and those before it have their tables, ranks and rows
pub record IsMet (c : Case) (i : ℕ) : Type 0 where
  pub checkable : IsCheckable c
  pub below : i < length c.layers
  pub before : 0 < i → has_candidates c (i - 1) ≡ true
  pub here : has_candidates c i ≡ true
  pub rows : has_rows c i ≡ true

-- the positions before i have met them, and these pieces end at i or later
pub record IsNextPosition (c : Case) (i : ℕ) (left : List Routed) : Type 0 where
  pub checkable : IsCheckable c
  pub below : i < length c.layers
  pub pieces : AreLeft c.proof.pieces left i
  pub before : (k : ℕ) → k < i → HasCells c k

-- so has position i
pub record IsAtEnd (c : Case) (i : ℕ) (left : List Routed) : Type 0 where
  pub checkable : IsCheckable c
  pub below : i < length c.layers
  pub pieces : AreLeft c.proof.pieces left i
  pub points : (k : ℕ) → k ≤ i → HasCells c k

-- what the ways say of position i, where transitions are looked at
pub record TellsWays (c : Case) (i : ℕ) (w : PointWays) : Type 0 where
  pub any : w.any ≡ (is_looked_at c i && has_way c i)
  pub relaxed : is_looked_at c i ≡ true → w.relaxed ≡ each_cell is_relaxed c i (width c i)
  pub tight : is_looked_at c i ≡ true → w.tight ≡ each_cell is_tight c i (width c i)
  pub least : is_looked_at c i ≡ true → w.least ≡ each_cell is_first_pointer c i (width c i)

-- the conditions on pieces and cells, in the order in which they are tried
abbrev pub of_cells : List Condition
of_cells = Break ∷ FirstCost ∷ Relaxed ∷ Tight ∷ Pointer ∷ []
