-- Tests of the cells of a position, one after the other, by the ways to each.
use Rattle.std.specs.Prelude.{ℕ, ◌≡◌, ◌-◌, ◌&&◌, ◌||◌, not, Bool, is_some, List, Option}
use Rattle.std.specs.List.{list_any, range_with_len}
use Rattle.cost_model.specs.Costs.{emission}
use Rattle.matching.specs.declared.parts.Cell.{Cell}
use Rattle.matching.specs.Cells.{cell_at}
use Rattle.matching.specs.Layers.{candidate_of_rank, end_of}
use Rattle.cert_checker.specs.declared.point_ways.PointWays.{PointWays}
use Rattle.cert_checker.specs.Case.{Case, has_row, layer, table, ways, width}
use Rattle.cert_checker.specs.Cells.{is_first_cell, is_first_pointer, is_relaxed, is_tight}
use Rattle.cert_checker.specs.Verdicts.{each_below}

-- cell a of the position before is not live, or the certificate has its row
abbrev pub has_row_of : Case → ℕ → ℕ → Bool
has_row_of c i a =
    not (is_some ((cell_at (table c (i - 1)) a).cost))
    || has_row c.rows (end_of c.net (layer c (i - 1)) a)

-- cell j costs what its candidate costs, without pointer
abbrev pub is_first_at : Case → ℕ → ℕ → Bool
is_first_at c i j =
    is_first_cell (emission c.params (candidate_of_rank (layer c i) j).d2) (cell_at (table c i) j)

-- and so does each cell
abbrev pub are_first_cells : Case → ℕ → Bool
are_first_cells c i = each_below (width c i) (is_first_at c i)

-- a test of each of the first n cells, by the ways to it
abbrev pub each_cell : (List (Option ℕ) → Cell → Bool) → Case → ℕ → ℕ → Bool
each_cell test c i n = each_below n (λ j. test (ways c i j) (cell_at (table c i) j))

-- what was found of the first n cells of position i
pub record AreWaysOf (c : Case) (i n : ℕ) (w : PointWays) : Type 0 where
  pub any : w.any ≡ list_any (λ j. list_any is_some (ways c i j)) (range_with_len 0 n)
  pub relaxed : w.relaxed ≡ each_cell is_relaxed c i n
  pub tight : w.tight ≡ each_cell is_tight c i n
  pub least : w.least ≡ each_cell is_first_pointer c i n

-- what was found, and one cell more
abbrev pub with_column : PointWays → List (Option ℕ) → Cell → PointWays
with_column w column cell = record {
  any = w.any || list_any is_some column;
  relaxed = w.relaxed && is_relaxed column cell;
  tight = w.tight && is_tight column cell;
  least = w.least && is_first_pointer column cell;
}
