-- What one column more says of the cells of a point.
use Rattle.std.proofs.Common.{◌≡◌, ◌+◌, ℕ, Bool, List, Option, is_some, sym, ◌∙◌, ap}
use Rattle.std.specs.Prelude.{◌&&◌, ◌||◌}
use Rattle.std.specs.List.{list_any}
use Rattle.matching.specs.declared.parts.Cell.{Cell}
use Rattle.matching.specs.Cells.{cell_at}
use Rattle.cert_checker.specs.declared.point_ways.PointWays.{PointWays}
use Rattle.cert_checker.specs.Case.{Case, table, ways}
use Rattle.cert_checker.specs.Cells.{is_first_pointer, is_relaxed, is_tight}
use Rattle.cert_checker.specs.inside.Columns.{AreWaysOf, each_cell, with_column}
use Rattle.cert_checker.proofs.EachBelow.{any_more, each_more}

one_cell : (c : Case) (i n : ℕ) (test : List (Option ℕ) → Cell → Bool) (b : Bool) → b ≡ each_cell test c i n
    → (b && test (ways c i n) (cell_at (table c i) n)) ≡ each_cell test c i (n + 1)
one_cell c i n test b e =
    let here : ℕ → Bool = λ j. test (ways c i j) (cell_at (table c i) j) in
    ap (λ (v : Bool). v && here n) e ∙ sym (each_more here n)

pub one_column : (c : Case) (i n : ℕ) (w : PointWays) → AreWaysOf c i n w → AreWaysOf c i (n + 1) (with_column w (ways c i n) (cell_at (table c i) n))
one_column c i n w h = record {
  any = ap (λ (v : Bool). v || list_any is_some (ways c i n)) h.any ∙ sym (any_more (λ j. list_any is_some (ways c i j)) n);
  relaxed = one_cell c i n is_relaxed w.relaxed h.relaxed;
  tight = one_cell c i n is_tight w.tight h.tight;
  least = one_cell c i n is_first_pointer w.least h.least;
}
