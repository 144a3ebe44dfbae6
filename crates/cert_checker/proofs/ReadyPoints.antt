-- What a point rests on to which transitions are looked at.
use Rattle.std.proofs.Common.{◌≡◌, ◌<◌, ◌==◌, ℕ, ◌-◌, Bool, true, false, true≢false, length, Option, Some, is_some, sym, ap, arith}
use Rattle.std.specs.Prelude.{◌&&◌, ◌||◌, not, nat_lt}
use Rattle.std.proofs.lemmas.Bool.{ltb-true}
use Rattle.std.proofs.lemmas.Bool.Decides.{nat_tests}
use Rattle.matching.specs.Cells.{cell_at}
use Rattle.matching.specs.Layers.{AreNeighbours, IsLayer, end_of}
use Rattle.route_rebuild.specs.Routes.{no_layer}
use Rattle.cert_checker.specs.Case.{Case, has_row, is_looked_at, layer, table, width}
use Rattle.cert_checker.specs.inside.CaseSeen.{IsCheckable, IsPositionReady}
use Rattle.cert_checker.specs.inside.Columns.{has_row_of}
use Rattle.cert_checker.specs.Verdicts.{each_below, has_candidates}
use Rattle.cert_checker.proofs.EachBelow.{each_at}
use Rattle.cert_checker.proofs.RightRows.{both_true}

pub point_layer : (c : Case) (i : ℕ) → IsCheckable c → i < length c.layers → IsLayer c.net c.params (layer c i)
point_layer c i checkable below = checkable.layers i no_layer below

-- the table has a cell for each candidate
pub table_count : (c : Case) (i : ℕ) → has_candidates c i ≡ true → length (table c i) ≡ width c i
table_count c i has =
    let sized = both_true (nat_lt i (length c.proof.ranks) && nat_lt i (length c.proof.tables)) _ has in
    let count : (length (table c i) == width c i) ≡ true = (both_true (length (table c i) == width c i) _ sized.1).0 in
    grind (arith, nat_tests)

or_from : (a b : Bool) → (not a || b) ≡ true → a ≡ true → b ≡ true
or_from true b h e = h
or_from false b h e = absurd (true≢false (sym e))

module _ (c : Case) (i : ℕ) (ready : IsPositionReady c i) where
  pub is_later : 0 < i
  is_later = ltb-true 0 i (both_true (nat_lt 0 i) _ ready.looked).0

  pub neighbours : AreNeighbours c.net c.params (layer c (i - 1)) (layer c i)
  neighbours =
      let later = is_later in
      let low : i - 1 < length c.layers = let below = ready.below in omega (arith, below) in
      record {
        options = ready.checkable.options;
        before = point_layer c (i - 1) ready.checkable low;
        layer = point_layer c i ready.checkable ready.below;
      }

  pub cells_before : length (table c (i - 1)) ≡ width c (i - 1)
  cells_before = table_count c (i - 1) ready.before

  pub cells_here : length (table c i) ≡ width c i
  cells_here = table_count c i ready.here

  -- the certificate has the row of each live cell of the point before
  pub row_there : (a cost : ℕ) → a < width c (i - 1) → (cell_at (table c (i - 1)) a).cost ≡ Some cost → has_row c.rows (end_of c.net (layer c (i - 1)) a) ≡ true
  row_there a cost lt live =
      let all : each_below (width c (i - 1)) (has_row_of c i) ≡ true = or_from (is_looked_at c i) _ ready.rows ready.looked in
      let one : has_row_of c i a ≡ true = each_at (has_row_of c i) (width c (i - 1)) a all lt in
      or_from (is_some ((cell_at (table c (i - 1)) a).cost)) _ one (ap (λ (o : Option ℕ). is_some o) live)
