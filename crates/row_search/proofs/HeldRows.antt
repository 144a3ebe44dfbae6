-- Rows that are held in places, one for each node.
use Rattle.std.proofs.Common.{◌≡◌, inl, inr, ℕ, ◌<◌, List, length, set, length-set, Option, Some, sym, ◌∙◌, subst}
use Rattle.std.specs.Prelude.{slice_get}
use Rattle.std.proofs.lemmas.Bool.{cases_eq}
use Rattle.bounded_table.specs.Table.{BoundedTable, TableRow, IsRow}
use Rattle.row_search.specs.inside.OwnInside.{HoldsRows}
use Rattle.bounded_table.proofs.KnownNodes.{get_set, get_set_else}

-- the row of n put into its place
pub holds_more : (table : BoundedTable) (places : List (Option TableRow)) (n : ℕ) (row : TableRow) → HoldsRows table places → n < length places → IsRow table.network table.bound n row → HoldsRows table (set places n (Some row))
holds_more table places n row h lt is = record {
  places_count = length-set places n (Some row) ∙ h.places_count;
  rows = λ k r e. elim (cases_eq k n) [
    | inl same ↦
        let got : slice_get (set places n (Some row)) k ≡ Some (Some row) = rw same (get_set places n (Some row) lt) in
        let one : Some (Some row) ≡ Some (Some r) = sym got ∙ e in
        let row_is : row ≡ r = cc in
        subst (λ (x : TableRow). IsRow table.network table.bound k x) row_is (rw same is)
    | inr apart ↦ h.rows k r (sym (get_set_else places n k (Some row) apart) ∙ e)
  ];
}
