-- The entries that the labels of a search give at its end.
use Rattle.std.proofs.Common.{◌≡◌, ℕ, List, Option, refl, sym, subst}
use mathlib.Core.Path.{fun_ext}
use Rattle.road_network.specs.Net.{Net, IsLawful}
use Rattle.bounded_table.specs.declared.table_row.Label.{Label}
use Rattle.bounded_table.specs.declared.table_row.Entry.{Entry}
use Rattle.bounded_table.specs.Table.{IsRow, RisesFrom, label_in}
use Rattle.bounded_table.specs.Closed.{IsClosed}
use Rattle.bounded_table.specs.LabelWords.{label_at}
use Rattle.bounded_table.proofs.ClosedTables.{table_of_closed}

-- entries that say what a closed table says are the row
pub row_of_labels : (n : Net) (bound s : ℕ) (labels : List ℕ) (entries : List Entry) → IsLawful n → IsClosed n bound s (label_at bound labels) → RisesFrom 0 entries → ((v : ℕ) → label_in entries v ≡ label_at bound labels v) → IsRow n bound s (record { origin = s; entries = entries })
row_of_labels n bound s labels entries lawful closed rising same =
    let tables : label_at bound labels ≡ label_in entries = fun_ext (λ v. sym (same v)) in
    record {
      origin = refl;
      rising = rising;
      table = table_of_closed n bound s (label_in entries) lawful (subst (λ (t : ℕ → Option Label). IsClosed n bound s t) tables closed);
    }
