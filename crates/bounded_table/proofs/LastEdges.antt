-- Last edges lead back along least walks.
use Rattle.std.proofs.Common.{◌≡◌, ◌≢◌, ℕ, ◌+◌, inl, inr, List, [], ◌∷◌, Option, Some, refl, sym, ap, subst, ◌∙◌}
use Rattle.std.proofs.lemmas.Bool.Decides.{eqb_tells}
use Rattle.std.proofs.lemmas.Option.{same_Some}
use Rattle.std.specs.Option.{option_map}
use Rattle.road_network.specs.Net.{Net, HasEdge, IsLawful, source, span, target}
use Rattle.road_network.specs.Walk.{IsLeastWalk}
use Rattle.road_network.specs.declared.EdgeId.{EdgeId}
use Rattle.road_network.proofs.Least.{same_least, front_least}
use Rattle.bounded_table.specs.declared.table_row.Entry.{Entry}
use Rattle.bounded_table.specs.declared.table_row.Label.{Label}
use Rattle.bounded_table.specs.Closed.{IsClosed, IsReached, origin_label}
use Rattle.bounded_table.specs.Laws.{EndsBy}
use Rattle.bounded_table.specs.Table.{IsLabelOf, IsRow, TableRow, entry_in, label_in, label_of, last_edge}
use Rattle.bounded_table.proofs.ClosedTables.{closed_of_table, none_some}
use Rattle.bounded_table.proofs.Entries.{IsEntryOf, entry_with}

-- the entry of a node is of that node
pub entry_node : (entries : List Entry) (v : ℕ) (x : Entry) → entry_in entries v ≡ Some x → x.node.0 ≡ v
entry_node [] v x e = absurd (none_some refl e)
entry_node (y ∷ entries) v x e =
    elim (eqb_tells y.node.0 v) [
      | inl t ↦ ap (λ (k : Entry). k.node.0) (sym (same_Some y x (rw t.0 at e))) ∙ t.1
      | inr t ↦ entry_node entries v x (rw t.0 at e)
    ]

-- the least walk to a node goes on from the least walk to the source of its last edge
walk_by : (n : Net) (s v e : ℕ) (whole w : List ℕ) → IsLeastWalk n s whole v → Some (record { 0 = e }) ≡ last_edge whole → IsLeastWalk n s w (source n e) → IsLeastWalk n s (e ∷ w) v
walk_by n s v e [] w least last front = absurd (none_some refl (sym last))
walk_by n s v e (f ∷ y) w least last front =
    let same : e ≡ f = ap (λ (k : EdgeId). k.0) (same_Some (record { 0 = e }) (record { 0 = f }) last) in
    let least_front : IsLeastWalk n s y (source n e) = subst (λ (k : ℕ). IsLeastWalk n s y (source n k)) (sym same) (front_least n s v f y least) in
    let one : y ≡ w = same_least n s (source n e) y w least_front front in
    subst (λ (k : List ℕ). IsLeastWalk n s k v) (ap (λ (k : ℕ). k ∷ y) (sym same) ∙ ap (λ (k : List ℕ). e ∷ k) one) least

pub ends_by : (n : Net) (bound s : ℕ) (row : TableRow) (v : ℕ) (x : Entry) (e : EdgeId) → IsLawful n → IsRow n bound s row → entry_in row.entries v ≡ Some x → x.last ≡ Some e → EndsBy n row x e.0
ends_by n bound s row v x e lawful is at last =
    let table : ℕ → Option Label = label_in row.entries in
    let closed : IsClosed n bound s table = closed_of_table n bound s table lawful is.table in
    let node : x.node.0 ≡ v = entry_node row.entries v x at in
    let label : table v ≡ Some (label_of x) = ap (option_map label_of) at in
    let apart : v ≢ s = λ same.
    let origin : label_of x ≡ origin_label = same_Some (label_of x) origin_label (sym label ∙ (ap table same ∙ closed.origin)) in
    none_some (ap (λ (k : Label). k.last) origin) last in
    let by : IsReached n table v (label_of x) = (closed.closed v (label_of x) label).reached apart in
    let edge : by.edge ≡ e.0 = ap (λ (k : EdgeId). k.0) (same_Some (record { 0 = by.edge }) e (sym by.last ∙ last)) in
    let front : IsEntryOf row.entries (source n by.edge) by.before = entry_with row.entries (source n by.edge) by.before by.listed in
    let told : IsLabelOf n bound s v (label_of x) = is.table.listed v (label_of x) label in
    record {
      has = subst (λ (k : ℕ). HasEdge n k) edge by.has;
      ends = ap (target n) (sym edge) ∙ (by.ends ∙ sym node);
      before = front.entry;
      listed = ap (λ (k : ℕ). entry_in row.entries (source n k)) (sym edge) ∙ front.at;
      distance = ap (λ (k : Label). k.distance + span n e.0) front.label ∙ (ap (λ (k : ℕ). by.before.distance + span n k) (sym edge) ∙ by.distance);
      walks = λ w least.
          rw (is.origin, node) (walk_by n s v e.0 told.walk w told.least (sym last ∙ told.last) (rw is.origin at least));
    }
