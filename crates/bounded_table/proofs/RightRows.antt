-- The value `is_right_row` tells whether a row is that of its origin.
use Rattle.std.proofs.Common.{◌≡◌, ◌↔◌, ℕ, ◌==◌, Bool, false, length, Option, Some, None, refl, sym, ◌∙◌, ap}
use Rattle.std.specs.Prelude.{IsTrue, ◌&&◌, nat_lt}
use Rattle.std.specs.Bool.{Decides}
use Rattle.std.specs.Cmp.Lexicographic.{pointwise}
use Rattle.std.specs.Option.{option_eq}
use Rattle.std.proofs.lemmas.Bool.{and_from, and_parts, lt-ltb, ltb-true}
use Rattle.std.proofs.lemmas.Bool.Decides.{Decides-and, Decides-eqb, Decides-like, same_from_decides}
use Rattle.std.proofs.lemmas.Slice.Eq.{slice_eq-Decides}
use Rattle.road_network.specs.Net.{HasNode, IsLawful, Net}
use Rattle.road_network.specs.declared.EdgeId.{EdgeId}
use Rattle.bounded_table.specs.declared.table_row.Entry.{Entry}
use Rattle.bounded_table.specs.RightRow.{IsRightRow, is_right_row, is_same_entry}
use Rattle.bounded_table.specs.RowValue.{row_of}
use Rattle.bounded_table.specs.Table.{IsRow, TableRow}
use Rattle.bounded_table.proofs.RowValues.{row_values}

-- ---- entries

is_edge : (a b : EdgeId) → a.0 ≡ b.0 → a ≡ b
is_edge a b e i = record { 0 = e i }

same_last : (a b : Option EdgeId) → Decides (option_eq (λ (x y : EdgeId). x.0 == y.0) a b) (a ≡ b)
same_last None None = (λ _. refl, λ _. refl)
same_last None (Some y) = (λ e. cc, λ e. cc)
same_last (Some x) None = (λ e. cc, λ e. cc)
same_last (Some x) (Some y) =
    Decides-like (x.0 == y.0) (λ (e : x.0 ≡ y.0). ap (λ (z : EdgeId). Some z) (is_edge x y e)) (λ (e : Some x ≡ Some y). let same : x ≡ y = cc in ap (λ (z : EdgeId). z.0) same) (Decides-eqb x.0 y.0)

abbrev AreSameParts : Entry → Entry → Type 0
AreSameParts x y = (x.node.0 ≡ y.node.0) × ((x.distance ≡ y.distance) × (x.last ≡ y.last))

is_entry : (x y : Entry) → AreSameParts x y → x ≡ y
is_entry x y parts i = record { node = record { 0 = parts.0 i }; distance = parts.1.0 i; last = parts.1.1 i }

has_parts : (x y : Entry) → x ≡ y → AreSameParts x y
has_parts x y e = (ap (λ (z : Entry). z.node.0) e, (ap (λ (z : Entry). z.distance) e, ap (λ (z : Entry). z.last) e))

same_entry : (x y : Entry) → Decides (is_same_entry x y) (x ≡ y)
same_entry x y =
    Decides-like (is_same_entry x y) (is_entry x y) (has_parts x y)
    (Decides-and (x.node.0 == y.node.0) _ (Decides-eqb x.node.0 y.node.0) (Decides-and (x.distance == y.distance) _ (Decides-eqb x.distance y.distance) (same_last x.last y.last)))

-- ---- rows

is_row : (row other : TableRow) → row.origin ≡ other.origin → row.entries ≡ other.entries → row ≡ other
is_row row other origin entries i = record { origin = origin i; entries = entries i }

-- whether a row has the entries of the row of its origin
abbrev pub has_right_entries : Net → ℕ → TableRow → Bool
has_right_entries net bound row = pointwise is_same_entry row.entries (row_of net bound row.origin).entries

pub right_is : (net : Net) (bound : ℕ) (row : TableRow) → Decides (has_right_entries net bound row) (row ≡ row_of net bound row.origin)
right_is net bound row =
    let value = row_of net bound row.origin in
    Decides-like (has_right_entries net bound row) (is_row row value refl) (λ (e : row ≡ value). ap (λ (r : TableRow). r.entries) e)
    (slice_eq-Decides same_entry row.entries value.entries (has_right_entries net bound row) refl)

-- whoever decides whether a row is that of its origin gives the value
pub tried_is : (net : Net) (bound : ℕ) (row : TableRow) (t : Bool) → IsLawful net → HasNode net row.origin → (IsTrue t ↔ IsRow net bound row.origin row) → t ≡ is_right_row net bound row
tried_is net bound row t lawful has tried =
    let values = row_values net bound row.origin row lawful has in
    sym (same_from_decides {P = row ≡ row_of net bound row.origin} (has_right_entries net bound row) t (right_is net bound row) (λ h. values.0 (tried.0 h), λ e. tried.1 (values.1 e)))
    ∙ ap (λ v. v && has_right_entries net bound row) (sym (lt-ltb row.origin (length net.nodes) has))

-- a row of no node of the network is not right
pub no_node_is : (net : Net) (bound : ℕ) (row : TableRow) → nat_lt row.origin (length net.nodes) ≡ false → false ≡ is_right_row net bound row
no_node_is net bound row h = sym (ap (λ v. v && has_right_entries net bound row) h)

-- the value is true exactly where the row is right
pub right_rows : (net : Net) (bound : ℕ) (row : TableRow) → IsLawful net → IsTrue (is_right_row net bound row) ↔ IsRightRow net bound row
right_rows net bound row lawful = (
  λ t.
      let parts = and_parts (nat_lt row.origin (length net.nodes)) (has_right_entries net bound row) t in
      let has = ltb-true row.origin (length net.nodes) parts.0 in
      record { node = has; own = (row_values net bound row.origin row lawful has).1 ((right_is net bound row).0 parts.1) },
  λ right.
      and_from (nat_lt row.origin (length net.nodes)) (has_right_entries net bound row)
      (lt-ltb row.origin (length net.nodes) right.node)
      ((right_is net bound row).1 ((row_values net bound row.origin row lawful right.node).0 right.own)),
)
