-- What is tested at one label, against the records that say it.
use Rattle.std.proofs.Common.{◌≡◌, ◌↔◌, ℕ, ◌+◌, ◌-◌, ◌<◌, ◌≤◌, ◌≢◌, inl, inr, zero, suc, length, List, [], ◌∷◌, slice_index_or, Option, Some, None, refl, sym, ap, subst, ◌∙◌, arith}
use Rattle.std.proofs.lemmas.Option.{same_Some}
use Rattle.std.proofs.lemmas.Bool.Decides.{eqb_tells}
use Rattle.std.proofs.lemmas.List.Elements.{recursion_from_All}
use Rattle.std.specs.List.{All, AllByRecursion}
use Rattle.std.specs.Prelude.{MatchOption}
use Rattle.std.specs.Option.{IsSome, option_map}
use Rattle.road_network.specs.Net.{Net, IsLawful}
use Rattle.bounded_table.specs.declared.table_row.Label.{Label}
use Rattle.bounded_table.specs.declared.table_row.Entry.{Entry}
use Rattle.bounded_table.specs.Finding.{IsPlaceOf}
use Rattle.bounded_table.specs.Table.{IsRow, RisesFrom, TableRow, entry_in, label_in, label_of}
use Rattle.bounded_table.specs.Closed.{IsClosed, IsClosedAt, IsReached, origin_label}
use Rattle.bounded_table.specs.RowRules.{MeetsRowRules}
use Rattle.bounded_table.proofs.ClosedTables.{table_of_closed, closed_of_table, some_there}

-- what holds of each entry holds of what a look gives
pub at_listed : (Q : ℕ → Label → Type 0) (row : List Entry) (v : ℕ) (l : Label) → AllByRecursion (λ x. Q x.node.0 (label_of x)) row → label_in row v ≡ Some l → Q v l
at_listed Q [] v l all h = cc
at_listed Q (x ∷ row) v l all h =
    elim (eqb_tells x.node.0 v) [
      | inl t ↦
          let same : label_of x ≡ l = same_Some (label_of x) l (rw t.0 at h) in
          subst (λ (k : ℕ). Q k l) t.1 (subst (λ (k : Label). Q x.node.0 k) same all.0)
      | inr t ↦ at_listed Q row v l all.1 (rw t.0 at h)
    ]

rises_above : (b : ℕ) (row : List Entry) → RisesFrom b row → (k : ℕ) (d : Entry) → k < length row → b ≤ (slice_index_or row k d).node.0
rises_above b [] r k d lt = absurd (omega arith)
rises_above b (x ∷ row) r zero d lt = r.0
rises_above b (x ∷ row) r (suc k) d lt = omega (arith, r.0, rises_above (x.node.0 + 1) row r.1 k d (omega arith))

-- where the nodes rise, a look at an entry's node gives that entry
pub entry_at : (b : ℕ) (row : List Entry) → RisesFrom b row → (k : ℕ) (d : Entry) → k < length row → entry_in row (slice_index_or row k d).node.0 ≡ Some (slice_index_or row k d)
entry_at b [] r k d lt = absurd (omega arith)
entry_at b (x ∷ row) r zero d lt =
    elim (eqb_tells x.node.0 x.node.0) [ inl t ↦ rw t.0 refl | inr t ↦ absurd (t.1 refl) ]
entry_at b (x ∷ row) r (suc k) d lt =
    elim (eqb_tells x.node.0 (slice_index_or row k d).node.0) [
      | inl t ↦ absurd (omega (arith, t.1, rises_above (x.node.0 + 1) row r.1 k d (omega arith)))
      | inr t ↦ rw t.0 (entry_at (x.node.0 + 1) row r.1 k d (omega arith))
    ]

-- two nodes are at least as far apart as their places
pub rises_apart : (b : ℕ) (row : List Entry) → RisesFrom b row → (j m k : ℕ) (d f : Entry) → k ≡ j + m → k < length row → (slice_index_or row j d).node.0 + m ≤ (slice_index_or row k f).node.0
rises_apart b [] r j m k d f at lt = absurd (omega arith)
rises_apart b (x ∷ row) r zero zero zero d f at lt = omega arith
rises_apart b (x ∷ row) r zero zero (suc k) d f at lt = absurd (omega arith)
rises_apart b (x ∷ row) r zero (suc m) zero d f at lt = absurd (omega arith)
rises_apart b (x ∷ row) r zero (suc m) (suc k) d f at lt = omega (arith, apart_above (x.node.0 + 1) row r.1 m k f (omega arith) (omega arith))
  where
    apart_above : (c : ℕ) (rest : List Entry) → RisesFrom c rest → (m k : ℕ) (f : Entry) → k ≡ m → k < length rest → c + m ≤ (slice_index_or rest k f).node.0
    apart_above c [] r m k f at lt = absurd (omega arith)
    apart_above c (y ∷ rest) r m zero f at lt = omega (arith, r.0)
    apart_above c (y ∷ rest) r zero (suc k) f at lt = absurd (omega arith)
    apart_above c (y ∷ rest) r (suc m) (suc k) f at lt = omega (arith, r.0, apart_above (y.node.0 + 1) rest r.1 m k f (omega arith) (omega arith))
rises_apart b (x ∷ row) r (suc j) m zero d f at lt = absurd (omega arith)
rises_apart b (x ∷ row) r (suc j) m (suc k) d f at lt = rises_apart (x.node.0 + 1) row r.1 j m k d f (omega arith) (omega arith)

-- nodes rise with their places
pub rises_up : (row : List Entry) → RisesFrom 0 row → (j k : ℕ) (d f : Entry) → j ≤ k → k < length row → (slice_index_or row j d).node.0 ≤ (slice_index_or row k f).node.0
rises_up row r j k d f le lt = omega (arith, rises_apart 0 row r j (k - j) k d f (omega arith) lt)

-- where the node at a place is v, that is the place of v
pub place_of : (row : List Entry) → RisesFrom 0 row → (v k : ℕ) (c : Entry) → k < length row → (slice_index_or row k c).node.0 ≡ v → IsPlaceOf row v k
place_of row rising v k c lt is = (
  lt,
  λ d.
      let at : (slice_index_or row k d).node.0 ≡ v = omega (arith, is, rises_up row rising k k d c (omega arith) lt, rises_up row rising k k c d (omega arith) lt) in
      ap (entry_in row) (sym at) ∙ entry_at 0 row rising k d lt,
)

-- a node that is listed is found
pub found_some : (row : List Entry) (v : ℕ) (place : Option ℕ) (l : Label) → MatchOption place (entry_in row v ≡ None) (IsPlaceOf row v) → label_in row v ≡ Some l → IsSome place
found_some row v None l none listed = absurd (let is : None ≡ Some l = rw none at listed in cc)
found_some row v (Some k) l found listed = refl

-- a node that no entry has is not found
pub absent : (row : List Entry) (v : ℕ) → ((k : ℕ) (d : Entry) → k < length row → (slice_index_or row k d).node.0 ≢ v) → entry_in row v ≡ None
absent [] v none = refl
absent (x ∷ row) v none =
    elim (eqb_tells x.node.0 v) [
      | inl t ↦ absurd (none 0 x (omega arith) t.1)
      | inr t ↦ rw t.0 (absent row v (λ k d lt. none (suc k) d (omega arith)))
    ]

-- a row of these entries that meets the rules is closed exactly where each entry is
pub closed_from_all : (n : Net) (bound s : ℕ) (row : List Entry) → label_in row s ≡ Some origin_label → All (λ x. IsClosedAt n bound s (label_in row) x.node.0 (label_of x)) row → IsClosed n bound s (label_in row)
closed_from_all n bound s row origin all = record {
  origin = origin;
  closed = λ v l h. at_listed (IsClosedAt n bound s (label_in row)) row v l (recursion_from_All (λ x. IsClosedAt n bound s (label_in row) x.node.0 (label_of x)) row all) h;
}

pub all_from_closed : (n : Net) (bound s : ℕ) (row : List Entry) → RisesFrom 0 row → IsClosed n bound s (label_in row) → All (λ x. IsClosedAt n bound s (label_in row) x.node.0 (label_of x)) row
all_from_closed n bound s row rising closed k d lt =
    let x : Entry = slice_index_or row k d in
    closed.closed x.node.0 (label_of x) (ap (option_map label_of) (entry_at 0 row rising k d lt))

-- a row that meets the rules is that of its origin exactly where each entry is closed
pub row_is : (n : Net) (bound : ℕ) (row : TableRow) → IsLawful n → MeetsRowRules row → All (λ x. IsClosedAt n bound row.origin (label_in row.entries) x.node.0 (label_of x)) row.entries ↔ IsRow n bound row.origin row
row_is n bound row lawful rules = (
  λ all. record {
    origin = refl;
    rising = rules.rising;
    table = table_of_closed n bound row.origin (label_in row.entries) lawful (closed_from_all n bound row.origin row.entries rules.origin all);
  },
  λ is. all_from_closed n bound row.origin row.entries rules.rising (closed_of_table n bound row.origin (label_in row.entries) lawful is.table),
)

-- the row of an origin meets the rules
pub rules_of_row : (n : Net) (bound s : ℕ) (row : TableRow) → IsLawful n → IsRow n bound s row → MeetsRowRules row
rules_of_row n bound s row lawful is =
    let closed : IsClosed n bound s (label_in row.entries) = closed_of_table n bound s (label_in row.entries) lawful is.table in
    record {
      rising = is.rising;
      origin = ap (label_in row.entries) is.origin ∙ closed.origin;
      others = λ k d lt apart.
          let x : Entry = slice_index_or row.entries k d in
          let at : IsClosedAt n bound s (label_in row.entries) x.node.0 (label_of x) = all_from_closed n bound s row.entries is.rising closed k d lt in
          let by : IsReached n (label_in row.entries) x.node.0 (label_of x) = at.reached (λ same. apart (same ∙ sym is.origin)) in
          (omega (arith, by.distance, lawful.not_empty by.edge by.has), some_there x.last (record { 0 = by.edge }) by.last);
    }
