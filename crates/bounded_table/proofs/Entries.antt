-- What a list of entries has at a place, and for a node.
use Rattle.std.proofs.Common.{◌≡◌, ℕ, ◌+◌, ◌<◌, ◌⊎◌, inl, inr, List, [], ◌∷◌, ◌++◌, Option, Some, None, refl, ap, arith}
use Rattle.std.proofs.lemmas.Bool.Decides.{eqb_tells}
use Rattle.std.proofs.lemmas.Option.{same_Some}
use Rattle.std.specs.Option.{option_map}
use Rattle.bounded_table.specs.declared.table_row.Entry.{Entry}
use Rattle.bounded_table.specs.declared.table_row.Label.{Label}
use Rattle.bounded_table.specs.Table.{RisesFrom, entry_in, label_in, label_of}
use Rattle.bounded_table.proofs.ClosedTables.{none_some}

-- in place of the entry at a place that a list does not have
abbrev pub no_entry : Entry
no_entry = record { node = record { 0 = 0 }; distance = 0; last = None }

-- there is one or none
pub cases_Option : {A : Type 0} (o : Option A) → (o ≡ None) ⊎ ((x : A) × (o ≡ Some x))
cases_Option None = inl refl
cases_Option (Some x) = inr (x, refl)

-- what a label tells of the entry
pub record IsEntryOf (row : List Entry) (v : ℕ) (l : Label) : Type 0 where
  pub entry : Entry
  pub at : entry_in row v ≡ Some entry
  pub label : label_of entry ≡ l

pub entry_with : (row : List Entry) (v : ℕ) (l : Label) → label_in row v ≡ Some l → IsEntryOf row v l
entry_with row v l h = from (entry_in row v) refl h
  where
    from : (o : Option Entry) → entry_in row v ≡ o → option_map label_of o ≡ Some l → IsEntryOf row v l
    from None is h = absurd (none_some refl h)
    from (Some x) is h = record { entry = x; at = is; label = same_Some (label_of x) l h }

-- a node below the first is not listed
pub not_listed_below : (b : ℕ) (row : List Entry) → RisesFrom b row → (v : ℕ) → v < b → entry_in row v ≡ None
not_listed_below b [] r v lt = refl
not_listed_below b (x ∷ row) r v lt = elim (eqb_tells x.node.0 v) [
  | inl t ↦ absurd (omega (arith, t.1, r.0, lt))
  | inr t ↦ rw t.0 (not_listed_below (x.node.0 + 1) row r.1 v (omega (arith, r.0, lt)))
]

pub no_label_below : (b : ℕ) (row : List Entry) → RisesFrom b row → (v : ℕ) → v < b → label_in row v ≡ None
no_label_below b row r v lt = ap (option_map label_of) (not_listed_below b row r v lt)

-- labels in two lists, one after the other
pub label_else : (entries more : List Entry) (v : ℕ) → label_in entries v ≡ None → label_in (entries ++ more) v ≡ label_in more v
label_else [] more v none = refl
label_else (x ∷ entries) more v none = elim (eqb_tells x.node.0 v) [
  | inl t ↦ absurd (let is : Some (label_of x) ≡ None = rw t.0 at none in cc)
  | inr t ↦ rw t.0 (label_else entries more v (rw t.0 at none))
]

pub label_before : (entries more : List Entry) (v : ℕ) → label_in more v ≡ None → label_in (entries ++ more) v ≡ label_in entries v
label_before [] more v none = none
label_before (x ∷ entries) more v none = elim (eqb_tells x.node.0 v) [
  | inl t ↦ rw t.0 refl
  | inr t ↦ rw t.0 (label_before entries more v none)
]
