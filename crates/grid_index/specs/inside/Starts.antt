-- Where the entries of a slot begin.
use Rattle.std.specs.Prelude.{ℕ, ◌≡◌, ◌<◌, ◌≤◌, List, length, slice_index, slice_index_or}
use Rattle.grid_index.specs.declared.entries.Entry.{Entry}

-- the entries before this place have a slot below this one
abbrev pub AreBefore : List Entry → ℕ → ℕ → Type 0
AreBefore entries place slot =
    (i : ℕ) (d : Entry) → i < place → (slice_index_or entries i d).slot < slot

-- the place parts the entries of slots below this one from the others
pub record IsStart (entries : List Entry) (slot place : ℕ) : Type 0 where
  pub within : place ≤ length entries
  pub before : AreBefore entries place slot
  pub after : (i : ℕ) (d : Entry) → place ≤ i → i < length entries
      → slot ≤ (slice_index_or entries i d).slot

-- the starts of the first `count` slots
pub record AreStarts (entries : List Entry) (starts : List ℕ) (count : ℕ) : Type 0 where
  pub count_is : length starts ≡ count
  pub each : (slot : ℕ) → slot < count → IsStart entries slot (slice_index starts slot)
