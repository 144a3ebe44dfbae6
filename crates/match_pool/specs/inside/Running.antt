-- Facts about each of consecutive items and its index.
use Rattle.std.specs.Prelude.{ℕ, ◌+◌, ◌<◌, List, length, slice_index_or}

-- P is true of each item and its index, where the first item has index `first`
abbrev pub EachFrom : {X : Type 0} → (ℕ → X → Type 0) → ℕ → List X → Type 0
EachFrom P first xs = (k : ℕ) (d : _) → k < length xs → P (first + k) (slice_index_or xs k d)

-- R relates each item before and after, with its index, where the first item has index `first`
abbrev pub EachFromTo : {X : Type 0} → (ℕ → X → X → Type 0) → ℕ → List X → List X → Type 0
EachFromTo R first xs ys = (k : ℕ) (d : _) → k < length xs → R (first + k) (slice_index_or xs k d) (slice_index_or ys k d)
