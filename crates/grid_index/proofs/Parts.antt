-- The part of a slot among the members of a table.
use Rattle.std.proofs.Common.{◌≡◌, ℕ, ◌+◌, ◌*◌, ◌%◌, ◌<◌, ◌≤◌, List, [], length, get_or, map, arith, ap, ◌∙◌}
use Rattle.std.specs.List.{range_with_len}
use Rattle.std.specs.Prelude.{slice_index}
use Rattle.std.proofs.lemmas.List.{get_or_read}
use Rattle.std.proofs.lemmas.List.FromFn.{get_or-map-range_with_len, length-map-range_with_len}
use Rattle.grid_index.specs.declared.runs.Run.{Run}
use Rattle.grid_index.specs.Cells.{slot}
use Rattle.grid_index.specs.GridOf.{repeated_at}
use Rattle.grid_index.specs.inside.Table.{HasSlots, members_at, rows_of}

-- what is read at a slot and behind it
pub record IsPart (starts : List ℕ) (members : List Run) (s low high : ℕ) : Type 0 where
  pub low_is : low ≡ slice_index starts s
  pub high_is : high ≡ slice_index starts (s + 1)
  pub order : low ≤ high
  pub within : high ≤ length members

pub is_part : (width : ℕ) (starts : List ℕ) (members : List Run) (s low high : ℕ) → HasSlots width starts members → s < width * width
    → low ≡ get_or starts s low → high ≡ get_or starts (s + 1) high → IsPart starts members s low high
is_part width starts members s low high slots lt read_low read_high =
    let l : low ≡ slice_index starts s = get_or_read starts s low (omega (arith, lt, slots.count)) read_low 0 in
    let h : high ≡ slice_index starts (s + 1) = get_or_read starts (s + 1) high (omega (arith, lt, slots.count)) read_high 0 in
    record { low_is = l; high_is = h; order = omega (arith, l, h, slots.order s lt); within = omega (arith, h, slots.within s lt) }

-- a list that repeats, made from a function
repeats : {A : Type 0} (f : ℕ → List A) (width place : ℕ) → 1 ≤ width → repeated_at (map f (range_with_len 0 width)) place ≡ f (place % width)
repeats f width place some =
    ap (λ n. get_or (map f (range_with_len 0 width)) (place % n) []) (length-map-range_with_len f 0 width)
    ∙ get_or-map-range_with_len f 0 width (place % width) (place % width) [] (omega (arith, some)) (omega arith)

-- the runs at a cell are those at its slot
pub runs_are : (width : ℕ) (starts : List ℕ) (members : List Run) (column row : ℕ) → 1 ≤ width
    → repeated_at (repeated_at (rows_of width starts members) row) column ≡ members_at starts members (slot width column row)
runs_are width starts members column row some =
    ap (λ slots. repeated_at slots column) (repeats (λ r. map (λ c. members_at starts members (r * width + c)) (range_with_len 0 width)) width row some)
    ∙ repeats (λ c. members_at starts members (row % width * width + c)) width column some
