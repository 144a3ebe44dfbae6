-- Tests of one cell, by the ways to it.
use Rattle.std.specs.Prelude.{ℕ, ◌^◌, ◌==◌, ◌&&◌, not, Bool, true, false, nat_lt, List, take, slice_index_or, Option, Some, None}
use Rattle.std.specs.Option.{option_eq}
use Rattle.std.specs.List.{list_all, list_any}
use Rattle.matching.specs.declared.parts.Cell.{Cell}
use Rattle.matching.specs.Cells.{cell_at}
use Rattle.trellis.specs.Offers.{is_at_most}

-- a cost is at most that of a way, if there is that way; a sum that does not fit 64 bits is no bound
abbrev pub is_relaxed_by : Option ℕ → Option ℕ → Bool
is_relaxed_by x None = true
is_relaxed_by x (Some s) = nat_lt s (2 ^ 64) && is_at_most x s

-- the cell is live and costs at most what each way costs
abbrev pub is_relaxed : List (Option ℕ) → Cell → Bool
is_relaxed ways cell = list_all (is_relaxed_by (cell.cost)) ways

-- there is the number, and it is c
abbrev pub is_cost : ℕ → Option ℕ → Bool
is_cost c None = false
is_cost c (Some s) = s == c

-- a cost is that of the way that the pointer names
abbrev pub is_tight_by : List (Option ℕ) → Option ℕ → Option ℕ → Bool
is_tight_by ways None pointer = true
is_tight_by ways (Some c) None = false
is_tight_by ways (Some c) (Some a) = is_cost c (slice_index_or ways a None)

abbrev pub is_tight : List (Option ℕ) → Cell → Bool
is_tight ways cell = is_tight_by ways (cell.cost) (cell.«from»)

-- no way before the pointer costs the same, and where there is no cost there is no pointer
abbrev pub is_least_pointer : List (Option ℕ) → Option ℕ → Option ℕ → Bool
is_least_pointer ways None None = true
is_least_pointer ways None (Some a) = false
is_least_pointer ways (Some c) None = true
is_least_pointer ways (Some c) (Some a) = not (list_any (is_cost c) (take a ways))

abbrev pub is_first_pointer : List (Option ℕ) → Cell → Bool
is_first_pointer ways cell = is_least_pointer ways (cell.cost) (cell.«from»)

-- the cell costs what its candidate costs, without pointer
abbrev pub is_first_cell : ℕ → Cell → Bool
is_first_cell emission cell = is_cost emission (cell.cost) && option_eq (λ a b. a == b) (cell.«from») None

-- there is the number, and it is below c
abbrev pub is_below : ℕ → Option ℕ → Bool
is_below c None = false
is_below c (Some s) = nat_lt s c

-- rank r is the least rank of least cost, and that cost is c
abbrev pub is_least_rank : List Cell → Option ℕ → ℕ → Bool
is_least_rank cells None c = false
is_least_rank cells (Some r) c =
    is_cost c ((cell_at cells r).cost)
    && (not (list_any (λ cell. is_below c (cell.cost)) cells)
    && not (list_any (λ cell. is_cost c (cell.cost)) (take r cells)))

-- the pointer of the chosen cell
abbrev pub pointer_of : List Cell → Option ℕ → Option ℕ
pointer_of cells None = None
pointer_of cells (Some r) = (cell_at cells r).«from»
