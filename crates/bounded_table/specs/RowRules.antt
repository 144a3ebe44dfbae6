-- The three rules of a row, whatever its network is, and what a row keeps inside.
use Rattle.std.specs.Prelude.{ℕ, ◌≡◌, ◌≢◌, ◌≤◌, List, Option, Some, MatchOption}
use Rattle.std.specs.Option.{IsSome}
use Rattle.std.specs.List.{All}
use Rattle.bounded_table.specs.declared.table_row.Entry.{Entry}
use Rattle.bounded_table.specs.Table.{RisesFrom, label_in, TableRow}
use Rattle.bounded_table.specs.Closed.{origin_label}

-- a node other than the origin has a distance of at least 1 and a last edge
abbrev pub IsRowEntry : ℕ → Entry → Type 0
IsRowEntry s x = x.node.0 ≢ s → (1 ≤ x.distance) × IsSome x.last

-- nodes rise strictly, the origin is listed at distance 0 without a last edge, and no other entry is like that
pub record MeetsRowRules (row : TableRow) : Type 0 where
  pub rising : RisesFrom 0 row.entries
  pub origin : label_in row.entries row.origin ≡ Some origin_label
  pub others : All (IsRowEntry row.origin) row.entries

-- the row of this origin with these entries, and none where that breaks a rule
abbrev pub IsRowWith : ℕ → List Entry → Option TableRow → Type 0
IsRowWith s entries result = MatchOption result
    (MeetsRowRules (record { origin = s; entries = entries }) → ⊥)
    (λ row. row ≡ record { origin = s; entries = entries })
