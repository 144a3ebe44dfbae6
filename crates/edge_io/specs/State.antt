-- What a shelf and a sink are to those who read and write: one value each.
use Rattle.std.specs.Prelude.{ℕ, List, []}
use Rattle.std.specs.declared.option.Option.{Option}

-- the bytes of each name, where the shelf tells them (`None` for a name that it does not hold), and
-- the names of the reads that failed, in their order
pub record ShelfState : Type 0 where
  pub holds : Option (List ℕ → Option (List ℕ))
  pub failed : List (List ℕ)

-- a shelf of these files, of which no read failed yet
abbrev pub new_shelf : Option (List ℕ → Option (List ℕ)) → ShelfState
new_shelf holds = record { holds = holds; failed = [] }

-- what was written, where the sink tells it, and how many puts failed
pub record SinkState : Type 0 where
  pub written : Option (List ℕ)
  pub faults : ℕ

-- a sink of which this was written, and no put failed yet
abbrev pub new_sink : Option (List ℕ) → SinkState
new_sink written = record { written = written; faults = 0 }
