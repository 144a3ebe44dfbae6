-- What rows are to those who ask for them, and what asking leaves.
use Rattle.std.specs.Prelude.{◌≡◌, ◌⊎◌, ℕ, List, [], Option, Contains, Result, OnOk}
use Rattle.road_network.specs.Net.{Net}
use Rattle.bounded_table.specs.Known.{Extends}
use Rattle.bounded_table.specs.Table.{TableRow}

-- the network, the bound, the shared store that rows are read from (by its bound and the names of its cells), the nodes whose
-- rows are known, and the rows that were seen in that store, by node; with no store the last is empty
pub record RowsState : Type 0 where
  pub network : Net
  pub bound : ℕ
  pub source : List ℕ
  pub known : List ℕ
  pub held : List (Option TableRow)

-- rows of this network within this bound, with no store and no node known
abbrev pub no_rows : Net → ℕ → RowsState
no_rows n b = record { network = n; bound = b; source = []; known = []; held = [] }

-- they are rows of this network within this bound
pub record AreRowsOf (state : RowsState) (n : Net) (b : ℕ) : Type 0 where
  pub network : state.network ≡ n
  pub bound : state.bound ≡ b

-- the same rows, and what was known and held still is
pub record Keeps (old new : RowsState) : Type 0 where
  pub network : new.network ≡ old.network
  pub bound : new.bound ≡ old.bound
  pub source : new.source ≡ old.source
  pub held : Extends old.held new.held
  pub known : (v : ℕ) → Contains old.known v → Contains new.known v

-- and nothing else became known but nodes that were asked for
pub record AsksOnly (old new : RowsState) (asked : ℕ → Type 0) : Type 0 where
  pub keeps : Keeps old new
  pub nothing_else : (v : ℕ) → Contains new.known v → Contains old.known v ⊎ asked v

-- all nodes that were asked for are known
abbrev pub KnowsAll : RowsState → (ℕ → Type 0) → Type 0
KnowsAll state asked = (v : ℕ) → asked v → Contains state.known v

-- all of them became known, and nothing else
pub record AsksAll (old new : RowsState) (asked : ℕ → Type 0) : Type 0 where
  pub only : AsksOnly old new asked
  pub all : KnowsAll new asked

-- what asking for them leaves: after Ok all of them are known, after Err some may be
pub record AsksFor {A E : Type 0} (old : RowsState) (asked : ℕ → Type 0) (result : Result A E) (new : RowsState) : Type 0 where
  pub only : AsksOnly old new asked
  pub all : OnOk result (KnowsAll new asked)
