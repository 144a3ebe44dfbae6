-- Which nodes' rows are known, and which rows are held: a list with one place for each node, with nothing or a row.
use Rattle.std.specs.Prelude.{◌≡◌, ◌⊎◌, ◌↔◌, ◌≤◌, ◌+◌, ℕ, suc, List, [], ◌∷◌, Option, Some, None, Contains, slice_get}
use Rattle.road_network.specs.Net.{Net, HasNode}
use Rattle.bounded_table.specs.Table.{TableRow}

-- the nodes whose places hold a row, where the first place is that of node i
abbrev pub known_from : ℕ → List (Option TableRow) → List ℕ
known_from i [] = []
known_from i (None ∷ places) = known_from (suc i) places
known_from i (Some row ∷ places) = i ∷ known_from (suc i) places

-- the nodes whose places hold a row, by rising number
abbrev pub known_nodes : List (Option TableRow) → List ℕ
known_nodes places = known_from 0 places

-- node n is known, and else what was known before
abbrev pub Adds : List ℕ → ℕ → List ℕ → Type 0
Adds before n after = (m : ℕ) → Contains after m ↔ ((m ≡ n) ⊎ Contains before m)

-- each place that held a row holds it still
abbrev pub Extends : List (Option TableRow) → List (Option TableRow) → Type 0
Extends before after = (k : ℕ) (row : TableRow) → slice_get before k ≡ Some (Some row) → slice_get after k ≡ Some (Some row)

-- the numbers rise strictly, from b on
abbrev pub Rises : ℕ → List ℕ → Type 0
Rises b [] = Unit {0}
Rises b (x ∷ xs) = (b ≤ x) × Rises (x + 1) xs

-- known nodes as own rows list them: by rising number, each a node of the network
pub record IsKnownList (n : Net) (known : List ℕ) : Type 0 where
  pub rising : Rises 0 known
  pub nodes : (v : ℕ) → Contains known v → HasNode n v
