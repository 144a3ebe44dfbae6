-- Nodes that are taken together, and which of them are marked.
use Rattle.std.specs.Int.{bit_at}
use Rattle.std.specs.Prelude.{ℕ, ◌≡◌, ◌+◌, ◌<◌, ◌≤◌, ◌⊎◌, List}
use Rattle.row_search.specs.declared.found_entries.Octet.{Octet}
use Rattle.row_search.specs.inside.Marked.{IsSet}

-- eight of this many nodes, or the last ones if there are fewer
pub record IsOctet (count : ℕ) (octet : Octet) : Type 0 where
  pub few : octet.nodes ≤ 8
  pub inside : octet.nodes ≡ 0 ⊎ (octet.first + octet.nodes ≤ count)
  pub all : (octet.nodes ≡ 8) ⊎ (count ≤ octet.first + octet.nodes)

-- the bits of a number show which octets are marked, from one on, up to another
pub record AreMarkBits (octets : List ℕ) (from to bits : ℕ) : Type 0 where
  pub marked : (k : ℕ) → from + k < to → IsSet octets (from + k) → bit_at bits k ≡ 1
  pub inside : (k : ℕ) → bit_at bits k ≡ 1 → from + k < to
