-- The names of the edges that were read, and what is kept of them.
use Rattle.std.specs.Prelude.{ℕ, ◌≡◌, ◌-◌, ◌≤◌, Bool, true, nat_eq, nat_lt, List, [], ◌∷◌, length, map, slice_index, Option, None, Some}
use Rattle.std.specs.List.{All, list_any}
use Rattle.std.specs.HashSet.{HashSet}
use Rattle.road_network.specs.declared.StoredEdge.{StoredEdge}

abbrev pub names_of : List StoredEdge → List ℕ
names_of edges = map (λ e. e.name) edges

abbrev pub last_of : List ℕ → ℕ
last_of names = slice_index names (length names - 1)

-- a name is above the last of the others, or there is no other
abbrev pub is_next : List ℕ → ℕ → Bool
is_next [] name = true
is_next (first ∷ names) name = nat_lt (last_of (first ∷ names)) name

-- the keys are the names, in any order
abbrev pub HasNames : List ℕ → List ℕ → Type 0
HasNames keys names = (name : ℕ) → list_any (nat_eq name) keys ≡ list_any (nat_eq name) names

-- a set has the names; where there is none, the last name is the greatest
abbrev pub AreNames : {S : Type 0} → Option (HashSet ℕ S) → List ℕ → Type 0
AreNames None names = All (λ name. name ≤ last_of names) names
AreNames (Some set) names = HasNames set.keys names
