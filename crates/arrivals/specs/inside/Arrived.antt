-- What values by id are made of.
use Rattle.std.specs.Prelude.{ℕ, List, [], Option, None, Some, nat_eq, reverse}
use Rattle.std.specs.List.{IsDistinct}
use Rattle.std.specs.Map.{keys_of}
use Rattle.lru.specs.LruCache.{LruCache}

module _ {X : Type 0} where
  -- the values that a cache has, that of the last id first
  abbrev pub newest_first : Option (LruCache ℕ X) → List (ℕ × X)
  newest_first None = []
  newest_first (Some cache) = cache.entries

  -- in the order in which their ids came
  abbrev pub arrived : Option (LruCache ℕ X) → List (ℕ × X)
  arrived cache = reverse (newest_first cache)

  -- each id stands once
  abbrev pub IsKept : Option (LruCache ℕ X) → Type 0
  IsKept cache = IsDistinct nat_eq (keys_of (newest_first cache))
