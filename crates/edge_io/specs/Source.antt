-- Files that are opened by name, and read from a place on.
use Rattle.std.specs.Prelude.{◌≡◌, ◌≢◌, ℕ, ◌+◌, ◌-◌, ◌≤◌, List, ◌++◌, length, take, drop, None, IfSome, IsSomeAnd, option_map}
use Rattle.std.specs.Option.{ForSome}
use Rattle.std.specs.Io.KnownBytes.{Consumes, IsAtEnd}
use Rattle.std.specs.declared.option.Option.{Option}

-- where the files tell their bytes: a file of this name is open, and this is left of it, its bytes from a
-- place on
abbrev pub IsOpenAt : Option (List ℕ → Option (List ℕ)) → List ℕ → ℕ → Option (List ℕ) → Type 0
IsOpenAt told name at left =
    ForSome told (λ files. (left ≢ None) × (left ≡ option_map (drop at) (files name)))

-- n bytes that were left of a file were appended, at most as many as there was room for, and none only at
-- its end
pub record IsReadOn (left left' : Option (List ℕ)) (old new : List ℕ) (most n : ℕ) : Type 0 where
  pub bytes : List ℕ
  pub many : length bytes ≡ n
  pub within : n ≤ most
  pub grown : new ≡ old ++ bytes
  pub consumed : Consumes left left' bytes
  pub end : n ≡ 0 → 1 ≤ most → IsAtEnd left'

-- n bytes at a place of the file of this name were appended, at most as many as asked for, and none only at its end
pub record IsBrought (told : Option (List ℕ → Option (List ℕ))) (name : List ℕ) (at : ℕ)
    (old new : List ℕ) (most n : ℕ) : Type 0 where
  pub within : n ≤ most
  pub longer : length new ≡ length old + n
  pub front : take (length old) new ≡ old
  pub bytes : IfSome told (λ files. IsSomeAnd (files name) (λ file.
      (n ≤ length file - at)
      × (new ≡ old ++ take n (drop at file))
      × (n ≡ 0 → length file ≤ at)))
