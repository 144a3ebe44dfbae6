-- What a program reaches outside before its run begins.
use Rattle.std.specs.Prelude.{◌≡◌, ℕ, ◌<◌, ◌≤◌, List, [], All, drop, get_or, length, Some, None}
use Rattle.std.specs.declared.option.Option.{Option}
use Rattle.std.specs.Str.{IsUtf8}
use Rattle.edge_io.specs.State.{ShelfState, SinkState, new_shelf, new_sink}

-- files of which no read failed, and an output to which nothing was put; what contracts see of their bytes
pub record AreUnused (holds : Option (List ℕ → Option (List ℕ))) (written : Option (List ℕ))
    (shelf : ShelfState) (out : SinkState) : Type 0 where
  pub files : shelf ≡ new_shelf holds
  pub output : out ≡ new_sink written

-- argument number i of these, or none after the last
abbrev pub IsArgument : List (List ℕ) → ℕ → Option (List ℕ) → Type 0
IsArgument given i None = length given ≤ i
IsArgument given i (Some bytes) = (i < length given) × (bytes ≡ get_or given i [])

-- the words are the arguments after the program's name, as they are, if all are UTF-8; else there are none
pub record AreWordsOf (given words : List (List ℕ)) : Type 0 where
  pub utf8 : All IsUtf8 (drop 1 given) → words ≡ drop 1 given
  pub other : ¬ All IsUtf8 (drop 1 given) → words ≡ []
