-- What a memory of pairs is made of.
use Rattle.std.specs.Prelude.{ℕ, ◌≡◌, Some, List, Option, slice_get}
use Rattle.bounded_table.specs.Table.{BoundedTable}
use Rattle.trellis.specs.declared.pairs.Told.{Told}
use Rattle.trellis.specs.declared.pairs.PairMemory.TheInside.{Inside}
use Rattle.trellis.specs.Pairs.{TellsPair, pairs_of}

abbrev pub shown_pairs : Inside → BoundedTable
shown_pairs a = pairs_of a.network.now a.bound

-- each place that is filled tells what a row says
abbrev pub ArePlaces : BoundedTable → List (Option Told) → Type 0
ArePlaces table places =
    (k : ℕ) (told : Told) → slice_get places k ≡ Some (Some told)
    → TellsPair table told.origin told.node told.distance

pub record AreTold (a : Inside) : Type 0 where
  pub each : ArePlaces (shown_pairs a) a.places.items
