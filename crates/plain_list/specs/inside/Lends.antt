-- A list whose items are lent for writing.
use Rattle.std.specs.Prelude.{List, ◌++◌, length, take, drop}
use Rattle.std.specs.Borrow.{Lends, MutBor, Fml, Array, RattleType}
use Rattle.plain_list.specs.contracts.List.{the_row}

-- the items as they were left, as many as before
abbrev pub with_items : {X : Type 0} → List X → List X → List X
with_items old left = take (length old) (left ++ drop (length left) old)

module _ (T : RattleType) (list : MutBor (List T.Denot)) where
  -- once the borrow ends, the list has the items that were left in it
  abbrev pub lends_items : MutBor (List T.Denot) → Fml
  lends_items items = Lends (the_row T) (Array T 0) list items (with_items list.now)
