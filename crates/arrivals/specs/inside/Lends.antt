-- Values by id of which one is lent for writing.
use Rattle.std.specs.Prelude.{ℕ, List, Option, nat_eq}
use Rattle.std.specs.Borrow.{LendsIf, MutBor, Fml, RattleType}
use Rattle.std.specs.Map.{set_value}
use Rattle.arrivals.specs.contracts.Arrivals.{the_row}

module _ (V : RattleType) (values : MutBor (List (ℕ × V.Denot))) (id : ℕ) where
  -- once the borrow ends, the id has the value that was left in it
  abbrev pub lends_value : Option (MutBor V.Denot) → Fml
  lends_value value = LendsIf (the_row V) V values value (set_value (nat_eq id) values.now) values.now
