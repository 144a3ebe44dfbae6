-- What a store is made of.
use Rattle.std.specs.Prelude.{◌≡◌}
use Rattle.std.specs.Option.{IfSome, option_map}
use Rattle.row_store.specs.Store.{NearSlots, SlotSet, Stored, near_bound}
use Rattle.row_store.specs.declared.store.RowStore.TheInside.{Inside}

abbrev pub near_of_set : SlotSet → NearSlots
near_of_set slots = record { bound = slots.bound; cells = slots.cells }

abbrev pub stored : Inside → Stored
stored a = record {
  network = a.table.network;
  bound = a.table.bound;
  cells = a.table.cells;
  near = option_map near_of_set a.near;
}

-- the near slots are for rows of the same network, within the bound of near rows
pub record AreOfOne (table near : SlotSet) : Type 0 where
  pub network : near.network ≡ table.network
  pub bound : near.bound ≡ near_bound table.bound

pub record IsStored (a : Inside) : Type 0 where
  pub fans : a.fans ≡ a.table.network
  pub near : IfSome a.near (AreOfOne a.table)
