-- What a searcher is made of.
use Rattle.std.specs.Prelude.{◌≡◌, IfSome, length}
use Rattle.row_search.specs.declared.searcher.Searcher.TheInside.{Inside}
use Rattle.bounded_table.specs.Table.{BoundedTable}
use Rattle.row_search.specs.inside.Marked.{IsClean}

abbrev pub searched : Inside → BoundedTable
searched a = record { network = a.network.now; bound = a.workspace.bound }

-- between two searches nothing is left of the last one; the fans, if they were made or are shared, are those of the network
pub record IsReady (a : Inside) : Type 0 where
  pub clean : IsClean (length a.network.now.nodes) a.workspace
  pub fans : IfSome a.fans (λ made. made ≡ a.network.now)
  pub shared : IfSome a.shared (λ given. given.now ≡ a.network.now)
