-- What a list of found entries is made of: its first places.
use Rattle.std.specs.Prelude.{◌≤◌, List, length, take}
use Rattle.row_search.specs.declared.found_entries.FoundEntries.TheInside.{Inside}
use Rattle.bounded_table.specs.declared.table_row.Entry.{Entry}

abbrev pub found_in : Inside → List Entry
found_in a = take a.count a.places.items

abbrev pub IsFoundInside : Inside → Type 0
IsFoundInside a = a.count ≤ length a.places.items
