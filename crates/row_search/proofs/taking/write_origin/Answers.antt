use Rattle.std.proofs.Common.{◌≡◌, ℕ, List, slice_index_or, None, arith}
use Rattle.bounded_table.specs.declared.table_row.Entry.{Entry}
use Rattle.bounded_table.specs.Finding.{IsPlaceOf}
use Rattle.row_search.proofs.EdgeLabels.{others_stay, own_written, rises_written}
use Rattle.bounded_table.proofs.Entries.{no_entry}
use Rattle.bounded_table.proofs.LastEdges.{entry_node}
use Rattle.bounded_table.proofs.RowChecks.{found_some}
use Rattle.row_search.proofs.taking.write_origin.Goals as goal

pub place_between-requires-clause-below : goal.place_between-requires-clause-below
place_between-requires-clause-below c = λ k d lt. absurd (omega arith)

pub place_between-requires-clause-above : goal.place_between-requires-clause-above
place_between-requires-clause-above c = λ k d le lt. absurd (omega arith)

pub unwrap-place-requires : goal.unwrap-place-requires
unwrap-place-requires c = found_some c.args.entries.now c.args.origin.0 c.place_between.result c.requires.listed.0 c.place_between.ensures c.requires.listed.1

-- the origin is at that place
origin_there : (row : List Entry) (v place : ℕ) → IsPlaceOf row v place → (slice_index_or row place no_entry).node.0 ≡ v
origin_there row v place found = entry_node row v (slice_index_or row place no_entry) (found.1 no_entry)

pub returns-clause-rising : goal.returns-clause-rising
returns-clause-rising c =
    let row : List Entry = c.args.entries.now in
    let found : IsPlaceOf row c.args.origin.0 c.unwrap-place.result = rw c.unwrap-place.ensures at c.place_between.ensures in
    rises_written 0 row c.unwrap-place.result _ no_entry c.requires.rising found.0 (origin_there row c.args.origin.0 c.unwrap-place.result found)

pub returns-clause-own : goal.returns-clause-own
returns-clause-own c =
    let row : List Entry = c.args.entries.now in
    let found : IsPlaceOf row c.args.origin.0 c.unwrap-place.result = rw c.unwrap-place.ensures at c.place_between.ensures in
    own_written row c.unwrap-place.result (record { node = c.args.origin; distance = 0; last = None }) no_entry (rises_written 0 row c.unwrap-place.result _ no_entry c.requires.rising found.0 (origin_there row c.args.origin.0 c.unwrap-place.result found)) found.0

pub returns-clause-others : goal.returns-clause-others
returns-clause-others c v apart =
    let row : List Entry = c.args.entries.now in
    let found : IsPlaceOf row c.args.origin.0 c.unwrap-place.result = rw c.unwrap-place.ensures at c.place_between.ensures in
    others_stay row c.unwrap-place.result _ no_entry v found.0 (origin_there row c.args.origin.0 c.unwrap-place.result found) apart
