use Rattle.std.proofs.Common.{◌≡◌, ◌<◌, ◌≤◌, ◌+◌, ◌-◌, ◌/◌, ℕ, List, slice_index_or, arith}
use Rattle.std.proofs.lemmas.Bool.Decides.{nat_tests}
use Rattle.bounded_table.specs.declared.table_row.Entry.{Entry}
use Rattle.bounded_table.specs.Finding.{IsPlaceOf}
use Rattle.bounded_table.proofs.Entries.{no_entry}
use Rattle.bounded_table.proofs.LastEdges.{entry_node}
use Rattle.bounded_table.proofs.RowChecks.{rises_apart}
use Rattle.bounded_table.proofs.places.place_from.Goals as goal

-- the entry at the place of a node is that node's
at_place : (entries : List Entry) (v k : ℕ) → IsPlaceOf entries v k → (slice_index_or entries k no_entry).node.0 ≡ v
at_place entries v k is = entry_node entries v (slice_index_or entries k no_entry) (is.1 no_entry)

pub place_between-requires-clause-below : goal.place_between-requires-clause-below
place_between-requires-clause-below c k d lt =
    let near : ℕ = c.args.start - c.min-far.result / 4 in
    let le : (slice_index_or c.args.entries.now near no_entry).node.0 ≤ c.args.n.0 = grind (arith, nat_tests) in
    omega (arith, le, rises_apart 0 c.args.entries.now c.requires.rising k (near - k) near d no_entry (omega arith) (omega (arith, c.requires.start.0)))

pub place_between-requires-clause-above : goal.place_between-requires-clause-above
place_between-requires-clause-above c k d from lt = omega (arith, at_place c.args.entries.now c.args.here.0 c.args.start c.requires.start, rises_apart 0 c.args.entries.now c.requires.rising c.args.start (k - c.args.start) k no_entry d (omega arith) lt)

pub place_between-requires-then-n-here-clause-below : goal.place_between-requires-then-n-here-clause-below
place_between-requires-then-n-here-clause-below c k d lt = omega (arith, at_place c.args.entries.now c.args.here.0 c.args.start c.requires.start, rises_apart 0 c.args.entries.now c.requires.rising k (c.args.start - k) c.args.start d no_entry (omega arith) c.requires.start.0)

pub place_between-requires-then-n-here-clause-above : goal.place_between-requires-then-n-here-clause-above
place_between-requires-then-n-here-clause-above c k d from lt =
    let near : ℕ = c.args.start - c.min-far.result / 4 in
    let gt : c.args.n.0 < (slice_index_or c.args.entries.now near no_entry).node.0 = grind (arith, nat_tests) in
    omega (arith, gt, rises_apart 0 c.args.entries.now c.requires.rising near (k - near) k no_entry d (omega arith) lt)

pub place_between-requires-then-gt-clause-below : goal.place_between-requires-then-gt-clause-below
place_between-requires-then-gt-clause-below c k d lt = omega (arith, at_place c.args.entries.now c.args.here.0 c.args.start c.requires.start, rises_apart 0 c.args.entries.now c.requires.rising k (c.args.start - k) c.args.start d no_entry (omega arith) c.requires.start.0)

pub place_between-requires-then-gt-clause-above : goal.place_between-requires-then-gt-clause-above
place_between-requires-then-gt-clause-above c k d from lt =
    let near : ℕ = c.args.start + c.min-far-else-n-here.result / 4 in
    let gt : c.args.n.0 < (slice_index_or c.args.entries.now near no_entry).node.0 = grind (arith, nat_tests) in
    omega (arith, gt, rises_apart 0 c.args.entries.now c.requires.rising near (k - near) k no_entry d (omega arith) lt)

pub place_between-requires-else-n-here-clause-below : goal.place_between-requires-else-n-here-clause-below
place_between-requires-else-n-here-clause-below c k d lt =
    let near : ℕ = c.args.start + c.min-far-else-n-here.result / 4 in
    let le : (slice_index_or c.args.entries.now near no_entry).node.0 ≤ c.args.n.0 = grind (arith, nat_tests) in
    omega (arith, le, rises_apart 0 c.args.entries.now c.requires.rising k (near - k) near d no_entry (omega arith) (omega (arith, c.requires.start.0)))

pub place_between-requires-else-n-here-clause-above : goal.place_between-requires-else-n-here-clause-above
place_between-requires-else-n-here-clause-above c k d from lt = omega (arith, at_place c.args.entries.now c.args.here.0 c.args.start c.requires.start, rises_apart 0 c.args.entries.now c.requires.rising c.args.start (k - c.args.start) k no_entry d (omega arith) lt)
