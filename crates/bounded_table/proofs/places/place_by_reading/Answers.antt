use Rattle.std.proofs.Common.{◌≡◌, ◌≢◌, ◌<◌, ℕ, List, length, slice_index_or, inl, inr, arith}
use Rattle.std.proofs.lemmas.Bool.{cases_lt}
use Rattle.std.proofs.lemmas.Bool.Decides.{nat_tests}
use Rattle.bounded_table.specs.declared.table_row.Entry.{Entry}
use Rattle.bounded_table.proofs.Entries.{no_entry}
use Rattle.bounded_table.proofs.RowChecks.{absent, place_of, rises_up}
use Rattle.bounded_table.proofs.places.place_by_reading.Goals as goal

pub loop-place-init : goal.loop-place-init
loop-place-init c k d before = omega (arith, c.requires.below k d before)

pub returns-then-eq : goal.returns-then-eq
returns-then-eq c =
    let row : List Entry = c.args.entries.now in
    let place : ℕ = c.loop-place.place in
    let same : (slice_index_or row place no_entry).node.0 ≡ c.args.n.0 = grind (arith, nat_tests) in
    place_of row c.requires.rising c.args.n.0 place no_entry (omega (arith, c.requires.places)) same

pub loop-place-preserved : goal.loop-place-preserved
loop-place-preserved c k d before =
    let row : List Entry = c.args.entries.now in
    let place : ℕ = c.loop-place.place in
    let other : (slice_index_or row place no_entry).node.0 ≢ c.args.n.0 = grind (arith, nat_tests) in
    let inside : place < length row = omega (arith, c.requires.places) in
    elim (cases_lt k place) [
      | inl earlier ↦ c.loop-place.invariant k d earlier
      | inr here ↦ omega (arith, other, rises_up row c.requires.rising k place d no_entry (omega arith) inside, rises_up row c.requires.rising place k no_entry d here (omega (arith, inside)))
    ]

pub returns : goal.returns
returns c = absent c.args.entries.now c.args.n.0 (λ k d lt same. elim (cases_lt k c.args.past) [
  | inl before ↦ c.loop-place.invariant k d (omega (arith, before)) same
  | inr from ↦ omega (arith, c.requires.above k d from lt)
])
