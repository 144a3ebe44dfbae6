use Rattle.std.proofs.Common.{◌≡◌, ◌<◌, ◌≤◌, ◌+◌, ◌-◌, ◌/◌, ℕ, List, length, slice_index_or, arith}
use Rattle.std.proofs.lemmas.Bool.Decides.{nat_tests}
use Rattle.bounded_table.specs.declared.table_row.Entry.{Entry}
use Rattle.bounded_table.proofs.Entries.{no_entry}
use Rattle.bounded_table.proofs.RowChecks.{rises_apart, rises_up}
use Rattle.bounded_table.proofs.places.place_between.Goals.{then-le, else-le}
use Rattle.bounded_table.proofs.places.place_between.Goals as goal

pub loop-count-preserved : goal.loop-count-preserved
loop-count-preserved c =
    let row : List Entry = c.args.entries.now in
    let inv = c.loop-count.invariant in
    let half : ℕ = c.loop-count.count / 2 in
    let middle : ℕ = c.loop-count.low + half in
    let lt : middle < length row = omega (arith, c.requires.places) in
    elim c.if-le.branch [
      | then-le w ↦
          let le : (slice_index_or row middle no_entry).node.0 ≤ c.args.n.0 = grind (arith, nat_tests) in
          let low : c.if-le.low ≡ middle = w.low-is in
          record {
            inside = omega (arith, low);
            below = λ k d before. omega (arith, low, le, rises_apart 0 row c.requires.rising k (middle - k) middle d no_entry (omega (arith, low)) lt);
            above = λ k d from inside. inv.above k d (omega (arith, low)) inside;
          }
      | else-le w ↦
          let gt : c.args.n.0 < (slice_index_or row middle no_entry).node.0 = grind (arith, nat_tests) in
          let low : c.if-le.low ≡ c.loop-count.low = w.low-is in
          record {
            inside = omega (arith, low);
            below = λ k d before. inv.below k d (omega (arith, low));
            above = λ k d from inside. omega (arith, gt, rises_up row c.requires.rising middle k no_entry d (omega (arith, low)) inside);
          }
    ]
