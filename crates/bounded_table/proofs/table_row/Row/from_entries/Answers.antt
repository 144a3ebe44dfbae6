use Rattle.std.proofs.Common.{arith}
use Rattle.bounded_table.specs.Closed.{origin_label}
use Rattle.bounded_table.specs.Finding.{IsPlaceOf}
use Rattle.bounded_table.proofs.RowChecks.{found_some}
use Rattle.bounded_table.proofs.table_row.Row.from_entries.Goals as goal

pub place_between-requires-clause-rising : goal.place_between-requires-clause-rising
place_between-requires-clause-rising c = rw c.deref.ensures.value c.requires.rising

pub place_between-requires-clause-below : goal.place_between-requires-clause-below
place_between-requires-clause-below c = λ k d lt. absurd (omega arith)

pub place_between-requires-clause-above : goal.place_between-requires-clause-above
place_between-requires-clause-above c = λ k d le lt. absurd (omega arith)

pub unwrap-requires : goal.unwrap-requires
unwrap-requires c = found_some c.args.entries.items c.args.origin.0 c.place_between.result origin_label (rw c.deref.ensures.value at c.place_between.ensures) c.requires.origin

pub invariant_of-result : goal.invariant_of-result
invariant_of-result c =
    let middle : IsPlaceOf c.args.entries.items c.args.origin.0 c.unwrap.result = rw c.unwrap.ensures at (rw c.deref.ensures.value at c.place_between.ensures) in
    rw c.from_vec.ensures (record { rules = c.requires; middle = middle })
