use Rattle.std.proofs.Common.{None, ◌∙◌, sym}
use Rattle.road_network.proofs.RowsRead.{found-with}
use Rattle.road_network.proofs.fields.field_with.Goals as goal

pub returns-then-is_fault : goal.returns-then-is_fault
returns-then-is_fault c =
    found-with c.args.kind c.args.readings.now c.loop-i.i None c.loop-i-test.true (λ k lt. c.loop-i.invariant k None lt) (sym c.is_fault.ensures ∙ c.if-is_fault.true)
