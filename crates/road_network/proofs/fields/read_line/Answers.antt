use Rattle.road_network.proofs.Points.{point-last, point-more}
use Rattle.road_network.proofs.fields.read_line.Goals as goal

pub returns-in_default-clause-value : goal.returns-in_default-clause-value
returns-in_default-clause-value c =
    point-last c.args.field.now c.loop-fault.rest.now _ _ c.first_point-point.result.0 c.loop-fault.invariant.read (rw c.in_default.is at c.first_point-point.ensures.line) c.in_ok-fault.ensures.value

pub loop-fault-preserved : goal.loop-fault-preserved
loop-fault-preserved c =
    let inv = c.loop-fault.invariant in
    let first = c.first_point-point.ensures in
    let put = c.in_ok-fault.ensures in
    record {
      read = point-more c.args.field.now c.loop-fault.rest.now c.in-Some.behind.now _ _ c.first_point-point.result.0 inv.read (rw c.in-Some.is at first.line) put.value;
      within = put.within first.within inv.within;
    }
