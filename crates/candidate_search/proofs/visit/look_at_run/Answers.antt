use Rattle.std.proofs.Common.{sym}
use Rattle.candidate_search.proofs.visit.look_at_run.Goals as goal

pub nearest_in_box-place-requires-clause-a_in : goal.nearest_in_box-place-requires-clause-a_in
nearest_in_box-place-requires-clause-a_in c = c.requires.run.run.corners.low_in

pub nearest_in_box-place-requires-clause-b_in : goal.nearest_in_box-place-requires-clause-b_in
nearest_in_box-place-requires-clause-b_in c = c.requires.run.run.corners.high_in

pub distance2-requires-clause-a_in : goal.distance2-requires-clause-a_in
distance2-requires-clause-a_in c = c.args.search.at_in

pub look_at_box-requires-clause-run : goal.look_at_box-requires-clause-run
look_at_box-requires-clause-run c = c.requires.run

pub look_at_box-requires-clause-best : goal.look_at_box-requires-clause-best
look_at_box-requires-clause-best c = c.requires.best

pub returns-clause-steps : goal.returns-clause-steps
returns-clause-steps c = c.look_at_box.ensures.steps

pub returns-clause-seen : goal.returns-clause-seen
returns-clause-seen c = c.look_at_box.ensures.seen

pub distance2-requires-clause-b_in : goal.distance2-requires-clause-b_in
distance2-requires-clause-b_in c = c.nearest_in_box-place.ensures.in_range

pub look_at_box-requires-clause-d2 : goal.look_at_box-requires-clause-d2
look_at_box-requires-clause-d2 c =
    let at = c.nearest_in_box-place.ensures in
    record { least = λ q there. rw c.distance2.ensures.value (at.nearest q there); place = c.nearest_in_box-place.result; inside = at.inside; is = sym c.distance2.ensures.value }
