use Rattle.std.proofs.Common.{arith, sym}
use Rattle.grid_index.proofs.runs.Run.distance2.Goals as goal

pub returns : goal.returns
returns c =
    let place = c.nearest_in_box.ensures in
    let value = c.distance2.ensures.value in
    record {
      least = λ q there. let near = place.nearest q there in omega (arith, near, value);
      place = c.nearest_in_box.result;
      inside = place.inside;
      is = sym value;
    }
