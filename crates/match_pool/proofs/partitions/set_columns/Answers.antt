use Rattle.std.proofs.Common.{◌<◌, ◌∙◌, length, length-set, ap, arith}
use Rattle.match_pool.specs.declared.partitions.Spot.{Spot}
use Rattle.match_pool.proofs.Spots.{spots_set}
use Rattle.match_pool.proofs.partitions.set_columns.Goals as goal

pub loop-rank-preserved : goal.loop-rank-preserved
loop-rank-preserved c =
    let at = c.loop-rank in
    let i = at.invariant in
    let low : at.rank < length at.spots.items = (let test = c.loop-rank-test.true in let end = c.len-rank-end.ensures in let long = i.long in let whole = c.args.spots.now.ok.0 in omega (arith, test, end, long, whole)) in
    record {
      long = length-set _ _ _ ∙ i.long;
      spots = λ count are. spots_set count at.spots.items at.rank _ c.index_mut.result.now low (ap (λ (x : Spot). x.number) c.index_mut.ensures.value) (i.spots count are);
    }
