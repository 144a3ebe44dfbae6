use Rattle.std.proofs.Common.{length}
use Rattle.match_pool.proofs.Spots.{spots_permuted}
use Rattle.match_pool.proofs.partitions.sorted.Goals as goal

pub returns : goal.returns
returns c =
    let n = length c.args.traces.now in
    spots_permuted n _ _ c.sort_unstable_by_key-2.ensures.permutation
    (c.set_columns.ensures n (spots_permuted n _ _ c.sort_unstable_by_key.ensures.permutation c.in_ok-spots.ensures))
