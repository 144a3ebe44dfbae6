use Rattle.std.proofs.Common.{sym, subst}
use Rattle.trace_match.specs.Ranked.{AreRanked}
use Rattle.trace_match.proofs.Ranks.{are_ranked}
use Rattle.match_pool.proofs.answer.in_ids.Goals as goal

pub labels-requires : goal.labels-requires
labels-requires g c =
    let found = c.args.found.now in
    subst (AreRanked found.net.now found.layers.now) (sym c.as_slice-ranks.ensures)
    (are_ranked found.net.now found.params.now found.layers.now found.solved.now c.invariants.ensures c.requires.solved)
