use Rattle.match_work.proofs.Sharing.{batch_at, readers_stay}
use Rattle.match_work.proofs.batches.match_batch.Goals as goal

pub match_all-requires-clause-can : goal.match_all-requires-clause-can
match_all-requires-clause-can g c κs within = record { ground = rw (c.network-network.ensures, c.params-params.ensures.is) c.grid-grid.ensures; traces = c.requires.traces }

pub match_all-requires-clause-readers : goal.match_all-requires-clause-readers
match_all-requires-clause-readers g c κs within = rw (c.network-network.ensures, c.params-params.ensures.is) c.requires.readers

pub returns : goal.returns
returns g c =
    let all = c.match_all.ensures in
    batch_at c.args.matcher.now _ _ c.args.traces.now c.args.readers.now c.match_all.new.readers c.match_all.result c.network-network.ensures c.params-params.ensures.is c.params-params.ensures.accepted c.requires.traces.lawful all.matched (readers_stay _ _ _ all.readers) all.learns
