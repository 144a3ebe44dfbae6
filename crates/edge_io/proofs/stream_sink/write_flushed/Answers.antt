use Rattle.std.proofs.Common.{◌∙◌, ◌++◌, rules, take, sym, ap}
use Rattle.edge_io.proofs.KnownBytes.{appends_more}
use Rattle.edge_io.proofs.Writing.{done_more, grown_kept, grown_more, prefix_done}
use Rattle.edge_io.proofs.stream_sink.write_flushed.Goals.{in-Ok, in-Err}
use Rattle.edge_io.proofs.stream_sink.write_flushed.Goals as goal

pub returns-then-is_empty-clause-err : goal.returns-then-is_empty-clause-err
returns-then-is_empty-clause-err g c =
    let (done, split, appended) = c.loop.invariant in
    let prefix = prefix_done _ _ _ done c.loop.rest.now split (grown_kept _ _ _ done appended c.flush.ensures.bytes) in
    search (rules, prefix)

pub returns-in-Ok-eq0-clause-err : goal.returns-in-Ok-eq0-clause-err
returns-in-Ok-eq0-clause-err g c =
    let (done, split, appended) = c.loop.invariant in
    prefix_done _ _ _ _ _ (done_more _ done c.loop.rest.now c.in-Ok-eq0.field-0 split) (grown_more _ _ _ done c.loop.rest.now c.in-Ok-eq0.field-0 _ c.in-Ok-eq0.is c.write.ensures.bytes appended)

pub returns-in-Err-2-clause-err : goal.returns-in-Err-2-clause-err
returns-in-Err-2-clause-err g c =
    let (done, split, appended) = c.loop.invariant in
    prefix_done _ _ _ done c.loop.rest.now split (grown_kept _ _ _ done appended c.in-Err-2.ensures.bytes)

pub loop-preserved : goal.loop-preserved
loop-preserved g c =
    let (done, split, appended) = c.loop.invariant in
    elim c.match-write.branch [
      | in-Ok w ↦ (done ++ take w.in-Ok.count c.loop.rest.now, done_more _ done _ w.in-Ok.count split ∙ ap (λ rest. (done ++ take w.in-Ok.count c.loop.rest.now) ++ rest.now) (sym w.rest-is), appends_more _ _ _ done _ appended w.in-Ok.ensures.bytes)
      | in-Err w ↦ (done, split ∙ ap (λ rest. done ++ rest.now) (sym w.rest-is), grown_kept _ _ _ done appended w.in-Err.ensures.bytes)
    ]

pub returns-clause-err : goal.returns-clause-err
returns-clause-err g c =
    let (done, split, appended) = c.loop.invariant in
    prefix_done _ _ _ done c.loop.rest.now split appended
