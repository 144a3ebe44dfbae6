use Rattle.std.proofs.Common.{Ok, ap, sym, subst, string_bytes, []}
use Rattle.program_frame.specs.Batches.{WritesBatch}
use Rattle.program_frame.specs.Stream.{works_traces}
use Rattle.live_pipeline.specs.Order.{Parts}
use Rattle.live_pipeline.specs.Living.{LivePerforms}
use Rattle.live_pipeline.proofs.Closings.{both}
use Rattle.live_pipeline.proofs.pipeline.live_traces.Goals as goal

pub returns-in-Some-Read : goal.returns-in-Some-Read
returns-in-Some-Read g c =
    let o = c.in-Ok.ensures in
    let read = rw c.in-Some-Read.is-1 at c.run_both-done.ensures.done in
    let m = rw c.in-Some-Read.is-0 at c.run_both-done.ensures.matched in
    let b = both c.in-Ok.put c.in-Some-Read.pass (ap (λ (p : Parts). p.parts) o.1) c.close_whole.ensures read m.matched in
    let writes = subst (λ j. WritesBatch j (g.J.Job.has c.run_both-done.result.1.job) (g.K.Sink.state c.args.out.now) (g.K.Sink.state c.run_both-done.new.out) b.traces [] c.in-Some-Read.ended) (sym m.same_job) b.writes in
    subst (λ j. LivePerforms (Ok (works_traces (string_bytes c.args.file.name.now) j)) (g.S.Shelf.state c.args.file.shelf) (g.S.Shelf.state c.in-Some-Read.shelf) (g.K.Sink.state c.args.out.now) (g.K.Sink.state c.end_traces.new.out) c.end_traces.result) m.same_job
    (c.end_traces.ensures.ends (string_bytes c.args.file.name.now) (g.S.Shelf.state c.args.file.shelf) (g.S.Shelf.state c.in-Some-Read.shelf) (g.K.Sink.state c.args.out.now) b.traces b.brings writes)

pub returns-in-None-Read : goal.returns-in-None-Read
returns-in-None-Read g c =
    let o = c.in-Ok.ensures in
    let read = rw c.in-None-Read.is-1 at c.run_both-done.ensures.done in
    let same = rw c.in-None-Read.is-0 at c.run_both-done.ensures.matched in
    let m = rw (same.1, same.2) at c.match_parts-last.ensures in
    let b = both c.in-Ok.put c.in-None-Read.pass (ap (λ (p : Parts). p.parts) o.1) c.close_whole-in-None-Read.ensures read m.matched in
    let writes = subst (λ j. WritesBatch j (g.J.Job.has c.match_parts-last.new.job) (g.K.Sink.state c.args.out.now) (g.K.Sink.state c.match_parts-last.new.out) b.traces [] c.match_parts-last.result.1) (sym m.same_job) b.writes in
    subst (λ j. LivePerforms (Ok (works_traces (string_bytes c.args.file.name.now) j)) (g.S.Shelf.state c.args.file.shelf) (g.S.Shelf.state c.in-None-Read.shelf) (g.K.Sink.state c.args.out.now) (g.K.Sink.state c.end_traces-in-None-Read.new.out) c.end_traces-in-None-Read.result) m.same_job
    (c.end_traces-in-None-Read.ensures.ends (string_bytes c.args.file.name.now) (g.S.Shelf.state c.args.file.shelf) (g.S.Shelf.state c.in-None-Read.shelf) (g.K.Sink.state c.args.out.now) b.traces b.brings writes)
