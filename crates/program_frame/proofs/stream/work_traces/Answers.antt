use Rattle.std.proofs.Common.{◌++◌, [], refl, sym, ◌∙◌, ap, subst, arith}
use Rattle.std.proofs.lemmas.Result.{err_from_is_err_and}
use Rattle.program_frame.specs.inside.BatchSteps.{IsBetweenChunks, IsReading}
use Rattle.program_frame.specs.Jobs.{bytes_give}
use Rattle.program_frame.specs.inside.StreamSteps.{EndsWithOutcome, StopsAt}
use Rattle.program_frame.proofs.ChunkEnds.{begun}
use Rattle.program_frame.proofs.ChunkReads.{next_read, next_whole}
use Rattle.program_frame.proofs.Reading.{are_read, may_read_on, nothing_read, reading_fails, reading_more, reading_stop, work_ends}
use Rattle.program_frame.proofs.stream.work_traces.Goals as goal

pub loop-chunks-init : goal.loop-chunks-init
loop-chunks-init g c =
    let begins = begun (g.J.Job.text c.args.job) (g.J.Job.has c.open-batches.result.job) (g.K.Sink.state c.args.out.now) c.open-batches.result.reader c.open-batches.result.waiting (subst (λ j. g.J.Job.has j []) (sym c.open-batches.ensures.job) c.requires) c.open-batches.ensures.stands c.open-batches.ensures.waiting in
    record {
      text = ap g.J.Job.text c.open-batches.ensures.job;
      reading = subst (λ at. IsReading (g.J.Job.text c.args.job) (g.J.Job.has c.open-batches.result.job) c.args.name.now (g.S.Shelf.state c.args.shelf.now) (g.K.Sink.state c.args.out.now) (g.K.Sink.state c.args.out.now) at c.open-batches.result.reader c.open-batches.result.waiting)
          (sym c.open-chunks.ensures) (nothing_read _ _ c.args.name.now (g.S.Shelf.state c.args.shelf.now) (g.K.Sink.state c.args.out.now) _ _ begins);
      within = omega (arith, c.open-chunks.ensures);
      same = refl;
    }

pub next-requires : goal.next-requires
next-requires g c =
    let inv = c.loop-chunks.invariant in
    may_read_on (g.S.Shelf.state c.loop-chunks.shelf) inv.reading inv.same inv.within

pub returns-in_err-next : goal.returns-in_err-next
returns-in_err-next g c =
    let inv = c.loop-chunks.invariant in
    let p = err_from_is_err_and c.from_residual.result c.from_residual.ensures.1 in
    rw (p.1, p.2) (reading_fails (g.S.Shelf.state c.loop-chunks.shelf) (g.S.Shelf.state c.next.new.shelf) c.in_err-next.field-0.0 inv.reading inv.same inv.within c.in_err-next.ensures.1)

pub take_chunk-requires-clause-ready : goal.take_chunk-requires-clause-ready
take_chunk-requires-clause-ready g c =
    let inv = c.loop-chunks.invariant in
    (g.K.Sink.state c.args.out.now, inv.reading.fed, subst (λ j. IsBetweenChunks j (g.J.Job.has c.loop-chunks.batches.job) (g.K.Sink.state c.args.out.now) (g.K.Sink.state c.loop-chunks.out) inv.reading.fed c.loop-chunks.batches.reader c.loop-chunks.batches.waiting) (sym inv.text) inv.reading.between)

pub loop-chunks-smaller : goal.loop-chunks-smaller
loop-chunks-smaller g c =
    let next = next_read c.args.name.now (g.S.Shelf.state c.args.shelf.now) (g.S.Shelf.state c.loop-chunks.shelf) (g.S.Shelf.state c.next.new.shelf) c.loop-chunks.chunks.at c.next.new.self.at c.next.new.self.bytes.items c.deref.result.now c.in_ok-next.field-0 c.loop-chunks.invariant.same c.deref.ensures.value c.if-branch.true c.in_ok-next.ensures in
    omega (arith, next.0.place, next.0.some, next.0.within)

pub loop-chunks-preserved : goal.loop-chunks-preserved
loop-chunks-preserved g c =
    let inv = c.loop-chunks.invariant in
    let next = next_read c.args.name.now (g.S.Shelf.state c.args.shelf.now) (g.S.Shelf.state c.loop-chunks.shelf) (g.S.Shelf.state c.next.new.shelf) c.loop-chunks.chunks.at c.next.new.self.at c.next.new.self.bytes.items c.deref.result.now c.in_ok-next.field-0 c.loop-chunks.invariant.same c.deref.ensures.value c.if-branch.true c.in_ok-next.ensures in
    let takes = subst (λ j. IsBetweenChunks j (g.J.Job.has c.take_chunk.new.self.job) (g.K.Sink.state c.args.out.now) (g.K.Sink.state c.take_chunk.new.out) (inv.reading.fed ++ c.deref.result.now) c.take_chunk.new.self.reader c.take_chunk.new.self.waiting) inv.text
    (c.in_ok-take_chunk.ensures.takes (g.K.Sink.state c.args.out.now) inv.reading.fed (subst (λ j. IsBetweenChunks j (g.J.Job.has c.loop-chunks.batches.job) (g.K.Sink.state c.args.out.now) (g.K.Sink.state c.loop-chunks.out) inv.reading.fed c.loop-chunks.batches.reader c.loop-chunks.batches.waiting) (sym inv.text) inv.reading.between)) in
    record {
      text = c.take_chunk.ensures.text ∙ inv.text;
      reading = reading_more (g.J.Job.has c.take_chunk.new.self.job) (g.K.Sink.state c.take_chunk.new.out) c.next.new.self.at c.deref.result.now c.take_chunk.new.self.reader c.take_chunk.new.self.waiting inv.reading (next.2 inv.reading.fed (are_read inv.reading inv.within)) takes;
      within = next.0.within;
      same = next.1;
    }

pub returns-in_err-take_chunk : goal.returns-in_err-take_chunk
returns-in_err-take_chunk g c =
    let inv = c.loop-chunks.invariant in
    let next = next_read c.args.name.now (g.S.Shelf.state c.args.shelf.now) (g.S.Shelf.state c.loop-chunks.shelf) (g.S.Shelf.state c.next.new.shelf) c.loop-chunks.chunks.at c.next.new.self.at c.next.new.self.bytes.items c.deref.result.now c.in_ok-next.field-0 c.loop-chunks.invariant.same c.deref.ensures.value c.if-branch.true c.in_ok-next.ensures in
    let p = err_from_is_err_and c.from_residual-in_err-take_chunk.result c.from_residual-in_err-take_chunk.ensures.1 in
    let stops = subst (λ j. StopsAt (bytes_give j) (g.K.Sink.state c.args.out.now) (g.K.Sink.state c.take_chunk.new.out) (inv.reading.fed ++ c.deref.result.now) c.in_err-take_chunk.field-0.0) inv.text
    (c.in_err-take_chunk.ensures.takes (g.K.Sink.state c.args.out.now) inv.reading.fed (subst (λ j. IsBetweenChunks j (g.J.Job.has c.loop-chunks.batches.job) (g.K.Sink.state c.args.out.now) (g.K.Sink.state c.loop-chunks.out) inv.reading.fed c.loop-chunks.batches.reader c.loop-chunks.batches.waiting) (sym inv.text) inv.reading.between)) in
    rw (p.1, p.2) (reading_stop (g.S.Shelf.state c.next.new.shelf) (g.K.Sink.state c.take_chunk.new.out) c.next.new.self.at c.deref.result.now c.in_err-take_chunk.field-0.0 inv.reading next.1 next.0 (next.2 inv.reading.fed (are_read inv.reading inv.within)) stops)

pub finish-requires : goal.finish-requires
finish-requires g c =
    let inv = c.loop-chunks.invariant in
    (g.K.Sink.state c.args.out.now, inv.reading.fed, subst (λ j. IsBetweenChunks j (g.J.Job.has c.loop-chunks.batches.job) (g.K.Sink.state c.args.out.now) (g.K.Sink.state c.loop-chunks.out) inv.reading.fed c.loop-chunks.batches.reader c.loop-chunks.batches.waiting) (sym inv.text) inv.reading.between)

pub returns : goal.returns
returns g c =
    let inv = c.loop-chunks.invariant in
    let base = g.K.Sink.state c.args.out.now in
    let fed = inv.reading.fed in
    let whole = next_whole c.args.name.now (g.S.Shelf.state c.args.shelf.now) (g.S.Shelf.state c.loop-chunks.shelf) (g.S.Shelf.state c.next.new.shelf) c.loop-chunks.chunks.at c.next.new.self.at c.next.new.self.bytes.items c.in_ok-next.field-0 c.loop-chunks.invariant.same c.if-branch.false c.in_ok-next.ensures in
    let between = subst (λ j. IsBetweenChunks j (g.J.Job.has c.loop-chunks.batches.job) base (g.K.Sink.state c.loop-chunks.out) fed c.loop-chunks.batches.reader c.loop-chunks.batches.waiting) (sym inv.text) inv.reading.between in
    work_ends (g.S.Shelf.state c.next.new.shelf) (g.K.Sink.state c.finish.new.out) c.finish.result inv.reading (whole fed (are_read inv.reading inv.within))
    (subst (λ j. EndsWithOutcome (bytes_give j fed) base (g.K.Sink.state c.finish.new.out) c.finish.result) inv.text (c.finish.ensures base fed between))
