use Rattle.std.proofs.Common.{◌++◌, ◌∙◌, ℕ, List, length, length-append, length-drop, sym, subst, ap, take, refl, arith}
use Rattle.std.proofs.lemmas.Result.{err_from_is_err_and}
use Rattle.program_frame.specs.inside.BatchSteps.{IsBetweenChunks, TakesChunk}
use Rattle.program_frame.specs.Jobs.{bytes_give}
use Rattle.program_frame.specs.inside.StreamSteps.{StopsAt}
use Rattle.program_frame.proofs.ChunkEnds.{all_in, none_left, not_begun, some_left, some_more, stops_chunk}
use Rattle.program_frame.proofs.batches.Batches.take_chunk.Goals as goal

pub take_some-requires-clause-ready : goal.take_some-requires-clause-ready
take_some-requires-clause-ready g c =
    let inv = c.loop-rest.invariant in
    let ready = c.requires.ready in
    (ready.0, ready.1 ++ inv.underway.front, subst (λ j. IsBetweenChunks j (g.J.Job.has c.loop-rest.self.job) ready.0 (g.K.Sink.state c.loop-rest.out) (ready.1 ++ inv.underway.front) c.loop-rest.self.reader c.loop-rest.self.waiting) (sym inv.text) (inv.underway.goes ready.0 ready.1 ready.2))

pub returns-in_err-taken-clause-takes : goal.returns-in_err-taken-clause-takes
returns-in_err-taken-clause-takes g c base fed between =
    let inv = c.loop-rest.invariant in
    let p = err_from_is_err_and c.from_residual.result c.from_residual.ensures.1 in
    let here = subst (λ j. IsBetweenChunks j (g.J.Job.has c.loop-rest.self.job) base (g.K.Sink.state c.loop-rest.out) (fed ++ inv.underway.front) c.loop-rest.self.reader c.loop-rest.self.waiting) (sym inv.text) (inv.underway.goes base fed between) in
    let stops = subst (λ j. StopsAt (bytes_give j) base (g.K.Sink.state c.take_some.new.out) ((fed ++ inv.underway.front) ++ c.loop-rest.rest.now) c.in_err-taken.field-0.0) inv.text (c.in_err-taken.ensures.takes base (fed ++ inv.underway.front) here) in
    rw (p.1, p.2) (stops_chunk base (g.K.Sink.state c.take_some.new.out) fed c.in_err-taken.field-0.0 inv.underway stops)

pub loop-rest-preserved : goal.loop-rest-preserved
loop-rest-preserved g c =
    let inv = c.loop-rest.invariant in
    record {
      text = c.take_some.ensures.text ∙ inv.text;
      underway = some_more (g.J.Job.has c.take_some.new.self.job) (g.K.Sink.state c.take_some.new.out) c.take_some.new.self.reader c.take_some.new.self.waiting _ c.in_ok-taken.taken inv.underway c.behind-rest.ensures (λ base fed between.
          subst (λ j. IsBetweenChunks j (g.J.Job.has c.take_some.new.self.job) base (g.K.Sink.state c.take_some.new.out) (fed ++ take c.in_ok-taken.taken c.loop-rest.rest.now) c.take_some.new.self.reader c.take_some.new.self.waiting) inv.text (c.in_ok-taken.ensures.takes base fed (subst (λ j. IsBetweenChunks j (g.J.Job.has c.loop-rest.self.job) base (g.K.Sink.state c.loop-rest.out) fed c.loop-rest.self.reader c.loop-rest.self.waiting) (sym inv.text) between)));
    }

pub write_read-requires : goal.write_read-requires
write_read-requires g c =
    let inv = c.loop-rest.invariant in
    let ready = c.requires.ready in
    let all = all_in inv.underway (none_left c.loop-rest.rest.now c.is_empty.result c.loop-rest-test.false c.is_empty.ensures) ready.0 ready.1 ready.2 in
    (ready.0, ready.1 ++ c.args.chunk.now, subst (λ j. IsBetweenChunks j (g.J.Job.has c.loop-rest.self.job) ready.0 (g.K.Sink.state c.loop-rest.out) (ready.1 ++ c.args.chunk.now) c.loop-rest.self.reader c.loop-rest.self.waiting) (sym inv.text) all)

pub returns-clause-takes : goal.returns-clause-takes
returns-clause-takes g c base fed between =
    let inv = c.loop-rest.invariant in
    let all = all_in inv.underway (none_left c.loop-rest.rest.now c.is_empty.result c.loop-rest-test.false c.is_empty.ensures) base fed between in
    subst (λ j. TakesChunk j (g.J.Job.has c.write_read.new.self.job) base (g.K.Sink.state c.write_read.new.out) (fed ++ c.args.chunk.now) c.write_read.new.self.reader c.write_read.new.self.waiting c.write_read.result) inv.text
    (c.write_read.ensures.writes base (fed ++ c.args.chunk.now) (subst (λ j. IsBetweenChunks j (g.J.Job.has c.loop-rest.self.job) base (g.K.Sink.state c.loop-rest.out) (fed ++ c.args.chunk.now) c.loop-rest.self.reader c.loop-rest.self.waiting) (sym inv.text) all))

pub loop-rest-init : goal.loop-rest-init
loop-rest-init g c = record { text = refl; underway = not_begun }

pub returns-in_err-taken-clause-text : goal.returns-in_err-taken-clause-text
returns-in_err-taken-clause-text g c = c.take_some.ensures.text ∙ c.loop-rest.invariant.text

pub returns-clause-text : goal.returns-clause-text
returns-clause-text g c = c.write_read.ensures.text ∙ c.loop-rest.invariant.text

pub take_some-requires-clause-sizes : goal.take_some-requires-clause-sizes
take_some-requires-clause-sizes g c =
    let underway = c.loop-rest.invariant.underway in
    let rest = c.loop-rest.rest.now in
    let short = c.requires.short in
    let long = ap (λ (l : List ℕ). length l) underway.whole ∙ length-append underway.front rest in
    (some_left rest c.loop-rest-test.ensures, omega (arith, long, short))

pub behind-rest-requires : goal.behind-rest-requires
behind-rest-requires g c = c.in_ok-taken.ensures.some.1

pub loop-rest-smaller : goal.loop-rest-smaller
loop-rest-smaller g c =
    let some = c.in_ok-taken.ensures.some in
    let left = ap (λ (l : List ℕ). length l) c.behind-rest.ensures ∙ length-drop c.in_ok-taken.taken c.loop-rest.rest.now in
    omega (arith, some.0, some.1, left)
