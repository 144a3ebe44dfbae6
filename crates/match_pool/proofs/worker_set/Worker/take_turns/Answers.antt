use Rattle.std.proofs.Common.{◌≡◌, ◌∙◌, ◌<◌, ℕ, length, refl, sym, subst, arith}
use Rattle.match_pool.specs.inside.WorkerSet.{DrewFrom}
use Rattle.match_pool.specs.Drawing.{job_of}
use Rattle.match_pool.proofs.Lists.{default_same}
use Rattle.match_pool.proofs.Draws.{reads_none, reads_then, drew_more, drew_none}
use Rattle.match_pool.proofs.worker_set.Worker.take_turns.Goals as goal

pub loop-place-init : goal.loop-place-init
loop-place-init g c = record {
  reader = reads_none (job_of c.args.batch.now) c.args.self.now.reader;
  drew = drew_none (job_of c.args.batch.now) c.args.partitions.now c.args.from c.args.self.now;
}

pub loop-place-preserved : goal.loop-place-preserved
loop-place-preserved g c =
    let at = c.loop-place in
    let i = at.invariant in
    let j = job_of c.args.batch.now in
    let partitions = c.args.partitions.now in
    let before = c.args.self.now in
    let done = c.in_ok-take.ensures in
    let partition = c.index-partitions-place.result in
    let low : at.place < length partitions = (let test = c.loop-place-test.true in let past = c.requires.past.1 in omega (arith, test, past)) in
    record {
      reader = reads_then j before.reader at.self.reader c.take.new.reader i.reader done.reader;
      drew = drew_more j partitions c.args.from at.place before at.self _ partition c.take.new.self at.auto.place low (i.drew.count ∙ c.requires.can.count)
          (λ d. default_same partitions at.place d partition low ∙ sym c.index-partitions-place.is) refl done.reader.stays done.taken i.drew;
    }

pub returns-clause-drew_all : goal.returns-clause-drew_all
returns-clause-drew_all g c =
    let at = c.loop-place in
    let all : at.place ≡ c.args.past = (let test = c.loop-place-test.false in let most = at.auto.place-end c.requires.past.0 in omega (arith, test, most)) in
    subst (λ (p : ℕ). DrewFrom (job_of c.args.batch.now) c.args.partitions.now c.args.from p c.args.self.now at.self) all at.invariant.drew

pub bounds-partitions-place : goal.bounds-partitions-place
bounds-partitions-place g c = (let test = c.loop-place-test.true in let past = c.requires.past.1 in omega (arith, test, past))

pub index_mut-requires : goal.index_mut-requires
index_mut-requires g c =
    let test = c.loop-place-test.true in
    let past = c.requires.past.1 in
    let count = c.loop-place.invariant.drew.count ∙ c.requires.can.count in
    let whole = c.loop-place.self.turns.ok.0 in
    omega (arith, test, past, count, whole)

pub returns-clause-reader : goal.returns-clause-reader
returns-clause-reader g c = c.loop-place.invariant.reader

pub returns-in_err-take-clause-reader : goal.returns-in_err-take-clause-reader
returns-in_err-take-clause-reader g c = reads_then (job_of c.args.batch.now) c.args.self.now.reader c.loop-place.self.reader c.take.new.reader c.loop-place.invariant.reader c.take.ensures.reader
