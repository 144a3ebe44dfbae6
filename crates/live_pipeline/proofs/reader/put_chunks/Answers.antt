use Rattle.std.proofs.Common.{refl, sym, ◌∙◌, ap, subst, arith}
use Rattle.std.proofs.lemmas.Result.{err_from_is_err_and}
use Rattle.trace_reader.proofs.Laws.{closed-none}
use Rattle.live_pipeline.specs.Pieces.{parts_of}
use Rattle.program_frame.proofs.ChunkReads.{next_read, next_whole}
use Rattle.live_pipeline.proofs.Reading.{IsFeeding, fed_all, fed_ends, fed_fault, fed_read, feeding_more, may_feed_on, nothing_fed}
use Rattle.live_pipeline.proofs.reader.put_chunks.Goals as goal

pub loop-chunks-init : goal.loop-chunks-init
loop-chunks-init g c = record {
  own = refl;
  feeding = subst (λ at. IsFeeding c.args.name.now (g.S.Shelf.state c.args.shelf.now) at c.open-reader.result c.args.pass.now.parts) (sym c.open-chunks.ensures)
      (nothing_fed c.args.name.now (g.S.Shelf.state c.args.shelf.now) c.open-reader.result c.args.pass.now.parts (record { stands = c.open-reader.ensures; put_are = c.requires.first ∙ sym (ap parts_of closed-none) }));
  within = omega (arith, c.open-chunks.ensures);
  same = refl;
}

pub next_chunk-requires : goal.next_chunk-requires
next_chunk-requires g c =
    let inv = c.loop-chunks.invariant in
    may_feed_on (g.S.Shelf.state c.loop-chunks.shelf) inv.feeding inv.same inv.within

pub returns-in_err-next_chunk-clause-own : goal.returns-in_err-next_chunk-clause-own
returns-in_err-next_chunk-clause-own g c = c.loop-chunks.invariant.own

pub returns-in_err-next_chunk-clause-puts : goal.returns-in_err-next_chunk-clause-puts
returns-in_err-next_chunk-clause-puts g c =
    let inv = c.loop-chunks.invariant in
    let p = err_from_is_err_and c.from_residual.result c.from_residual.ensures.1 in
    rw (p.1, p.2) (fed_ends (g.S.Shelf.state c.loop-chunks.shelf) (g.S.Shelf.state c.next_chunk.new.shelf) c.in_err-next_chunk.field-0.0 inv.feeding inv.same inv.within c.in_err-next_chunk.ensures)

pub put_chunk-requires-clause-own : goal.put_chunk-requires-clause-own
put_chunk-requires-clause-own g c = c.loop-chunks.invariant.own ∙ c.requires.own

pub put_chunk-requires-clause-fed : goal.put_chunk-requires-clause-fed
put_chunk-requires-clause-fed g c =
    let feeding = c.loop-chunks.invariant.feeding in
    (feeding.fed, feeding.has)

pub put_chunk-requires-clause-short : goal.put_chunk-requires-clause-short
put_chunk-requires-clause-short g c =
    let next = next_read c.args.name.now (g.S.Shelf.state c.args.shelf.now) (g.S.Shelf.state c.loop-chunks.shelf) (g.S.Shelf.state c.next_chunk.new.shelf) c.loop-chunks.chunks.at c.next_chunk.new.chunks.at c.next_chunk.new.chunks.bytes.items c.deref.result.now c.in_ok-next_chunk.field-0 c.loop-chunks.invariant.same c.deref.ensures.value c.if-branch.true c.in_ok-next_chunk.ensures in
    next.0.short

pub loop-chunks-smaller : goal.loop-chunks-smaller
loop-chunks-smaller g c =
    let next = next_read c.args.name.now (g.S.Shelf.state c.args.shelf.now) (g.S.Shelf.state c.loop-chunks.shelf) (g.S.Shelf.state c.next_chunk.new.shelf) c.loop-chunks.chunks.at c.next_chunk.new.chunks.at c.next_chunk.new.chunks.bytes.items c.deref.result.now c.in_ok-next_chunk.field-0 c.loop-chunks.invariant.same c.deref.ensures.value c.if-branch.true c.in_ok-next_chunk.ensures in
    omega (arith, next.0.place, next.0.some, next.0.within)

pub loop-chunks-preserved : goal.loop-chunks-preserved
loop-chunks-preserved g c =
    let inv = c.loop-chunks.invariant in
    let next = next_read c.args.name.now (g.S.Shelf.state c.args.shelf.now) (g.S.Shelf.state c.loop-chunks.shelf) (g.S.Shelf.state c.next_chunk.new.shelf) c.loop-chunks.chunks.at c.next_chunk.new.chunks.at c.next_chunk.new.chunks.bytes.items c.deref.result.now c.in_ok-next_chunk.field-0 c.loop-chunks.invariant.same c.deref.ensures.value c.if-branch.true c.in_ok-next_chunk.ensures in
    record {
      own = c.put_chunk.ensures.own ∙ inv.own;
      feeding = feeding_more c.next_chunk.new.chunks.at c.deref.result.now c.put_chunk.new.reader c.put_chunk.new.pass.parts inv.feeding (next.2 inv.feeding.fed (fed_read inv.feeding inv.within))
          (c.in_default.ensures.puts inv.feeding.fed inv.feeding.has);
      within = next.0.within;
      same = next.1;
    }

pub returns-in-Err-clause-own : goal.returns-in-Err-clause-own
returns-in-Err-clause-own g c = c.put_chunk.ensures.own ∙ c.loop-chunks.invariant.own

pub returns-in-Err-clause-puts : goal.returns-in-Err-clause-puts
returns-in-Err-clause-puts g c =
    let inv = c.loop-chunks.invariant in
    let next = next_read c.args.name.now (g.S.Shelf.state c.args.shelf.now) (g.S.Shelf.state c.loop-chunks.shelf) (g.S.Shelf.state c.next_chunk.new.shelf) c.loop-chunks.chunks.at c.next_chunk.new.chunks.at c.next_chunk.new.chunks.bytes.items c.deref.result.now c.in_ok-next_chunk.field-0 c.loop-chunks.invariant.same c.deref.ensures.value c.if-branch.true c.in_ok-next_chunk.ensures in
    fed_fault (g.S.Shelf.state c.next_chunk.new.shelf) c.next_chunk.new.chunks.at c.deref.result.now c.put_chunk.new.reader c.put_chunk.new.pass.parts c.in-Err.fault c.part_of_fault.result inv.feeding next.1 next.0
    (next.2 inv.feeding.fed (fed_read inv.feeding inv.within)) (c.in-Err.ensures.puts inv.feeding.fed inv.feeding.has) c.part_of_fault.ensures

pub returns-clause-own : goal.returns-clause-own
returns-clause-own g c = c.loop-chunks.invariant.own

pub returns-clause-puts : goal.returns-clause-puts
returns-clause-puts g c =
    let inv = c.loop-chunks.invariant in
    let whole = next_whole c.args.name.now (g.S.Shelf.state c.args.shelf.now) (g.S.Shelf.state c.loop-chunks.shelf) (g.S.Shelf.state c.next_chunk.new.shelf) c.loop-chunks.chunks.at c.next_chunk.new.chunks.at c.next_chunk.new.chunks.bytes.items c.in_ok-next_chunk.field-0 c.loop-chunks.invariant.same c.if-branch.false c.in_ok-next_chunk.ensures in
    fed_all (g.S.Shelf.state c.next_chunk.new.shelf) inv.feeding (whole inv.feeding.fed (fed_read inv.feeding inv.within))
