use Rattle.std.proofs.Common.{refl, sym, subst, arith}
use Rattle.std.proofs.lemmas.Result.{err_from_is_err_and}
use Rattle.program_frame.specs.Read.{FailsToRead}
use Rattle.program_frame.specs.inside.HeldTraces.{IsHolding}
use Rattle.program_frame.specs.declared.stop.File.TheVariants.{Traces}
use Rattle.program_frame.proofs.ChunkReads.{next_read, next_whole}
use Rattle.program_frame.proofs.Stages.{load_unread}
use Rattle.program_frame.proofs.WholeReading.{chunk_refused, fed_whole, has_read, holds_more, holds_nothing, may_feed_on}
use Rattle.program_frame.proofs.whole_traces.feed_file.Goals as goal

pub loop-chunks-init : goal.loop-chunks-init
loop-chunks-init g c = record {
  holding = subst (λ at. IsHolding c.args.name.now (g.S.Shelf.state c.args.shelf.now) at c.args.reader.now c.args.traces.now) (sym c.open-chunks.ensures)
      (holds_nothing c.args.name.now (g.S.Shelf.state c.args.shelf.now) c.args.reader.now c.args.traces.now c.requires.stands c.requires.none);
  within = omega (arith, c.open-chunks.ensures);
  same = refl;
}

pub next-requires : goal.next-requires
next-requires g c =
    let inv = c.loop-chunks.invariant in
    may_feed_on (g.S.Shelf.state c.loop-chunks.shelf) inv.holding inv.same inv.within

pub returns-in_err-next : goal.returns-in_err-next
returns-in_err-next g c =
    let p = err_from_is_err_and c.from_residual.result c.from_residual.ensures.1 in
    let fails = subst (λ s. FailsToRead Traces c.args.name.now s (g.S.Shelf.state c.next.new.shelf) c.in_err-next.field-0.0) c.loop-chunks.invariant.same c.in_err-next.ensures.1 in
    rw (p.1, p.2) (load_unread Traces c.args.name.now (g.S.Shelf.state c.args.shelf.now) (g.S.Shelf.state c.next.new.shelf) c.in_err-next.field-0.0 fails)

pub returns-in-Err : goal.returns-in-Err
returns-in-Err g c =
    let inv = c.loop-chunks.invariant in
    let next = next_read c.args.name.now (g.S.Shelf.state c.args.shelf.now) (g.S.Shelf.state c.loop-chunks.shelf) (g.S.Shelf.state c.next.new.shelf) c.loop-chunks.chunks.at c.next.new.self.at c.next.new.self.bytes.items c.deref.result.now c.in_ok-next.field-0 c.loop-chunks.invariant.same c.deref.ensures.value c.if-branch.true c.in_ok-next.ensures in
    chunk_refused c.args.name.now (g.S.Shelf.state c.args.shelf.now) (g.S.Shelf.state c.next.new.shelf) c.loop-chunks.chunks.at c.next.new.self.at c.loop-chunks.reader c.loop-chunks.traces c.feed.new.into c.deref.result.now c.in-Err.fault
    c.refuse_fault.result inv.holding next.1 next.0 (next.2 inv.holding.fed (has_read inv.holding inv.within)) (c.in-Err.ensures.fed inv.holding.fed inv.holding.stands)
    c.refuse_fault.ensures

pub loop-chunks-smaller : goal.loop-chunks-smaller
loop-chunks-smaller g c =
    let next = next_read c.args.name.now (g.S.Shelf.state c.args.shelf.now) (g.S.Shelf.state c.loop-chunks.shelf) (g.S.Shelf.state c.next.new.shelf) c.loop-chunks.chunks.at c.next.new.self.at c.next.new.self.bytes.items c.deref.result.now c.in_ok-next.field-0 c.loop-chunks.invariant.same c.deref.ensures.value c.if-branch.true c.in_ok-next.ensures in
    omega (arith, next.0.place, next.0.some, next.0.within)

pub loop-chunks-preserved : goal.loop-chunks-preserved
loop-chunks-preserved g c =
    let inv = c.loop-chunks.invariant in
    let next = next_read c.args.name.now (g.S.Shelf.state c.args.shelf.now) (g.S.Shelf.state c.loop-chunks.shelf) (g.S.Shelf.state c.next.new.shelf) c.loop-chunks.chunks.at c.next.new.self.at c.next.new.self.bytes.items c.deref.result.now c.in_ok-next.field-0 c.loop-chunks.invariant.same c.deref.ensures.value c.if-branch.true c.in_ok-next.ensures in
    let feeds = c.in_default.ensures.fed inv.holding.fed inv.holding.stands in
    record {
      holding = holds_more c.args.name.now (g.S.Shelf.state c.args.shelf.now) c.loop-chunks.chunks.at c.next.new.self.at c.loop-chunks.reader c.feed.new.self c.loop-chunks.traces c.feed.new.into c.deref.result.now inv.holding
          (next.2 inv.holding.fed (has_read inv.holding inv.within)) feeds.0 feeds.1;
      within = next.0.within;
      same = next.1;
    }

pub returns : goal.returns
returns g c =
    let inv = c.loop-chunks.invariant in
    let whole = next_whole c.args.name.now (g.S.Shelf.state c.args.shelf.now) (g.S.Shelf.state c.loop-chunks.shelf) (g.S.Shelf.state c.next.new.shelf) c.loop-chunks.chunks.at c.next.new.self.at c.next.new.self.bytes.items c.in_ok-next.field-0 c.loop-chunks.invariant.same c.if-branch.false c.in_ok-next.ensures in
    fed_whole (g.S.Shelf.state c.next.new.shelf) inv.holding (whole inv.holding.fed (has_read inv.holding inv.within))
