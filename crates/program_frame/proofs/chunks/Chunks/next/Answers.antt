use Rattle.std.proofs.Common.{◌≡◌, ◌+◌, ◌≤◌, length, refl, ap, arith, ◌∙◌}
use Rattle.edge_io.specs.declared.shelf.Taken.TheVariants.{End, Got}
use Rattle.program_frame.proofs.ChunkReads.{chunk_read, end_read, limit_read, reads_into}
use Rattle.program_frame.proofs.chunks.Chunks.next.Goals as goal

pub returns-then-self-gt-TRACE_LIMIT : goal.returns-then-self-gt-TRACE_LIMIT
returns-then-self-gt-TRACE_LIMIT g c =
    ((refl, c.truncate.ensures.items), limit_read c.args.name.now (g.S.Shelf.state c.args.shelf.now) c.args.self.now.at c.if-self-gt-TRACE_LIMIT.true)

pub returns-in-Got : goal.returns-in-Got
returns-in-Got g c =
    let grows = c.in-Got.ensures.grows in
    let long : length c.read.new.into.items ≡ c.in-Got.count = omega (arith, grows.longer, ap length c.truncate.ensures.items) in
    let low : c.args.self.now.at ≤ 1_099_511_627_776 = omega (arith, c.if-self-gt-TRACE_LIMIT.false) in
    let within : c.args.self.now.at + c.in-Got.count ≤ 1_099_511_627_777 = omega (arith, grows.within, c.wanted-most.ensures, low) in
    let reads = reads_into (g.S.Shelf.state c.args.shelf.now).holds c.args.name.now c.args.self.now.at _ c.read.new.into.items (Got c.in-Got.count) c.truncate.ensures.items c.in-Got.ensures.bytes in
    rw c.from.ensures (
      record { some = omega (arith, long, grows.some); short = omega (arith, long, grows.within, c.wanted-most.ensures); place = omega (arith, long); within = within },
      c.in-Got.ensures.state,
      chunk_read c.args.name.now (g.S.Shelf.state c.args.shelf.now) c.args.self.now.at c.in-Got.count c.read.new.into.items long within reads,
    )

pub returns-in-End : goal.returns-in-End
returns-in-End g c =
    let low : c.args.self.now.at ≤ 1_099_511_627_776 = omega (arith, c.if-self-gt-TRACE_LIMIT.false) in
    let whole = end_read c.args.name.now (g.S.Shelf.state c.args.shelf.now) (g.S.Shelf.state c.read.new.self) c.args.self.now.at c.read.new.into.items low c.in-End.ensures.state
    (reads_into (g.S.Shelf.state c.args.shelf.now).holds c.args.name.now c.args.self.now.at _ c.read.new.into.items End c.truncate.ensures.items c.in-End.ensures.bytes) in
    ((refl, c.in-End.ensures.grows ∙ c.truncate.ensures.items), whole)
