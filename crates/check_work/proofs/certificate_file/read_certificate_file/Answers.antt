use Rattle.std.proofs.Common.{◌≡◌, List, ℕ, ◌++◌, true, length, ap, arith, rules, ◌∙◌, length-append}
use Rattle.check_work.proofs.CertificateFiles.{read_on, same_block, taken_in}
use Rattle.check_work.proofs.certificate_file.read_certificate_file.Goals as goal

pub loop-goes_on-preserved : goal.loop-goes_on-preserved
loop-goes_on-preserved g c =
    let at = c.loop-goes_on in
    let i = at.invariant in
    let left = c.in_ok-more in
    let first = g.S.Shelf.state c.fill.new.shelf in
    let on : at.goes_on ≡ true = search (rules, c.loop-goes_on-test.true) in
    let taken : left.more ≡ at.reader ++ at.block.bytes.items = taken_in at.reader c.deref.result.now at.block.bytes.items left.more left.ensures.taken c.deref.ensures.value in
    record {
      same = left.ensures.ok.same ∙ i.same;
      place = omega (arith, ap (λ (t : List ℕ). length t) taken, length-append at.reader at.block.bytes.items, i.place, c.next_block-next.ensures.place, left.ensures.ok.place);
      front = read_on c.args.name.now first first at.block at.goes_on at.reader left.more i.read on i.place i.front taken;
      read = same_block c.args.name.now first (g.S.Shelf.state at.shelf) (g.S.Shelf.state c.take_and_fill.new.shelf) c.next_block-next.result.from left.filled left.on i.same left.ensures.ok;
    }
