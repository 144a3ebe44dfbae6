use Rattle.std.proofs.Common.{◌≡◌, ◌+◌, ◌≤◌, ◌<◌, ℕ, true, false, List, length, vec_len, refl, ap, subst, rules, arith, ◌∙◌, nat_le}
use Rattle.std.proofs.lemmas.Bool.Decides.{nat_tests}
use Rattle.edge_io.specs.Shelf.{Reads}
use Rattle.edge_io.specs.declared.shelf.Taken.TheVariants.{End, Got}
use Rattle.potential_certificate.specs.CertificateText.{certificate_text_limit}
use Rattle.check_work.proofs.CertificateFiles.{block_ends, block_full, front_on, last_block}
use Rattle.check_work.proofs.certificate_file.fill.Goals as goal

pub loop-block-preserved : goal.loop-block-preserved
loop-block-preserved g c =
    let i = c.loop-block.invariant in
    let block = c.loop-block.block in
    let grows = c.in-Got.ensures.grows in
    let old = block.bytes.items in
    let new = c.read.new.into.items in
    let long : vec_len block.bytes ≡ length old = search rules in
    let reads = subst (λ (at : ℕ). Reads (g.S.Shelf.state c.loop-block.shelf).holds c.args.name.now (block.from + at) old new (Got c.in-Got.field-0)) (c.len-in-loop-block.ensures ∙ long) c.in-Got.ensures.bytes in
    record {
      same = c.in-Got.ensures.state ∙ i.same;
      place = i.place;
      within = omega (arith, grows.longer, grows.within, c.min-most.ensures, c.len-in-loop-block.ensures, long, i.within);
      front = front_on (g.S.Shelf.state c.args.shelf.now) (g.S.Shelf.state c.loop-block.shelf) c.args.name.now block.from old new c.in-Got.field-0 i.same i.front reads;
    }

pub returns-in-End-clause-ok : goal.returns-in-End-clause-ok
returns-in-End-clause-ok g c =
    let i = c.loop-block.invariant in
    let block = c.loop-block.block in
    let old = block.bytes.items in
    let new = c.read.new.into.items in
    let before : block.from + c.len.result < c.min-end.result = search (rules, c.loop-block-test.true) in
    let long : vec_len block.bytes ≡ length old = search rules in
    let reads = subst (λ (at : ℕ). Reads (g.S.Shelf.state c.loop-block.shelf).holds c.args.name.now (block.from + at) old new End) (c.len-in-loop-block.ensures ∙ long) c.in-End.ensures.bytes in
    last_block c.args.name.now (g.S.Shelf.state c.args.shelf.now) (g.S.Shelf.state c.read.new.self) c.args.block.now.from _ (c.in-End.ensures.state ∙ i.same) i.place
    (block_ends (g.S.Shelf.state c.args.shelf.now) (g.S.Shelf.state c.loop-block.shelf) c.args.name.now block.from old new i.same (omega (arith, before, c.len.ensures, long, c.min-end.ensures)) i.front c.in-End.ensures.grows reads)

pub returns-clause-ok : goal.returns-clause-ok
returns-clause-ok g c =
    let i = c.loop-block.invariant in
    let block = c.loop-block.block in
    let behind : c.min-end.result ≤ block.from + c.len.result = search (rules, c.loop-block-test.false) in
    let long : vec_len block.bytes ≡ length block.bytes.items = search rules in
    let full : block.from + length block.bytes.items ≡ c.min-end.result = omega (arith, behind, c.len.ensures, long, i.within) in
    let some : block.from + 1 ≤ c.min-end.result = omega (arith, i.place, c.requires.from, c.requires.some, c.min-end.ensures) in
    record {
      same = i.same;
      place = i.place;
      some = λ e. omega (arith, some, full);
      within = λ e. grind (arith, nat_tests, e, full);
      read = block_full (g.S.Shelf.state c.args.shelf.now) c.args.name.now block.from c.min-end.result block.bytes.items (nat_le c.min-end.result certificate_text_limit) refl (omega (arith, c.min-end.ensures)) full i.front;
    }

pub returns-in-End-clause-size : goal.returns-in-End-clause-size
returns-in-End-clause-size g c =
    let i = c.loop-block.invariant in
    record {
      few = omega (arith, ap (λ (l : List ℕ). length l) c.in-End.ensures.grows, i.within, i.place, c.min-end.ensures);
      full = λ (on : false ≡ true). absurd (cc on);
    }

pub returns-clause-size : goal.returns-clause-size
returns-clause-size g c =
    let i = c.loop-block.invariant in
    let block = c.loop-block.block in
    let behind : c.min-end.result ≤ block.from + c.len.result = search (rules, c.loop-block-test.false) in
    let long : vec_len block.bytes ≡ length block.bytes.items = search rules in
    let full : block.from + length block.bytes.items ≡ c.min-end.result = omega (arith, behind, c.len.ensures, long, i.within) in
    record {
      few = omega (arith, full, i.place, c.min-end.ensures);
      full = λ e.
          let low : c.min-end.result ≤ certificate_text_limit = grind (arith, nat_tests, e) in
          omega (arith, low, full, i.place, c.min-end.ensures);
    }
