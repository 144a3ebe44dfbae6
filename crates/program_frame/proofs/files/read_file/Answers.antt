use Rattle.std.proofs.Common.{ℕ, List, length, refl, sym, ap, ◌∙◌, subst, arith}
use Rattle.edge_io.specs.State.{ShelfState}
use Rattle.edge_io.specs.Shelf.{Reads}
use Rattle.edge_io.specs.declared.shelf.Taken.TheVariants.{Got}
use Rattle.program_frame.specs.Read.{IsReadSoFar}
use Rattle.program_frame.proofs.Streaming.{front_begun, read_into}
use Rattle.program_frame.proofs.files.read_file.Goals as goal

pub loop-file-init : goal.loop-file-init
loop-file-init g c =
    let told = (g.S.Shelf.state c.args.shelf.now).holds in
    let none = c.new-bytes.ensures.items in
    record {
      front = subst (IsReadSoFar told c.args.name.now) (sym none) (front_begun told c.args.name.now);
      within = (let long = ap (λ (l : List ℕ). length l) none in omega (arith, long));
      same = refl;
    }

pub loop-file-preserved : goal.loop-file-preserved
loop-file-preserved g c =
    let i = c.loop-file.invariant in
    let did = c.in-Got.ensures in
    let name = c.args.name.now in
    let old = c.loop-file.bytes.items in
    let new = c.read.new.into.items in
    let n = c.in-Got.field-0 in
    let told = (g.S.Shelf.state c.args.shelf.now).holds in
    let read = subst (λ (s : ShelfState). Reads s.holds name c.len-at.result old new (Got n)) i.same did.bytes in
    record {
      front = read_into told name old new c.len-at.result n (let at = c.len-at.ensures in let whole = c.loop-file.bytes.ok.0 in omega arith) i.front read;
      within = (let more = did.grows.longer in let few = did.grows.within in let most = c.min-most.ensures in let at = c.len-at.ensures in let whole = c.loop-file.bytes.ok.0 in let low = c.loop-file-test.true in omega arith);
      same = did.state ∙ i.same;
    }
