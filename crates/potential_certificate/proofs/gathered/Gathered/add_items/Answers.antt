use Rattle.std.proofs.Common.{◌≡◌, arith, subst, sym}
use Rattle.std.specs.List.{AllByRecursion}
use Rattle.std.specs.Vec.Iter.{into_iter_items}
use Rattle.potential_certificate.specs.inside.Gathering.{IsPartRead}
use Rattle.potential_certificate.proofs.Gatherings.{Adding, adding_begins, adding_ends, adding_on}
use Rattle.potential_certificate.proofs.gathered.Gathered.add_items.Goals as goal

pub loop-read-init : goal.loop-read-init
loop-read-init g c =
    let reads = c.in_ok-reads.reads.items in
    let all : into_iter_items c.into_iter-read-iterator.result ≡ reads = c.into_iter-read-iterator.ensures.into_iter_gives.0 in
    subst (Adding c.args.self.now c.args.items.now c.args.self.now) (sym all) (adding_begins c.args.self.now c.args.items.now reads c.requires c.in_ok-reads.ensures)

pub add-requires : goal.add-requires
add-requires g c = record {
  so_far = c.loop-read.invariant.grown.are;
  read = (subst (AllByRecursion IsPartRead) c.in-Some.ensures.steps.0 c.loop-read.invariant.each).0;
}

pub loop-read-preserved : goal.loop-read-preserved
loop-read-preserved g c =
    let now = c.loop-read.self in
    adding_on c.args.self.now c.args.items.now now c.add.new.self c.in-Some.read (into_iter_items c.next.new.self)
    (subst (Adding c.args.self.now c.args.items.now now) c.in-Some.ensures.steps.0 c.loop-read.invariant) c.in_ok-add.ensures

pub returns : goal.returns
returns g c =
    let reads = c.loop-read.read-iterator.rest in
    let whole = reads.ok.0 in
    let none = c.in-None.ensures.steps.0 in
    adding_ends c.args.self.now c.args.items.now c.loop-read.self reads.items (omega (arith, whole, none)) c.loop-read.invariant
