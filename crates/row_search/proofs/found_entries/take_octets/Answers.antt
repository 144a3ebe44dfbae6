use Rattle.std.proofs.Common.{◌≡◌, ◌+◌, ◌*◌, ℕ, take, refl, subst, arith, w64}
use Rattle.std.specs.Int.{trailing_zeros}
use Rattle.row_search.specs.inside.Marked.{TakesMarked, listing}
use Rattle.row_search.proofs.MarkBits.{bits_after, lowest_inside, none_before, none_left}
use Rattle.row_search.proofs.MarkedNodes.{no_octet, octet_taken, octets_skipped}
use Rattle.row_search.proofs.found_entries.take_octets.Goals as goal

pub loop-marked-init : goal.loop-marked-init
loop-marked-init c = record {
  inside = omega arith;
  room = omega arith;
  bits = c.marked_octets-marked.ensures;
  takes = no_octet c.args.region.bound (c.args.region.number * 512) (c.args.region.number * 64 * 8) _ (omega arith);
}

pub bounds-octets-octet : goal.bounds-octets-octet
bounds-octets-octet c =
    let inv = c.loop-marked.invariant in
    let lt = lowest_inside c.args.octets.now c.loop-marked.octet ((c.args.region.number + 1) * 64) c.loop-marked.marked inv.bits c.loop-marked-test.true c.loop-marked.auto.marked-fits.fits in
    omega (arith, lt, c.requires.octets, c.loop-marked.auto.octets)

pub take_octet_at-end-requires-clause-room : goal.take_octet_at-end-requires-clause-room
take_octet_at-end-requires-clause-room c =
    let inv = c.loop-marked.invariant in
    let lt = lowest_inside c.args.octets.now c.loop-marked.octet ((c.args.region.number + 1) * 64) c.loop-marked.marked inv.bits c.loop-marked-test.true c.loop-marked.auto.marked-fits.fits in
    omega (arith, lt, inv.room, c.requires.room, c.loop-marked.auto.places)

pub loop-marked-smaller : goal.loop-marked-smaller
loop-marked-smaller c =
    let inv = c.loop-marked.invariant in
    let lt = lowest_inside c.args.octets.now c.loop-marked.octet ((c.args.region.number + 1) * 64) c.loop-marked.marked inv.bits c.loop-marked-test.true c.loop-marked.auto.marked-fits.fits in
    omega (arith, lt)

pub loop-marked-preserved : goal.loop-marked-preserved
loop-marked-preserved c =
    let inv = c.loop-marked.invariant in
    let octets = c.args.octets.now in
    let end : ℕ = (c.args.region.number + 1) * 64 in
    let octet : ℕ = c.loop-marked.octet in
    let marked : ℕ = c.loop-marked.marked in
    let zeros : ℕ = trailing_zeros w64 marked in
    let lt = lowest_inside octets octet end marked inv.bits c.loop-marked-test.true c.loop-marked.auto.marked-fits.fits in
    let none = none_before octets octet end marked inv.bits c.loop-marked-test.true c.loop-marked.auto.marked-fits.fits in
    record {
      inside = omega (arith, lt);
      room = omega (arith, inv.room, c.take_octet_at-end.ensures.room);
      bits = bits_after octets octet end marked zeros inv.bits;
      takes = octet_taken c.args.region.bound (c.args.region.number * 512) (octet + zeros) _ _ _ refl c.take_octet_at-end.ensures.takes (octets_skipped c.args.region.bound (c.args.region.number * 512) octet (octet + zeros) _ _ (omega arith) none inv.takes);
    }

pub returns-clause-takes : goal.returns-clause-takes
returns-clause-takes c =
    let inv = c.loop-marked.invariant in
    let region : ℕ = c.args.region.number in
    let end : ℕ = (region + 1) * 64 in
    let to : end * 8 ≡ (region + 1) * 512 = omega arith in
    let none = none_left c.args.octets.now c.loop-marked.octet end c.loop-marked.marked inv.bits c.loop-marked-test.false inv.inside in
    subst (λ (k : ℕ). TakesMarked c.args.region.bound (region * 512) k (listing c.args.words.now c.args.octets.now (take c.args.count c.args.places.now)) (listing c.loop-marked.words c.loop-marked.octets (take c.loop-marked.end c.loop-marked.places))) to
    (octets_skipped c.args.region.bound (region * 512) c.loop-marked.octet end _ _ inv.inside none inv.takes)
