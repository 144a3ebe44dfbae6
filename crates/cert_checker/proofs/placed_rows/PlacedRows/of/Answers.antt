use Rattle.std.proofs.Common.{◌≡◌, ◌<◌, ◌+◌, length, get_or, length-set, sym, ap, ◌∙◌, subst, arith}
use Rattle.std.proofs.lemmas.List.{get_or_default}
use Rattle.bounded_table.specs.Table.{TableRow}
use Rattle.cert_checker.proofs.RightRows.{no_row}
use Rattle.cert_checker.proofs.RowsAtPlaces.{place_at_most, right_node}
use Rattle.cert_checker.proofs.ToldPlaces.{TellPlaces, all_placed, one_placed}
use Rattle.cert_checker.proofs.placed_rows.PlacedRows.of.Goals as goal

pub overflow_cast-place : goal.overflow_cast-place
overflow_cast-place c =
    let rows = c.args.rows.now in
    let place = c.loop-place.place in
    omega (arith, place_at_most c.args.net.now rows place no_row c.requires c.loop-place-test.true, right_node c.args.net.now rows place no_row c.requires c.loop-place-test.true, c.invariants.ensures.few_nodes)

pub overflow_add-place : goal.overflow_add-place
overflow_add-place c =
    let rows = c.args.rows.now in
    let place = c.loop-place.place in
    omega (arith, place_at_most c.args.net.now rows place no_row c.requires c.loop-place-test.true, right_node c.args.net.now rows place no_row c.requires c.loop-place-test.true, c.invariants.ensures.few_nodes)

pub index_mut-requires : goal.index_mut-requires
index_mut-requires c =
    let rows = c.args.rows.now in
    let place = c.loop-place.place in
    let row = c.index-rows-place.result in
    let node = right_node c.args.net.now rows place row c.requires c.loop-place-test.true in
    let origin : c.origin.result.0 ≡ (get_or rows place row).origin = c.origin.ensures ∙ ap (λ (r : TableRow). r.origin) c.index-rows-place.is in
    omega (arith, node, origin, c.loop-place.places.ok.0)

pub loop-place-preserved : goal.loop-place-preserved
loop-place-preserved c =
    let rows = c.args.rows.now in
    let place = c.loop-place.place in
    let places = c.loop-place.places.items in
    let row = c.index-rows-place.result in
    let node = right_node c.args.net.now rows place row c.requires c.loop-place-test.true in
    let origin : c.origin.result.0 ≡ (get_or rows place row).origin = c.origin.ensures ∙ ap (λ (r : TableRow). r.origin) c.index-rows-place.is in
    let inside : c.origin.result.0 < length places = omega (arith, node, origin, c.loop-place.invariant.count) in
    record {
      count = length-set places c.origin.result.0 (place + 1) ∙ c.loop-place.invariant.count;
      told = one_placed rows places place c.origin.result.0 c.loop-place.invariant.told c.loop-place-test.true
          (λ d. ap (λ (r : TableRow). r.origin) (get_or_default rows place d row c.loop-place-test.true) ∙ sym origin) inside;
    }

pub invariant_of-result : goal.invariant_of-result
invariant_of-result c =
    let rows = c.args.rows.now in
    let places = c.loop-place.places.items in
    let all : c.loop-place.place ≡ length rows = omega (arith, c.loop-place.auto.place-end, c.loop-place-test.false) in
    record { each = λ v. all_placed rows places v (subst (λ k. TellPlaces rows k places) all c.loop-place.invariant.told) }
