use Rattle.std.proofs.Common.{◌≡◌, ℕ, List, ◌++◌, length, take, drop, ap, ◌∙◌}
use Rattle.std.proofs.lemmas.List.{take_at}
use Rattle.std.proofs.lemmas.Result.{err_from_is_err_and}
use Rattle.bounded_table.specs.declared.table_row.Entry.{Entry}
use Rattle.row_search.proofs.FreePlaces.{items_still}
use Rattle.row_search.proofs.found_entries.FoundEntries.take_region.Goals as goal

pub returns-in_err-make_places : goal.returns-in_err-make_places
returns-in_err-make_places c = let p = err_from_is_err_and c.from_residual.result c.from_residual.ensures.1 in rw p.1 tt

pub returns : goal.returns
returns c =
    let count : ℕ = c.self.inside.count in
    let old : List Entry = c.self.inside.places.items in
    let places : List Entry = c.make_places.new.places.items in
    let start : take count c.as_mut_slice-places.result.now ≡ c.args.self.now = ap (take count) c.as_mut_slice-places.ensures.value ∙ items_still count old places c.args.self.now c.self.invariant c.make_places.ensures.same c.self.view_is in
    let new : List Entry = c.take_octets-self-inside.new.places in
    let back : take c.make_places.new.places.len (new ++ drop (length new) places) ≡ new = take_at new (drop (length new) places) c.make_places.new.places.len (c.take_octets-self-inside.auto.places ∙ c.as_mut_slice-places.ensures.len) in
    let takes = rw start at c.take_octets-self-inside.ensures.takes in
    rw back takes
