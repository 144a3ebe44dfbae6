use Rattle.std.proofs.Common.{◌≡◌, ◌<◌, ◌∙◌, ℕ, List, length, sym, subst, refl, ap}
use Rattle.std.proofs.lemmas.List.{with_items_is}
use Rattle.bounded_table.specs.declared.table_row.Entry.{Entry}
use Rattle.row_search.specs.inside.Merging.{merged}
use Rattle.row_search.specs.inside.Marked.{lists_in}
use Rattle.bounded_table.proofs.Entries.{no_entry}
use Rattle.row_search.proofs.MarkedNodes.{as_many}
use Rattle.row_search.proofs.RowParts.{also_row, merged_row, part_before, part_after, parts_inside}
use Rattle.row_search.proofs.dijkstra.Workspace.merge.Goals as goal

pub merge_entries-requires-clause-entries : goal.merge_entries-requires-clause-entries
merge_entries-requires-clause-entries c =
    let row = c.entries-entries.result.now in
    let parts = parts_inside (length c.as_mut_slice-words.result.now) c.middle-middle.result c.args.row.now row c.invariants.ensures c.middle-middle.ensures c.entries-entries.ensures (rw c.as_mut_slice-words.ensures.value c.requires.inside) in
    part_before (length c.as_mut_slice-words.result.now) c.args.row.now.origin c.middle-middle.result row parts

pub merge_entries-requires-2-clause-entries : goal.merge_entries-requires-2-clause-entries
merge_entries-requires-2-clause-entries c =
    let row = c.entries-entries.result.now in
    let parts = parts_inside (length c.as_mut_slice-words.result.now) c.middle-middle.result c.args.row.now row c.invariants.ensures c.middle-middle.ensures c.entries-entries.ensures (rw c.as_mut_slice-words.ensures.value c.requires.inside) in
    let same = c.merge_entry.ensures.count ∙ c.merge_entries.auto.words in
    rw same (part_after (length c.as_mut_slice-words.result.now) c.args.row.now.origin c.middle-middle.result row parts)

pub returns : goal.returns
returns c =
    let w = c.args.self.now in
    let d : ℕ = c.args.distance in
    let m : ℕ = c.middle-middle.result in
    let row : List Entry = c.entries-entries.result.now in
    let shown : c.args.row.now.entries ≡ row = sym c.entries-entries.ensures in
    let inside : m < length row = subst (λ (k : List Entry). m < length k) (sym c.entries-entries.ensures) c.middle-middle.ensures.0 in
    let before = c.merge_entries.ensures in
    let after = c.merge_entries-2.ensures in
    let all = merged_row w.bound d m row no_entry c.as_mut_slice-words.result.now c.merge_entries.new.words c.merge_entry.new.words c.merge_entries-2.new.words inside (before.words w.bound) (c.merge_entry.ensures.words w.bound) (after.words w.bound) in
    let also = also_row m row no_entry _ _ _ _ inside before.marks c.mark_after.ensures.marks after.marks in
    let words_kept = c.merge_entries-2.auto.words ∙ (c.merge_entry.ensures.count ∙ c.merge_entries.auto.words) in
    let octets_kept = c.merge_entries-2.auto.octets ∙ (c.mark_after.auto.octets ∙ c.merge_entries.auto.octets) in
    let regions_kept = c.merge_entries-2.auto.regions ∙ (c.mark_after.auto.regions ∙ c.merge_entries.auto.regions) in
    let areas_kept = c.merge_entries-2.auto.areas ∙ (c.mark_after.auto.areas ∙ c.merge_entries.auto.areas) in
    let words = with_items_is w.words c.merge_entries-2.new.words (words_kept ∙ c.as_mut_slice-words.ensures.len) in
    let octets = with_items_is w.marks.octets c.merge_entries-2.new.octets (octets_kept ∙ c.as_mut_slice-octets.ensures.len) in
    let regions = with_items_is w.marks.regions c.merge_entries-2.new.regions (regions_kept ∙ c.as_mut_slice-regions.ensures.len) in
    let areas = with_items_is w.marks.areas c.merge_entries-2.new.areas (areas_kept ∙ c.as_mut_slice-areas.ensures.len) in
    record {
      words = words ∙ (all ∙ (ap (merged w.bound d row) c.as_mut_slice-words.ensures.value ∙ ap (λ (k : List Entry). merged w.bound d k w.words.items) (sym shown)));
      marks = rw (shown, octets, regions, areas) (rw (c.as_mut_slice-octets.ensures.value, c.as_mut_slice-regions.ensures.value, c.as_mut_slice-areas.ensures.value) at also);
      sized = record {
        bound = refl;
        words_count = ap length words ∙ (words_kept ∙ ap length c.as_mut_slice-words.ensures.value);
        marks = as_many (lists_in w.marks) _ (ap length octets ∙ (octets_kept ∙ ap length c.as_mut_slice-octets.ensures.value)) (ap length regions ∙ (regions_kept ∙ ap length c.as_mut_slice-regions.ensures.value)) (ap length areas ∙ (areas_kept ∙ ap length c.as_mut_slice-areas.ensures.value));
      };
      queue = refl;
    }
