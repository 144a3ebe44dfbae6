use Rattle.std.proofs.Common.{length, refl, ap, ◌∙◌}
use Rattle.std.proofs.lemmas.List.{with_items_is}
use Rattle.std.proofs.lemmas.Result.{on_ok_weaker}
use Rattle.row_search.specs.inside.Marked.{lists_in}
use Rattle.row_search.proofs.MarkedNodes.{as_many, octets_taken}
use Rattle.row_search.proofs.dijkstra.Workspace.take_octets.Goals as goal

pub returns-clause-takes : goal.returns-clause-takes
returns-clause-takes c =
    let w = c.args.self.now in
    let words = with_items_is w.words c.take_region.new.words (c.take_region.auto.words ∙ c.as_mut_slice.ensures.len) in
    let octets = with_items_is w.marks.octets c.take_region.new.octets (c.take_region.auto.octets ∙ c.as_mut_slice-octets.ensures.len) in
    let takes = rw (c.as_mut_slice.ensures.value, c.as_mut_slice-octets.ensures.value) at c.take_region.ensures in
    on_ok_weaker c.take_region.result (λ t. octets_taken c.args.region w _ c.take_region.new.words c.take_region.new.octets refl refl words octets t refl refl) takes

pub returns-clause-sized : goal.returns-clause-sized
returns-clause-sized c =
    let w = c.args.self.now in
    let words = with_items_is w.words c.take_region.new.words (c.take_region.auto.words ∙ c.as_mut_slice.ensures.len) in
    let octets = with_items_is w.marks.octets c.take_region.new.octets (c.take_region.auto.octets ∙ c.as_mut_slice-octets.ensures.len) in
    record {
      bound = refl;
      words_count = ap length words ∙ (c.take_region.auto.words ∙ ap length c.as_mut_slice.ensures.value);
      marks = as_many (lists_in w.marks) _ (ap length octets ∙ (c.take_region.auto.octets ∙ ap length c.as_mut_slice-octets.ensures.value)) refl refl;
    }
