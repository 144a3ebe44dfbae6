use Rattle.std.proofs.Common.{◌≡◌, [], List, All, ap, map, vec_len, length, sym, subst, ◌∙◌}
use Rattle.std.proofs.lemmas.List.{length-replicate, with_items_is}
use Rattle.road_network.specs.Near.{candidates}
use Rattle.candidate_search.specs.declared.boxes.EdgeBox.{EdgeBox}
use Rattle.candidate_search.specs.inside.Boxes.{AreBoxesFor}
use Rattle.candidate_search.specs.inside.Placed.{AreWritten, IsAsked, IsPlaced}
use Rattle.candidate_search.proofs.Shared.{all_enough}
use Rattle.candidate_search.proofs.Written.{Lists, all_asked, all_written}
use Rattle.candidate_search.proofs.edge_scan.EdgeScan.candidates.Goals as goal

pub list_group-requires-clause-group : goal.list_group-requires-clause-group
list_group-requires-clause-group c =
    let n = length c.deref_mut.result.now in
    subst (All (IsAsked n)) (sym c.as_slice-2.ensures.value)
    (all_asked c.args.points.now c.in_ok-group.group.items n c.requires.points c.in_ok-group.ensures (ap length (c.deref_mut.ensures.value ∙ c.in_ok-lists.ensures) ∙ length-replicate (length c.args.points.now) []))

pub list_group-requires-clause-boxes : goal.list_group-requires-clause-boxes
list_group-requires-clause-boxes c =
    subst (λ (l : List EdgeBox). AreBoxesFor c.self.inside.net.now c.args.p.now.radius l c.as_slice-2.result.now) (sym c.as_slice.ensures.value)
    (all_enough c.self.inside.net.now c.args.p.now.radius c.self.inside.boxes.items c.as_slice-2.result.now c.self.invariant.are c.self.invariant.all)

pub returns : goal.returns
returns c =
    let own = candidates c.self.inside.net.now c.args.p.now.k c.args.p.now.radius in
    let points = c.args.points.now in
    let group = c.in_ok-group.group.items in
    let old : Lists = c.deref_mut.result.now in
    let new : Lists = c.list_group.new.lists in
    let slice = c.as_slice-2.ensures.value in
    let written : AreWritten own points old new group = subst (AreWritten own points old new) slice
    (c.in_ok-list_group.ensures points (subst (All (IsPlaced points)) (sym slice) c.in_ok-group.ensures.each))
    in
    let count : length new ≡ length points = c.list_group.auto.lists ∙ ap length (c.deref_mut.ensures.value ∙ c.in_ok-lists.ensures) ∙ length-replicate (length points) [] in
    let places : length new ≡ vec_len c.in_ok-lists.lists = c.list_group.auto.lists ∙ c.deref_mut.ensures.len in
    let done : new ≡ map own points = all_written own points old new group c.in_ok-group.ensures count written in
    c.from_vec.ensures ∙ with_items_is c.in_ok-lists.lists new places
    ∙ subst (λ net. new ≡ map (candidates net c.args.p.now.k c.args.p.now.radius) points) c.self.view_is done
