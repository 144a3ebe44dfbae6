use Rattle.std.proofs.lemmas.Result.{err_from_is_err_and, on_ok_weaker}
use Rattle.std.proofs.Common.{IfSome, List, All, ap, arith, length, sym, subst}
use Rattle.road_network.specs.Near.{candidates}
use Rattle.candidate_search.specs.declared.boxes.EdgeBox.{EdgeBox}
use Rattle.candidate_search.specs.inside.Boxes.{AreBoxesFor}
use Rattle.candidate_search.specs.inside.Placed.{AreHalves, AreWritten, IsAsked, IsPlaced}
use Rattle.candidate_search.proofs.Parts.{All-parts, shorter}
use Rattle.candidate_search.proofs.Shared.{for_part}
use Rattle.candidate_search.proofs.Written.{Lists, both_written}
use Rattle.candidate_search.proofs.groups.+list_group.Goals as goal

pub list_group-requires : goal.list_group-requires
list_group-requires t c =
    let net = c.args.among.net.now in
    let radius = c.args.among.p.now.radius in
    let n = length c.args.lists.now in
    let group = c.args.group.now in
    let below = c.in-Some.halves.below.items in
    let above = c.in-Some.halves.above.items in
    let are : AreHalves group c.in-Some.halves = subst (λ o. IfSome o (AreHalves group)) c.in-Some.is c.in_ok-cut_in_two.ensures in
    let slice = sym c.as_slice.ensures.value in
    let fewer = (shorter group below above are.all are.below are.above).0 in (
      omega (arith, fewer, ap length c.as_slice.ensures.value, c.decreases),
      (
        c.requires.options,
        (
          subst (All (IsAsked n)) slice (All-parts (IsAsked n) group below above are.all c.requires.group).0,
          subst (AreBoxesFor net radius c.as_slice-boxes.result.now) slice
              (subst (λ (l : List EdgeBox). AreBoxesFor net radius l below) (sym c.as_slice-boxes.ensures.value) (for_part net radius c.in_ok-near.near.items group below above are.all c.in_ok-near.ensures).0),
        ),
      ),
    )

pub list_group-requires-in-Some : goal.list_group-requires-in-Some
list_group-requires-in-Some t c =
    let net = c.args.among.net.now in
    let radius = c.args.among.p.now.radius in
    let n = length c.args.lists.now in
    let group = c.args.group.now in
    let below = c.in-Some.halves.below.items in
    let above = c.in-Some.halves.above.items in
    let are : AreHalves group c.in-Some.halves = subst (λ o. IfSome o (AreHalves group)) c.in-Some.is c.in_ok-cut_in_two.ensures in
    let slice = sym c.as_slice-in-Some.ensures.value in
    let fewer = (shorter group below above are.all are.below are.above).1 in (
      omega (arith, fewer, ap length c.as_slice-in-Some.ensures.value, c.decreases),
      (
        c.requires.options,
        (
          subst (λ m. All (IsAsked m) c.as_slice-in-Some.result.now) (sym c.list_group.auto.lists)
              (subst (All (IsAsked n)) slice (All-parts (IsAsked n) group below above are.all c.requires.group).1),
          subst (AreBoxesFor net radius c.as_slice-boxes.result.now) slice
              (subst (λ (l : List EdgeBox). AreBoxesFor net radius l above) (sym c.as_slice-boxes.ensures.value) (for_part net radius c.in_ok-near.near.items group below above are.all c.in_ok-near.ensures).1),
        ),
      ),
    )

pub returns : goal.returns
returns t c =
    on_ok_weaker c.list_group-in-Some.result
    (λ written points placed.
    let own = candidates c.args.among.net.now c.args.among.p.now.k c.args.among.p.now.radius in
    let group = c.args.group.now in
    let below = c.in-Some.halves.below.items in
    let above = c.in-Some.halves.above.items in
    let are : AreHalves group c.in-Some.halves = subst (λ o. IfSome o (AreHalves group)) c.in-Some.is c.in_ok-cut_in_two.ensures in
    let parts = All-parts (IsPlaced points) group below above are.all placed in
    let old : Lists = c.args.lists.now in
    let mid : Lists = c.list_group.new.lists in
    let new : Lists = c.list_group-in-Some.new.lists in
    let first : AreWritten own points old mid below = subst (AreWritten own points old mid) c.as_slice.ensures.value
    (c.in_ok-list_group-in-Some.ensures points (subst (All (IsPlaced points)) (sym c.as_slice.ensures.value) parts.0))
    in
    let second : AreWritten own points mid new above = subst (AreWritten own points mid new) c.as_slice-in-Some.ensures.value
    (written points (subst (All (IsPlaced points)) (sym c.as_slice-in-Some.ensures.value) parts.1))
    in
    both_written own points old mid new group below above are.all parts.0 first second)
    c.list_group-in-Some.ensures

pub boxes_for-requires-clause-options : goal.boxes_for-requires-clause-options
boxes_for-requires-clause-options t c = c.requires.options

pub boxes_for-requires-clause-boxes : goal.boxes_for-requires-clause-boxes
boxes_for-requires-clause-boxes t c = c.requires.boxes

pub cut_in_two-requires : goal.cut_in_two-requires
cut_in_two-requires t c = c.extent_of-extent.ensures.corners

pub list_each-requires-clause-options : goal.list_each-requires-clause-options
list_each-requires-clause-options t c = c.requires.options

pub list_each-requires-clause-group : goal.list_each-requires-clause-group
list_each-requires-clause-group t c = c.requires.group

pub returns-in_err-near : goal.returns-in_err-near
returns-in_err-near t c = let p = err_from_is_err_and c.from_residual.result c.from_residual.ensures.1 in rw p.1 tt

pub returns-in_err-cut_in_two : goal.returns-in_err-cut_in_two
returns-in_err-cut_in_two t c = let p = err_from_is_err_and c.from_residual-in_err-cut_in_two.result c.from_residual-in_err-cut_in_two.ensures.1 in rw p.1 tt

pub returns-in_err-list_group-in-Some : goal.returns-in_err-list_group-in-Some
returns-in_err-list_group-in-Some t c = let p = err_from_is_err_and c.from_residual-in_err-list_group-in-Some.result c.from_residual-in_err-list_group-in-Some.ensures.1 in rw p.1 tt
