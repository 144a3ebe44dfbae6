use Rattle.std.proofs.Common.{◌≡◌, ◌<◌, ◌≤◌, ◌∙◌, List, get_or, length, arith, inl, inr, subst, sym}
use Rattle.std.specs.List.{remove}
use Rattle.std.proofs.lemmas.Bool.{true≢false}
use Rattle.std.proofs.lemmas.List.{get_or_default}
use Rattle.std.proofs.lemmas.Result.{on_ok_weaker}
use Rattle.candidate_search.specs.declared.best.NearEdge.{NearEdge}
use Rattle.candidate_search.specs.inside.Best.{AreApart, IsBehind, IsNoLater, IsPlaceOf, IsWanted}
use Rattle.candidate_search.proofs.BestLists.{is_left, is_whole, takes_put, takes_told}
use Rattle.candidate_search.proofs.LastFound.{later_other, others_whole}
use Rattle.candidate_search.proofs.Pairs.{wanted_unless}
use Rattle.candidate_search.proofs.best.take_near.Goals as goal

pub is_behind-requires-clause-few : goal.is_behind-requires-clause-few
is_behind-requires-clause-few c = subst (λ (l : List NearEdge). length l ≤ c.args.search.k) (sym c.as_slice.ensures.value) c.requires.few

pub is_behind-requires-clause-apart : goal.is_behind-requires-clause-apart
is_behind-requires-clause-apart c = subst AreApart (sym c.as_slice.ensures.value) c.requires.apart

pub returns-then-is_behind : goal.returns-then-is_behind
returns-then-is_behind c = record {
  few = c.requires.few;
  apart = c.requires.apart;
  only = λ x member. inl member;
  keeps = λ d2 e i before. before;
  taken = inr (subst (λ l. IsBehind c.args.search.k l c.args.near.d2 c.args.near.edge.0) c.as_slice.ensures.value (c.is_behind.ensures.0 c.if-is_behind.true));
}

pub put-requires-clause-others : goal.put-requires-clause-others
put-requires-clause-others c =
    let found = c.args.found.now.items in
    let near = c.args.near in
    let at = subst (λ l. IsPlaceOf l near.edge.0 c.place_of_edge-place.result) c.as_slice-2.ensures.value c.place_of_edge-place.ensures in
    others_whole found near.edge.0 c.place_of_edge-place.result at (omega (arith, c.if-place-len.true, c.len.ensures))

pub returns-then-place-len : goal.returns-then-place-len
returns-then-place-len c =
    let found = c.args.found.now.items in
    let near = c.args.near in
    let k = c.args.search.k in
    let place = c.place_of_edge-place.result in
    let same = sym c.as_slice.ensures.value in
    let wanted : IsWanted k found near = wanted_unless k found near
    (λ b. true≢false (sym (c.is_behind.ensures.1 (subst (λ l. IsBehind k l near.d2 near.edge.0) same b)) ∙ c.if-is_behind.false)) in
    let at = subst (λ l. IsPlaceOf l near.edge.0 place) c.as_slice-2.ensures.value c.place_of_edge-place.ensures in
    let others = others_whole found near.edge.0 place at (omega (arith, c.if-place-len.true, c.len.ensures)) in
    on_ok_weaker c.put.result
    (λ puts. takes_put k found found c.put.new.found.items near (is_whole k found near c.requires.few c.requires.apart others) wanted puts)
    c.put.ensures

pub returns-then-is_no_later : goal.returns-then-is_no_later
returns-then-is_no_later c =
    let found = c.args.found.now.items in
    let near = c.args.near in
    let place = c.place_of_edge-place.result in
    let at = subst (λ l. IsPlaceOf l near.edge.0 place) c.as_slice-2.ensures.value c.place_of_edge-place.ensures in
    let lt : place < length found = omega (arith, at.within, c.if-place-len.false, c.len.ensures) in
    let x : NearEdge = c.index.result.now in
    let is : get_or found place x ≡ x = sym c.index.ensures in
    takes_told c.args.search.k found near x c.requires.few c.requires.apart (place, lt, is) (subst (λ (v : NearEdge). v.edge.0 ≡ near.edge.0) is (at.here x lt)) (c.is_no_later.ensures.0 c.if-is_no_later.true)

pub returns : goal.returns
returns c =
    let found = c.args.found.now.items in
    let near = c.args.near in
    let k = c.args.search.k in
    let place = c.place_of_edge-place.result in
    let same = sym c.as_slice.ensures.value in
    let wanted : IsWanted k found near = wanted_unless k found near
    (λ b. true≢false (sym (c.is_behind.ensures.1 (subst (λ l. IsBehind k l near.d2 near.edge.0) same b)) ∙ c.if-is_behind.false)) in
    let at = subst (λ l. IsPlaceOf l near.edge.0 place) c.as_slice-2.ensures.value c.place_of_edge-place.ensures in
    let lt : place < length found = omega (arith, at.within, c.if-place-len.false, c.len.ensures) in
    let first : NearEdge = c.index.result.now in
    let here : get_or found place first ≡ first = sym c.index.ensures in
    let later : IsNoLater near first.d2 first.segment = later_other first near (λ b. true≢false (sym (c.is_no_later.ensures.1 b) ∙ c.if-is_no_later.false)) in
    let left = is_left k found near place c.requires.few c.requires.apart at lt (λ x is. subst (λ (v : NearEdge). IsNoLater near v.d2 v.segment) (sym here ∙ get_or_default found place first x lt ∙ is) later) in
    on_ok_weaker c.move_up.result
    (λ puts. takes_put k found (remove found place) c.move_up.new.found.items near left wanted puts)
    c.move_up.ensures
