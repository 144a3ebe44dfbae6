use Rattle.std.proofs.Common.{◌≡◌, ◌∙◌, ap, sym, subst, take}
use Rattle.std.specs.List.{All, insert}
use Rattle.candidate_search.specs.declared.best.NearEdge.{NearEdge}
use Rattle.candidate_search.specs.inside.Best.{AreApart, IsPlaceFor}
use Rattle.candidate_search.proofs.Pairs.{apart_placed, others_placed}
use Rattle.candidate_search.proofs.best.put_pair.Goals as goal

pub insert-requires-clause-others : goal.insert-requires-clause-others
insert-requires-clause-others c = λ i d lt. (c.requires.pair.neither i d lt).0

pub insert-requires-2-clause-apart : goal.insert-requires-2-clause-apart
insert-requires-2-clause-apart c =
    let at = c.in_ok-insert.ensures in
    subst AreApart (sym at.list) (apart_placed c.args.found.now.items c.args.own at.place c.requires.apart (λ i d lt. (c.requires.pair.neither i d lt).0) at.place_is)

pub insert-requires-2-clause-others : goal.insert-requires-2-clause-others
insert-requires-2-clause-others c =
    let at = c.in_ok-insert.ensures in
    let own = c.args.own in
    let twin = c.args.twin in
    subst (All (λ (d : NearEdge). d.edge.0 ≡ twin.edge.0 → ⊥)) (sym at.list) (others_placed c.args.k c.args.found.now.items own twin at.place c.requires.pair)

pub returns : goal.returns
returns c =
    let own = c.args.own in
    let twin = c.args.twin in
    let one = c.in_ok-insert.ensures in
    let two = c.in_ok-insert-2.ensures in
    record {
      place = one.place;
      next = two.place;
      place_is = one.place_is;
      next_is = subst (λ l. IsPlaceFor l twin two.place) one.list two.place_is;
      list = c.truncate.ensures.items ∙ ap (take c.args.k) (two.list ∙ ap (λ l. insert l two.place twin) one.list);
    }
