use Rattle.std.proofs.Common.{subst, ◌≤◌, List, length, sym}
use Rattle.std.proofs.lemmas.Result.{on_ok_weaker}
use Rattle.candidate_search.specs.inside.Best.{IsNewPair, AreApart}
use Rattle.candidate_search.proofs.Pairs.{takes_put_pair, takes_two}
use Rattle.candidate_search.specs.declared.best.NearEdge.{NearEdge}
use Rattle.candidate_search.proofs.best.take_pair.Goals as goal

pub returns-then-is_new_pair : goal.returns-then-is_new_pair
returns-then-is_new_pair c =
    let k = c.args.search.k in
    let found = c.args.found.now.items in
    let own = c.args.own in
    let twin = c.args.twin in
    let pair = subst (λ l. IsNewPair k l own twin) c.as_slice.ensures.value (c.is_new_pair.ensures.0 c.if-is_new_pair.true) in
    on_ok_weaker c.put_pair.result
    (λ puts. takes_put_pair k found c.put_pair.new.found.items own twin c.requires.apart pair puts)
    c.put_pair.ensures

pub returns : goal.returns
returns c =
    on_ok_weaker c.take_near-2.result
    (λ takes. takes_two c.args.search.k c.args.found.now.items c.take_near.new.found.items c.take_near-2.new.found.items c.args.own c.args.twin c.in_ok-take_near.ensures takes)
    c.take_near-2.ensures

pub is_new_pair-requires-clause-few : goal.is_new_pair-requires-clause-few
is_new_pair-requires-clause-few c = subst (λ (l : List NearEdge). length l ≤ c.args.search.k) (sym c.as_slice.ensures.value) c.requires.few

pub is_new_pair-requires-clause-apart : goal.is_new_pair-requires-clause-apart
is_new_pair-requires-clause-apart c = subst AreApart (sym c.as_slice.ensures.value) c.requires.apart

pub put_pair-requires-clause-apart : goal.put_pair-requires-clause-apart
put_pair-requires-clause-apart c = c.requires.apart

pub put_pair-requires-clause-pair : goal.put_pair-requires-clause-pair
put_pair-requires-clause-pair c = subst (λ l. IsNewPair c.args.search.k l c.args.own c.args.twin) c.as_slice.ensures.value (c.is_new_pair.ensures.0 c.if-is_new_pair.true)

pub take_near-requires-clause-few : goal.take_near-requires-clause-few
take_near-requires-clause-few c = c.requires.few

pub take_near-requires-clause-apart : goal.take_near-requires-clause-apart
take_near-requires-clause-apart c = c.requires.apart

pub take_near-requires-2-clause-few : goal.take_near-requires-2-clause-few
take_near-requires-2-clause-few c = c.in_ok-take_near.ensures.few

pub take_near-requires-2-clause-apart : goal.take_near-requires-2-clause-apart
take_near-requires-2-clause-apart c = c.in_ok-take_near.ensures.apart
