use Rattle.std.proofs.Common.{◌≡◌, ◌<◌, ◌≤◌, ◌+◌, ◌∷◌, ◌++◌, ◌∙◌, ℕ, List, [], length, length-append, set, slice_index_or, ap, sym, subst, arith}
use Rattle.std.specs.Vec.Iter.{into_iter_items}
use Rattle.std.proofs.lemmas.List.{get_or_read}
use Rattle.match_pool.specs.declared.turn.Turn.{Turn}
use Rattle.match_pool.specs.inside.Tables.{AddsTurns}
use Rattle.match_pool.proofs.Columns.{Adding, adding_all, adding_more}
use Rattle.match_pool.proofs.Yields.{ends, goes_on, next_at}
use Rattle.match_pool.proofs.tables.add_row.Goals as goal

pub index_mut-requires : goal.index_mut-requires
index_mut-requires c =
    let at = c.loop-turn in
    let i = at.invariant in
    let next = next_at at.yielded _ _ _ c.in-Some.turn i.whole c.in-Some.ensures.steps.0 in
    let low = next.0 in
    let many = i.long in
    let same = i.adding.count in
    let place = i.at in
    omega (arith, place, low, many, same)

pub loop-turn-preserved : goal.loop-turn-preserved
loop-turn-preserved c =
    let at = c.loop-turn in
    let i = at.invariant in
    let turn = c.in-Some.turn in
    let steps = c.in-Some.ensures.steps in
    let row = into_iter_items c.into_iter-turn-iterator.result in
    let before = c.args.columns.now.items in
    let columns = at.columns.items in
    let place = at.place in
    let next = next_at at.yielded _ _ row turn i.whole steps.0 in
    let low : place < length before = (let lt = next.0 in let many = i.long in let is = i.at in omega (arith, lt, many, is)) in
    let inside : place < length columns = (let same = i.adding.count in omega (arith, low, same)) in
    let at_place : (d : Turn) → slice_index_or row place d ≡ turn = λ d. ap (λ (k : ℕ). slice_index_or row k d) i.at ∙ next.1 d in
    let here : c.index_mut.result.now ≡ slice_index_or columns place [] = get_or_read columns place c.index_mut.result.now inside c.index_mut.ensures.value [] in
    record {
      whole = goes_on at.yielded _ _ _ turn i.whole steps.0;
      left = (let was = i.left in let gone = steps.1 in let short = ap (λ (l : List Turn). length l) steps.0 in omega arith);
      at = (let is = i.at in let longer = length-append at.yielded (turn ∷ []) in omega (arith, is, longer));
      long = i.long;
      adding = subst (λ (l : List Turn). Adding row before (place + 1) (set columns place l)) (sym (c.in_ok-push.ensures.ok ∙ ap (λ (l : List Turn). l ++ turn ∷ []) here)) (adding_more row before columns place turn low at_place i.adding);
    }

pub returns : goal.returns
returns c =
    let at = c.loop-turn in
    let i = at.invariant in
    let before = c.args.columns.now.items in
    let all = ends at.yielded _ _ i.whole (sym i.left ∙ c.in-None.ensures.steps.0) in
    let gives = c.into_iter-turn-iterator.ensures.into_iter_gives.0 ∙ c.into_vec-turn-items.ensures in
    let wide : length before ≤ at.place = (let is = i.at in let row = c.requires in let long = ap (λ (l : List Turn). length l) (all ∙ gives) in omega (arith, is, row, long)) in
    subst (λ (l : List Turn). AddsTurns l before at.columns.items) gives (adding_all _ before at.columns.items at.place wide i.adding)
