use Rattle.std.proofs.Common.{◌≡◌, ◌<◌, ◌+◌, ◌∷◌, ◌++◌, ◌∙◌, ℕ, List, [], length, length-set, set, slice_index_or, sym, subst, ap, arith}
use Rattle.std.proofs.lemmas.Result.{IfOk-weaker}
use Rattle.std.proofs.lemmas.List.{get_or_read, length-replicate}
use Rattle.match_pool.specs.inside.Partitions.{ArePartitionsOf}
use Rattle.match_pool.specs.declared.partitions.Spot.{Spot}
use Rattle.match_pool.proofs.Lists.{default_same}
use Rattle.match_pool.proofs.Spots.{Cutting, cut_all, cut_more, cut_none, one_partition}
use Rattle.match_pool.proofs.partitions.cut.Goals as goal

pub returns-then-count-eq1-clause-partitions : goal.returns-then-count-eq1-clause-partitions
returns-then-count-eq1-clause-partitions c =
    let n = length c.args.traces.now in
    IfOk-weaker c.one_partition.result _ _ (λ partitions is. subst (ArePartitionsOf n) (sym is) (one_partition n)) c.one_partition.ensures

pub loop-rank-init : goal.loop-rank-init
loop-rank-init c =
    let n = length c.args.traces.now in
    record {
      count = ap (λ (l : List (List ℕ)). length l) c.in_ok-partitions.ensures ∙ length-replicate c.args.count [];
      cutting = subst (Cutting n c.in_ok-spots.spots.items 0) (sym c.in_ok-partitions.ensures) (cut_none n c.args.count c.in_ok-spots.spots.items);
    }

pub loop-rank-preserved : goal.loop-rank-preserved
loop-rank-preserved c =
    let at = c.loop-rank in
    let i = at.invariant in
    let n = length c.args.traces.now in
    let spots = c.in_ok-spots.spots.items in
    let partitions = at.partitions.items in
    let s = c.min.result in
    let x = c.index.result.now.number in
    let low : s < length partitions = (let least = c.min.ensures in let count = i.count in let some = c.requires.count in omega (arith, least, count, some)) in
    let inside : at.rank < length spots = (let test = c.loop-rank-test.true in let end = c.len-rank-end.ensures in let whole = c.in_ok-spots.spots.ok.0 in omega (arith, test, end, whole)) in
    let is : (d : Spot) → (slice_index_or spots at.rank d).number ≡ x = λ d. ap (λ (y : Spot). y.number) (default_same spots at.rank d c.index.result.now inside ∙ sym c.index.ensures) in
    let lt : x < n = subst (λ (k : ℕ). k < n) (is c.index.result.now) (c.in_ok-spots.ensures.inside at.rank c.index.result.now inside) in
    let here : c.index_mut.result.now ≡ slice_index_or partitions s [] = get_or_read partitions s c.index_mut.result.now low c.index_mut.ensures.value [] in
    record {
      count = length-set _ _ _ ∙ i.count;
      cutting = subst (λ (l : List ℕ). Cutting n spots (at.rank + 1) (set partitions s l)) (sym (c.in_ok-push.ensures.ok ∙ ap (λ (l : List ℕ). l ++ x ∷ []) here)) (cut_more n at.rank spots partitions s x low lt is i.cutting);
    }

pub returns-clause-partitions : goal.returns-clause-partitions
returns-clause-partitions c =
    let at = c.loop-rank in
    let n = length c.args.traces.now in
    let spots = c.in_ok-spots.spots.items in
    let all : at.rank ≡ length spots = (let test = c.loop-rank-test.false in let most = at.auto.rank-end in let end = c.len-rank-end.ensures in let whole = c.in_ok-spots.spots.ok.0 in omega (arith, test, most, end, whole)) in
    cut_all n spots at.partitions.items c.in_ok-spots.ensures (subst (λ (r : ℕ). Cutting n spots r at.partitions.items) all at.invariant.cutting)

pub index_mut-requires : goal.index_mut-requires
index_mut-requires c =
    let least = c.min.ensures in
    let count = c.loop-rank.invariant.count in
    let some = c.requires.count in
    let whole = c.loop-rank.partitions.ok.0 in
    omega (arith, least, count, some, whole)

pub index-requires : goal.index-requires
index-requires c = (let test = c.loop-rank-test.true in let end = c.len-rank-end.ensures in omega (arith, test, end))

pub returns-clause-single : goal.returns-clause-single
returns-clause-single c one = absurd (c.if-count-eq1.false one)

pub returns-then-count-eq1-clause-single : goal.returns-then-count-eq1-clause-single
returns-then-count-eq1-clause-single c one = c.one_partition.ensures

pub returns-clause-count : goal.returns-clause-count
returns-clause-count c = c.loop-rank.invariant.count

pub returns-then-count-eq1-clause-count : goal.returns-then-count-eq1-clause-count
returns-then-count-eq1-clause-count c = IfOk-weaker c.one_partition.result _ _ (λ partitions is. ap (λ (l : List (List ℕ)). length l) is ∙ sym c.if-count-eq1.true) c.one_partition.ensures
