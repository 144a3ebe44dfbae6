use Rattle.std.proofs.Common.{◌≡◌, ◌∷◌, [], ◌++◌, ℕ, ◌+◌, ◌<◌, List, Any, Contains, OnOk, Result, Ok, Err, Some, length, map, rules, refl, sym, ap, subst, ◌∙◌, arith}
use Rattle.std.proofs.lemmas.Result.{IfOk-weaker}
use Rattle.std.specs.List.{AllZip, range_with_len}
use Rattle.std.specs.Prelude.{slice_get}
use Rattle.std.specs.Vec.Iter.{into_iter_items}
use Rattle.std.proofs.lemmas.List.{length-replicate}
use Rattle.match_pool.specs.Drawing.{job_of}
use Rattle.match_pool.specs.inside.Gathering.{AllDrawn, AreTurnsOver}
use Rattle.match_pool.specs.Working.{matched_at}
use Rattle.match_pool.specs.declared.turn.Partition.{Partition}
use Rattle.match_pool.proofs.Learning.{matches_are}
use Rattle.match_pool.proofs.Lists.{zip_long, zip_push}
use Rattle.match_pool.proofs.Slots.{all_from, more_in, no_match, none_in, some_in_each}
use Rattle.match_pool.proofs.Yields.{ends, goes_on}
use Rattle.match_pool.proofs.gathering.gather.Goals as goal

on_each : {A E : Type 0} (P : Type 0) (r : Result A E) → P → OnOk r P
on_each P (Ok x) h = h
on_each P (Err e) h = tt

pub loop-partition-init : goal.loop-partition-init
loop-partition-init c =
    let j = job_of c.args.batch.now in
    record {
      whole = refl;
      left = search rules;
      by_partition = subst (λ (l : List Partition). AllZip (AreTurnsOver j) l (into_iter_items c.into_iter-rest.result)) (sym c.into_iter-partition-iterator.ensures.into_iter_gives.0)
          (subst (AllZip (AreTurnsOver j) c.args.partitions.items) (sym c.into_iter-rest.ensures.rest) c.requires.by_partition);
      count = ap (λ l. length l) c.in_ok-slots.ensures ∙ length-replicate (length c.args.batch.now.traces.now) no_match;
      past = ([], refl, tt);
      matched = none_in j c.in_ok-slots.slots.items;
    }

pub gather_partition-requires-clause-turns : goal.gather_partition-requires-clause-turns
gather_partition-requires-clause-turns c =
    let at = c.loop-partition in
    let i = at.invariant in
    let j = job_of c.args.batch.now in
    let partition = c.in-Some.partition in
    let left = into_iter_items c.next.new.self in
    let both = subst (AllZip (AreTurnsOver j) (partition ∷ left)) c.in-Some-next.ensures.items (subst (λ (l : List Partition). AllZip (AreTurnsOver j) l (into_iter_items at.rest)) c.in-Some.ensures.steps.0 i.by_partition) in
    both.0

pub loop-partition-preserved : goal.loop-partition-preserved
loop-partition-preserved c =
    let at = c.loop-partition in
    let i = at.invariant in
    let j = job_of c.args.batch.now in
    let partition = c.in-Some.partition in
    let steps = c.in-Some.ensures.steps in
    let left = into_iter_items c.next.new.self in
    let turns = c.in-Some-next.turns in
    let rest = into_iter_items c.next-in-loop-partition.new.self in
    let popped : into_iter_items at.rest ≡ turns ∷ rest = c.in-Some-next.ensures.items in
    let both = subst (AllZip (AreTurnsOver j) (partition ∷ left)) popped (subst (λ (l : List Partition). AllZip (AreTurnsOver j) l (into_iter_items at.rest)) steps.0 i.by_partition) in
    let did = c.in_ok-gather_partition.ensures in
    record {
      whole = goes_on at.yielded _ _ _ partition i.whole steps.0;
      left = (let was = i.left in let gone = steps.1 in let short = ap (λ (l : List Partition). length l) steps.0 in omega arith);
      by_partition = both.1;
      count = did.count ∙ i.count;
      past = (i.past.0 ++ turns ∷ [], goes_on i.past.0 (into_iter_items at.rest) rest _ turns i.past.1 popped, zip_push AllDrawn at.yielded i.past.0 partition turns i.past.2 did.drawn);
      matched = more_in j at.yielded partition at.slots.items c.gather_partition.new.slots.items i.count i.matched did.filled;
    }

pub filled-requires : goal.filled-requires
filled-requires c =
    let at = c.loop-partition in
    let i = at.invariant in
    let j = job_of c.args.batch.now in
    let all = ends at.yielded _ _ i.whole (sym i.left ∙ c.in-None.ensures.steps.0) ∙ c.into_iter-partition-iterator.ensures.into_iter_gives.0 in
    some_in_each (matched_at j) at.slots.items
    (λ k low. let lt : k < length c.args.batch.now.traces.now = (let count = i.count in omega (arith, low, count)) in i.matched k lt (subst (Any (λ (s : Partition). Contains s.numbers k)) (sym all) (c.requires.whole k lt)))

pub returns-clause-matched : goal.returns-clause-matched
returns-clause-matched c =
    let at = c.loop-partition in
    let i = at.invariant in
    let j = job_of c.args.batch.now in
    let all = ends at.yielded _ _ i.whole (sym i.left ∙ c.in-None.ensures.steps.0) ∙ c.into_iter-partition-iterator.ensures.into_iter_gives.0 in
    let each : (k : ℕ) → k < length at.slots.items → slice_get at.slots.items k ≡ Some (Some (matched_at j k)) =
    (λ k low. let lt : k < length c.args.batch.now.traces.now = (let count = i.count in omega (arith, low, count)) in i.matched k lt (subst (Any (λ (s : Partition). Contains s.numbers k)) (sym all) (c.requires.whole k lt))) in
    IfOk-weaker c.filled.result _ _ (λ xs e.
    all_from (matched_at j) 0 at.slots.items xs e (λ k low. let zero : 0 + k ≡ k = omega arith in rw zero (each k low))
    ∙ ap (λ (n : ℕ). map (matched_at j) (range_with_len 0 n)) i.count
    ∙ matches_are j)
    c.filled.ensures

pub returns-clause-drawn : goal.returns-clause-drawn
returns-clause-drawn c =
    let at = c.loop-partition in
    let i = at.invariant in
    let none = sym i.left ∙ c.in-None.ensures.steps.0 in
    let partitions = ends at.yielded _ _ i.whole none ∙ c.into_iter-partition-iterator.ensures.into_iter_gives.0 in
    let long = zip_long (AreTurnsOver (job_of c.args.batch.now)) (into_iter_items at.partition-iterator) (into_iter_items at.rest) i.by_partition in
    let by_partition = ends i.past.0 (into_iter_items at.rest) _ i.past.1 (long ∙ none) ∙ c.into_iter-rest.ensures.rest in
    on_each _ c.filled.result (subst (λ (l : List Partition). AllZip AllDrawn l c.args.by_partition.items) partitions (subst (AllZip AllDrawn at.yielded) by_partition i.past.2))

pub loop-partition-smaller : goal.loop-partition-smaller
loop-partition-smaller c = (let gone = c.in-Some.ensures.steps.1 in omega arith)

pub gather_partition-requires-clause-slots : goal.gather_partition-requires-clause-slots
gather_partition-requires-clause-slots c = c.loop-partition.invariant.count
