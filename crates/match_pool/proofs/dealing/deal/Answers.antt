use Rattle.std.proofs.Common.{◌≡◌, ◌≤◌, ◌^◌, ◌++◌, ◌∷◌, [], ◌∙◌, ℕ, List, All, length, map, refl, rules, sym, ap, subst, arith}
use Rattle.std.specs.List.{AllZip}
use Rattle.std.specs.Vec.Iter.{into_iter_items}
use Rattle.std.proofs.lemmas.List.{map-append}
use Rattle.std.proofs.lemmas.List.Elements.{All-head, All-nil, All-push, All-tail}
use Rattle.match_pool.specs.inside.Dealing.{HasClaims, partition_numbers}
use Rattle.match_pool.specs.declared.turn.Partition.{Partition}
use Rattle.match_pool.proofs.Started.{AreFreshAt, all_wide, fresh_at, by_worker_fresh}
use Rattle.match_pool.proofs.Lists.{zip_push}
use Rattle.match_pool.proofs.Yields.{ends, goes_on}
use Rattle.match_pool.proofs.dealing.deal.Goals as goal

pub loop-numbers-preserved : goal.loop-numbers-preserved
loop-numbers-preserved c =
    let at = c.loop-numbers in
    let i = at.invariant in
    let numbers = c.in-Some.numbers in
    let steps = c.in-Some.ensures.steps in
    let rest = into_iter_items c.next.new.self in
    let workers = c.args.workers in
    let claims = c.in_ok-claims.claims in
    let partition : Partition = record { numbers = numbers; claims = claims } in
    let turns = c.in_ok-turns_with.field-0 in
    let few : List ℕ → Type 0 = λ l. length l ≤ 2 ^ 32 in
    let partitions_then : c.push-in-loop-numbers.new.self.items ≡ at.partitions.items ++ partition ∷ [] = c.in_ok-push-2.ensures.items in
    let turns_then : c.push.new.self.items ≡ at.turns.items ++ turns ∷ [] = c.in_ok-push.ensures.items in
    let opened = c.in_ok-claims.ensures in
    record {
      whole = goes_on at.yielded _ _ _ numbers i.whole steps.0;
      left = (let was = i.left in let gone = steps.1 in let short = ap (λ (l : List (List ℕ)). length l) steps.0 in omega arith);
      few = All-tail few numbers rest (subst (All few) steps.0 i.few);
      cuts = ap (map partition_numbers) partitions_then ∙ map-append partition_numbers at.partitions.items (partition ∷ []) ∙ ap (λ (l : List (List ℕ)). l ++ numbers ∷ []) i.cuts;
      claims = subst (All (HasClaims workers)) (sym partitions_then) (All-push (HasClaims workers) at.partitions.items partition i.claims (record { all = opened.claims.0 ∙ c.len-in-loop-numbers.ensures; tickets_are = opened.claims.1 }));
      turns = subst (λ (l : List Partition). AllZip (AreFreshAt workers) l c.push.new.self.items) (sym partitions_then)
          (subst (AllZip (AreFreshAt workers) (at.partitions.items ++ partition ∷ [])) (sym turns_then)
          (zip_push (AreFreshAt workers) at.partitions.items at.turns.items partition turns i.turns (fresh_at workers partition turns c.in_ok-claims.tickets c.in_ok-turns_with.ensures opened.tickets.0 opened.tickets.1)));
    }

pub columns_of-requires : goal.columns_of-requires
columns_of-requires c = all_wide c.args.workers c.loop-numbers.partitions.items c.loop-numbers.turns.items c.loop-numbers.invariant.turns

pub returns : goal.returns
returns c =
    let at = c.loop-numbers in
    let i = at.invariant in
    let all = ends at.yielded _ _ i.whole (sym i.left ∙ c.in-None.ensures.steps.0) ∙ c.into_iter-numbers-iterator.ensures.into_iter_gives.0 in
    record {
      cuts_are = i.cuts ∙ all;
      claims = i.claims;
      count = c.in_ok-by_worker.ensures.count;
      fresh = by_worker_fresh c.args.workers at.partitions.items at.turns.items c.in_ok-by_worker.by_worker.items i.turns c.in_ok-by_worker.ensures;
    }

pub loop-numbers-init : goal.loop-numbers-init
loop-numbers-init c =
    let few : List ℕ → Type 0 = λ l. length l ≤ 2 ^ 32 in
    let no_partitions = c.in_ok-partitions.ensures.items in
    let no_turns = c.in_ok-turns.ensures.items in
    record {
      whole = refl;
      left = search rules;
      few = subst (All few) (sym c.into_iter-numbers-iterator.ensures.into_iter_gives.0) c.requires.cuts;
      cuts = ap (map partition_numbers) no_partitions;
      claims = subst (All (HasClaims c.args.workers)) (sym no_partitions) (All-nil (HasClaims c.args.workers));
      turns = rw (no_partitions, no_turns) tt;
    }

pub open-requires-clause-count : goal.open-requires-clause-count
open-requires-clause-count c =
    let few : List ℕ → Type 0 = λ l. length l ≤ 2 ^ 32 in
    let short = All-head few c.in-Some.numbers (into_iter_items c.next.new.self) (subst (All few) c.in-Some.ensures.steps.0 c.loop-numbers.invariant.few) in
    let long = c.len-in-loop-numbers.ensures in
    omega (arith, short, long)

pub open-requires-clause-seats : goal.open-requires-clause-seats
open-requires-clause-seats c = c.requires.workers

pub loop-numbers-smaller : goal.loop-numbers-smaller
loop-numbers-smaller c = (let gone = c.in-Some.ensures.steps.1 in omega arith)

pub overflow_cast-workers : goal.overflow_cast-workers
overflow_cast-workers c = (let few = c.requires.workers.1 in omega (arith, few))
