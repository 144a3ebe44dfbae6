use Rattle.std.proofs.Common.{◌≡◌, ◌∷◌, [], ◌++◌, List, All, Contains, length, length-append, map, rules, refl, sym, ap, subst, ◌∙◌, arith}
use Rattle.std.proofs.lemmas.List.{length-map, map-append}
use Rattle.std.proofs.lemmas.List.Elements.{All-contains_itself, All-nil, All-push}
use Rattle.tickets.proofs.Moves.{all_front, all_last}
use Rattle.row_store.specs.Store.{Reading}
use Rattle.match_pool.specs.inside.WorkerSet.{reader_of}
use Rattle.match_pool.specs.declared.worker_set.Worker.{Worker}
use Rattle.match_pool.specs.declared.turn.Turn.{Turn}
use Rattle.match_pool.proofs.Yields.{ends, goes_on}
use Rattle.match_pool.proofs.worker_set.WorkerSet.start.Goals as goal

pub loop-reader-init : goal.loop-reader-init
loop-reader-init c =
    let taken = c.into_iter-reader-iterator.ensures.into_iter_gives.0 ∙ c.into_vec-taken.ensures ∙ c.replace.ensures.value in
    let many = ap (λ (l : List Reading). length l) taken in
    record {
      whole = refl;
      left = search rules;
      readers = ap (map reader_of) c.in_ok-workers.ensures.items;
      turns = rw c.in_ok-workers.ensures.items (All-nil (λ (w : Worker). Contains c.args.by_worker.items w.turns.items));
      unused = All-contains_itself c.args.by_worker.items;
      count = c.requires ∙ sym many;
      room = (let none = c.in_ok-workers.ensures.len in let exact = c.in_ok-workers.ensures.exact in let count = c.len-count.ensures in omega arith);
    }

pub loop-reader-preserved : goal.loop-reader-preserved
loop-reader-preserved c =
    let at = c.loop-reader in
    let i = at.invariant in
    let reader = c.in-Some.reader in
    let steps = c.in-Some.ensures.steps in
    let short = ap (λ (l : List Reading). length l) steps.0 in
    let own_turns = c.in-Some-pop.own_turns in
    let left = c.pop.new.self.items in
    let popped : at.by_worker.items ≡ left ++ own_turns ∷ [] = c.in-Some-pop.ensures.items in
    let P = Contains c.args.by_worker.items in
    let unused = subst (λ (l : List (List Turn)). All P l) popped i.unused in
    let fewer = ap (λ (l : List (List Turn)). length l) popped ∙ length-append left (own_turns ∷ []) in
    record {
      whole = goes_on at.yielded _ _ _ reader i.whole steps.0;
      left = (let was = i.left in let gone = steps.1 in omega arith);
      readers = ap (map reader_of) c.in-Ok.ensures.items ∙ map-append reader_of at.workers.items _ ∙ ap (λ (l : List Reading). l ++ reader ∷ []) i.readers;
      turns = rw c.in-Ok.ensures.items (All-push (λ (w : Worker). Contains c.args.by_worker.items w.turns.items) at.workers.items _ i.turns (subst P (sym c.into_vec.ensures) (all_last P left own_turns unused)));
      unused = all_front P left (own_turns ∷ []) unused;
      count = (let count = i.count in omega arith);
      room = (let room = i.room in let longer = c.in-Ok.ensures.len in let wide = c.in-Ok.ensures.capacity in omega arith);
    }

pub returns-clause-worker_set : goal.returns-clause-worker_set
returns-clause-worker_set c =
    let at = c.loop-reader in
    let i = at.invariant in
    let taken = c.into_iter-reader-iterator.ensures.into_iter_gives.0 ∙ c.into_vec-taken.ensures ∙ c.replace.ensures.value in
    let readers = i.readers ∙ ends at.yielded _ _ i.whole (sym i.left ∙ c.in-None.ensures.steps.0) ∙ taken in
    let many = sym (length-map at.workers.items reader_of) ∙ ap (λ (l : List Reading). length l) readers ∙ sym c.len-count.ensures in
    record {
      readers_are = readers;
      turns_are = i.turns;
      room = record {
        no_readers = c.in_ok-home.ensures.items;
        no_turns = c.in_ok-turns.ensures.items;
        readers = (let exact = c.in_ok-home.ensures.exact in omega (arith, many, exact));
        turns = (let exact = c.in_ok-turns.ensures.exact in omega (arith, many, exact));
      };
    }

pub loop-reader-smaller : goal.loop-reader-smaller
loop-reader-smaller c = (let gone = c.in-Some.ensures.steps.1 in omega arith)

pub unreachable-requires : goal.unreachable-requires
unreachable-requires c =
    let none = c.in_default.ensures.cases.0 in
    let whole = c.loop-reader.by_worker.ok.0 in
    let count = c.loop-reader.invariant.count in
    let short = ap (λ (l : List Reading). length l) c.in-Some.ensures.steps.0 in
    omega (arith, none, whole, count, short)
