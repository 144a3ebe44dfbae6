use Rattle.std.proofs.Common.{◌∷◌, [], ◌++◌, List, length, map, refl, rules, sym, ap, ◌∙◌, arith}
use Rattle.std.proofs.lemmas.List.{map-append}
use Rattle.row_store.specs.Store.{Reading}
use Rattle.match_pool.specs.inside.WorkerSet.{reader_of, turns_of}
use Rattle.match_pool.specs.declared.worker_set.Worker.{Worker}
use Rattle.match_pool.specs.declared.turn.Turn.{Turn}
use Rattle.match_pool.proofs.Yields.{ends, goes_on}
use Rattle.match_pool.proofs.worker_set.WorkerSet.end.Goals as goal

pub loop-worker-init : goal.loop-worker-init
loop-worker-init c =
    let many = ap (λ (l : List Worker). length l) c.into_iter-worker-iterator.ensures.into_iter_gives.0 in
    record {
      whole = refl;
      left = search rules;
      readers = c.requires.no_readers;
      turns = c.requires.no_turns;
      room = (let fits = c.requires.readers in let none = ap (λ (l : List Reading). length l) c.requires.no_readers in let whole = c.args.self.readers.ok.0 in omega arith);
      room_for_turns = (let fits = c.requires.turns in let none = ap (λ (l : List (List Turn)). length l) c.requires.no_turns in let whole = c.args.self.turns.ok.0 in omega arith);
    }

pub loop-worker-preserved : goal.loop-worker-preserved
loop-worker-preserved c =
    let at = c.loop-worker in
    let i = at.invariant in
    let worker = c.in-Some.worker in
    let steps = c.in-Some.ensures.steps in
    let gone = steps.1 in
    let short = ap (λ (l : List Worker). length l) steps.0 in
    record {
      whole = goes_on at.yielded _ _ _ worker i.whole steps.0;
      left = (let was = i.left in omega arith);
      readers = c.in-Ok.ensures.items ∙ ap (λ (r : Reading). at.home.items ++ r ∷ []) c.into_parts-reader.ensures.0
          ∙ ap (λ (l : List Reading). l ++ worker.reader ∷ []) i.readers ∙ sym (map-append reader_of at.yielded (worker ∷ []));
      turns = c.in-Ok-push.ensures.items ∙ ap (λ (l : List Turn). at.turns.items ++ l ∷ []) (c.from_vec.ensures ∙ ap (λ v. v.items) c.into_parts-reader.ensures.1)
          ∙ ap (λ (l : List (List Turn)). l ++ worker.turns.items ∷ []) i.turns ∙ sym (map-append turns_of at.yielded (worker ∷ []));
      room = (let was = i.room in let longer = c.in-Ok.ensures.len in let wide = c.in-Ok.ensures.capacity in omega arith);
      room_for_turns = (let was = i.room_for_turns in let longer = c.in-Ok-push.ensures.len in let wide = c.in-Ok-push.ensures.capacity in omega arith);
    }

pub returns-clause-readers : goal.returns-clause-readers
returns-clause-readers c =
    let at = c.loop-worker in
    let i = at.invariant in
    let all = ends at.yielded _ _ i.whole (sym i.left ∙ c.in-None.ensures.steps.0) ∙ c.into_iter-worker-iterator.ensures.into_iter_gives.0 in
    c.replace-emptied.ensures.after ∙ c.from_vec-2.ensures ∙ i.readers ∙ ap (map reader_of) all

pub returns-clause-turns : goal.returns-clause-turns
returns-clause-turns c =
    let at = c.loop-worker in
    let i = at.invariant in
    let all = ends at.yielded _ _ i.whole (sym i.left ∙ c.in-None.ensures.steps.0) ∙ c.into_iter-worker-iterator.ensures.into_iter_gives.0 in
    i.turns ∙ ap (map turns_of) all
