use Rattle.std.proofs.Common.{◌≡◌, ◌∷◌, [], ◌++◌, ℕ, ◌+◌, ◌<◌, ◌≤◌, List, All, Any, Contains, length, map, rules, refl, sym, ap, subst, ◌∙◌, arith}
use Rattle.std.specs.Vec.Iter.{into_iter_items}
use Rattle.std.proofs.lemmas.List.{length-map, map-append}
use Rattle.std.proofs.lemmas.List.Elements.{All-head, All-map, All-tail, All-weaker}
use Rattle.tickets.specs.Tickets.{Drawn, HasEnded}
use Rattle.match_pool.specs.declared.turn.Turn.{Turn}
use Rattle.match_pool.specs.declared.worker.Done.{Done}
use Rattle.match_pool.specs.inside.Dealing.{ticket_of}
use Rattle.match_pool.specs.Drawing.{job_of}
use Rattle.match_pool.specs.inside.Turns.{IsOver}
use Rattle.match_pool.specs.Working.{matched_at}
use Rattle.match_pool.proofs.Slots.{holds_more, holds_none, places_inside, some_ticket, partition_filled}
use Rattle.match_pool.proofs.Yields.{ends, goes_on}
use Rattle.match_pool.proofs.gathering.gather_partition.Goals as goal

pub loop-turn-init : goal.loop-turn-init
loop-turn-init c =
    let j = job_of c.args.batch.now in
    let items = c.into_iter-turn-iterator.ensures.into_iter_gives.0 ∙ c.into_vec-turn-items.ensures in
    record {
      whole = refl;
      left = search rules;
      over = subst (All (IsOver j c.args.partition)) (sym items) c.requires.turns.over;
      tickets = c.new-tickets.ensures;
      count = refl;
      holds = holds_none j c.args.partition.numbers c.args.slots.now.items;
    }

pub place-requires : goal.place-requires
place-requires c =
    let i = c.loop-turn.invariant in
    let turn = c.in-Some.turn in
    let j = job_of c.args.batch.now in
    let P = IsOver j c.args.partition in
    let mine = All-head P turn (into_iter_items c.next.new.self) (subst (All P) c.in-Some.ensures.steps.0 i.over) in
    subst (λ (n : ℕ). All (λ (d : Done). (j.first ≤ d.place) × (d.place < j.first + n)) turn.done) (sym (i.count ∙ c.requires.slots)) (places_inside j c.args.partition.numbers turn.ticket.numbers turn.done c.requires.turns.is_partition.inside mine.answers)

pub loop-turn-preserved : goal.loop-turn-preserved
loop-turn-preserved c =
    let at = c.loop-turn in
    let i = at.invariant in
    let turn = c.in-Some.turn in
    let steps = c.in-Some.ensures.steps in
    let rest = into_iter_items c.next.new.self in
    let j = job_of c.args.batch.now in
    let P = IsOver j c.args.partition in
    let over = subst (All P) steps.0 i.over in
    let mine = All-head P turn rest over in
    record {
      whole = goes_on at.yielded _ _ _ turn i.whole steps.0;
      left = (let was = i.left in let gone = steps.1 in let short = ap (λ (l : List Turn). length l) steps.0 in omega arith);
      over = All-tail P turn rest over;
      tickets = c.in_ok-push.ensures.ok ∙ ap (λ (l : List Drawn). l ++ turn.ticket ∷ []) i.tickets ∙ sym (map-append ticket_of at.yielded (turn ∷ []));
      count = c.place.ensures.count ∙ i.count;
      holds = holds_more j c.args.partition.numbers at.yielded turn c.args.slots.now.items at.slots.items _ mine.answers i.count i.holds (c.place.ensures.filled (matched_at j));
    }

pub gather-requires-clause-all : goal.gather-requires-clause-all
gather-requires-clause-all c =
    let at = c.loop-turn in
    let i = at.invariant in
    let all = ends at.yielded _ _ i.whole (sym i.left ∙ c.in-None.ensures.steps.0) ∙ c.into_iter-turn-iterator.ensures.into_iter_gives.0 ∙ c.into_vec-turn-items.ensures in
    ap (λ (l : List Drawn). length l) i.tickets ∙ length-map at.yielded ticket_of ∙ ap (λ (l : List Turn). length l) all ∙ c.requires.turns.all

pub gather-requires-clause-own : goal.gather-requires-clause-own
gather-requires-clause-own c =
    let at = c.loop-turn in
    let i = at.invariant in
    let j = job_of c.args.batch.now in
    let partition = c.args.partition in
    let all = ends at.yielded _ _ i.whole (sym i.left ∙ c.in-None.ensures.steps.0) ∙ c.into_iter-turn-iterator.ensures.into_iter_gives.0 ∙ c.into_vec-turn-items.ensures in
    subst (All (λ (t : Drawn). t.claims ≡ partition.claims.name)) (sym (i.tickets ∙ ap (map ticket_of) all))
    (All-map (λ (t : Drawn). t.claims ≡ partition.claims.name) ticket_of c.args.turns (All-weaker (IsOver j partition) (λ (t : Turn). t.ticket.claims ≡ partition.claims.name) (λ t o. o.own) c.args.turns c.requires.turns.over))

pub gather-requires-clause-ended : goal.gather-requires-clause-ended
gather-requires-clause-ended c =
    let at = c.loop-turn in
    let i = at.invariant in
    let j = job_of c.args.batch.now in
    let partition = c.args.partition in
    let all = ends at.yielded _ _ i.whole (sym i.left ∙ c.in-None.ensures.steps.0) ∙ c.into_iter-turn-iterator.ensures.into_iter_gives.0 ∙ c.into_vec-turn-items.ensures in
    subst (All (HasEnded partition.claims.count)) (sym (i.tickets ∙ ap (map ticket_of) all))
    (All-map (HasEnded partition.claims.count) ticket_of c.args.turns (All-weaker (IsOver j partition) (λ (t : Turn). HasEnded partition.claims.count t.ticket) (λ t o. o.ended) c.args.turns c.requires.turns.over))

pub returns-clause-filled : goal.returns-clause-filled
returns-clause-filled c =
    let at = c.loop-turn in
    let i = at.invariant in
    let partition = c.args.partition in
    let drawn : (rank : ℕ) → rank < length partition.numbers → Any (λ (t : Turn). Contains t.ticket.numbers rank) at.yielded = λ rank low. some_ticket rank at.yielded
    (let once = rw i.tickets at (c.gather.ensures rank (let counted = c.requires.turns.is_partition.all in omega arith)) in omega arith) in
    partition_filled (job_of c.args.batch.now) partition.numbers at.yielded c.args.slots.now.items at.slots.items i.holds drawn

pub returns-clause-drawn : goal.returns-clause-drawn
returns-clause-drawn c =
    let at = c.loop-turn in
    let i = at.invariant in
    let partition = c.args.partition in
    let all = ends at.yielded _ _ i.whole (sym i.left ∙ c.in-None.ensures.steps.0) ∙ c.into_iter-turn-iterator.ensures.into_iter_gives.0 ∙ c.into_vec-turn-items.ensures in
    λ rank low. subst (Any (λ (t : Turn). Contains t.ticket.numbers rank)) all (some_ticket rank at.yielded
    (let once = rw i.tickets at (c.gather.ensures rank (let counted = c.requires.turns.is_partition.all in omega arith)) in omega arith))
