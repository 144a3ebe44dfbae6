use Rattle.std.proofs.Common.{◌<◌, ◌∙◌, ◌++◌, ◌∷◌, [], ℕ, length, refl, sym, ap, arith, append_assoc, List}
use Rattle.std.proofs.lemmas.List.{get_or_default}
use Rattle.bounded_table.proofs.Asking.{asks_ok}
use Rattle.tickets.specs.Tickets.{Drawn}
use Rattle.match_pool.specs.Drawing.{job_of, number_of_rank}
use Rattle.match_pool.specs.Working.{no_trace}
use Rattle.match_pool.proofs.Draws.{reads_none, reads_on}
use Rattle.match_pool.proofs.Turns.{drawn_below, goes_on, starts, stays_more}
use Rattle.match_pool.proofs.drawing.work_on.Goals as goal

pub loop-rank-init : goal.loop-rank-init
loop-rank-init g c = record {
  stays = record { reader = reads_none (job_of c.args.batch.now) c.args.reader.now; claims = refl };
  opened = c.requires.ticket.opened;
  working = rw (c.from_vec-done.ensures ∙ c.in_ok-with_capacity.ensures.items) (starts (job_of c.args.batch.now) c.args.numbers.now c.args.reader.now c.args.ticket.now.numbers);
}

pub loop-rank-preserved : goal.loop-rank-preserved
loop-rank-preserved g c =
    let i = c.loop-rank.invariant in
    let d = c.in-Some.ensures in
    let k = c.in-Some.rank in
    let x = d.number in
    let numbers = c.args.numbers.now in
    let traces = c.args.batch.now.traces.now in
    let below = drawn_below c.requires.ticket.all x.3 in
    let drew = ap (λ (t : Drawn). t.numbers) x.2 ∙ ap (λ (y : ℕ). c.loop-rank.ticket.numbers ++ y ∷ []) (sym x.3.0) in
    let asked = asks_ok c.find_match.ensures.asks c.in_ok-matched.was in
    let number = number_of_rank numbers k in
    let inside : number < length traces = c.requires.numbers k 0 below in
    let item = sym (get_or_default traces number no_trace c.index-batch-number.result inside) in
    record {
      stays = stays_more number inside i.stays (rw item at asked.only) d.claims;
      opened = d.then;
      working = goes_on _ _ _ _ _ _ _ k _ _ _ _ i.working below drew (rw item at c.in_ok-matched.ensures.matched) c.in_ok-push.ensures.ok (rw item at asked);
    }

pub draw-requires-clause-own : goal.draw-requires-clause-own
draw-requires-clause-own g c = c.loop-rank.invariant.stays.claims ∙ c.requires.ticket.own

pub draw-requires-clause-open : goal.draw-requires-clause-open
draw-requires-clause-open g c = c.loop-rank.invariant.opened

pub bounds-numbers-rank : goal.bounds-numbers-rank
bounds-numbers-rank g c = drawn_below c.requires.ticket.all c.in-Some.ensures.number.3

pub overflow_add-place : goal.overflow_add-place
overflow_add-place g c =
    let inside = c.requires.numbers c.in-Some.rank 0 (drawn_below c.requires.ticket.all c.in-Some.ensures.number.3) in
    let lawful = c.args.batch.now.lawful in
    let first = lawful.first_place in
    let few = lawful.few in
    omega arith

pub bounds-batch-number : goal.bounds-batch-number
bounds-batch-number g c = c.requires.numbers c.in-Some.rank 0 (drawn_below c.requires.ticket.all c.in-Some.ensures.number.3)

pub find_match-requires-clause-reader : goal.find_match-requires-clause-reader
find_match-requires-clause-reader g c = reads_on (job_of c.args.batch.now) c.args.reader.now c.loop-rank.reader c.loop-rank.invariant.stays.reader.stays c.requires.reader

pub find_match-requires-clause-trace : goal.find_match-requires-clause-trace
find_match-requires-clause-trace g c =
    let inside = c.requires.numbers c.in-Some.rank 0 (drawn_below c.requires.ticket.all c.in-Some.ensures.number.3) in
    c.args.batch.now.lawful.lawful _ c.index-batch-number.result inside

pub returns-in_err-with_capacity-clause-stays : goal.returns-in_err-with_capacity-clause-stays
returns-in_err-with_capacity-clause-stays g c = record { reader = reads_none (job_of c.args.batch.now) c.args.reader.now; claims = refl }

pub returns-in_err-matched-clause-stays : goal.returns-in_err-matched-clause-stays
returns-in_err-matched-clause-stays g c =
    let number = number_of_rank c.args.numbers.now c.in-Some.rank in
    let inside = c.requires.numbers c.in-Some.rank 0 (drawn_below c.requires.ticket.all c.in-Some.ensures.number.3) in
    let item = sym (get_or_default c.args.batch.now.traces.now number no_trace c.index-batch-number.result inside) in
    stays_more number inside c.loop-rank.invariant.stays (rw item at c.find_match.ensures.asks.only) c.in-Some.ensures.claims

pub returns-in_err-push-clause-stays : goal.returns-in_err-push-clause-stays
returns-in_err-push-clause-stays g c =
    let number = number_of_rank c.args.numbers.now c.in-Some.rank in
    let inside = c.requires.numbers c.in-Some.rank 0 (drawn_below c.requires.ticket.all c.in-Some.ensures.number.3) in
    let item = sym (get_or_default c.args.batch.now.traces.now number no_trace c.index-batch-number.result inside) in
    stays_more number inside c.loop-rank.invariant.stays (rw item at c.find_match.ensures.asks.only) c.in-Some.ensures.claims

pub loop-rank-smaller : goal.loop-rank-smaller
loop-rank-smaller g c =
    let x = c.in-Some.ensures.number in
    let later = x.1 in
    let one = ap (λ (t : Drawn). t.seen) x.2 in
    let below = x.3.1 in
    omega arith

pub returns-clause-stays : goal.returns-clause-stays
returns-clause-stays g c =
    let stays = c.loop-rank.invariant.stays in
    record { reader = stays.reader; claims = c.draw.ensures.claims ∙ stays.claims }

pub returns-clause-works : goal.returns-clause-works
returns-clause-works g c =
    let i = c.loop-rank.invariant.working in
    let last = c.in_default.ensures.number in
    record {
      ranks = i.ranks;
      last = last.0;
      drawn = ap (λ (t : Drawn). t.numbers) last.2 ∙ ap (λ (l : List ℕ). l ++ last.0 ∷ []) i.drawn_are ∙ append_assoc c.args.ticket.now.numbers i.ranks (last.0 ∷ []);
      below = i.below;
      above = (let late = last.3 in let all = c.requires.ticket.all in omega (arith, late, all));
      answers = i.answers;
      learns = i.learns;
    }
