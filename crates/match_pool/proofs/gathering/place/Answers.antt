use Rattle.std.proofs.Common.{All, ◌+◌, ◌<◌, ◌≤◌, length, length-set, ap, ◌∙◌, subst, arith}
use Rattle.std.proofs.lemmas.List.Elements.{All-head, All-rest}
use Rattle.std.specs.Vec.Iter.{into_iter_items}
use Rattle.match_pool.specs.declared.worker.Done.{Done}
use Rattle.match_pool.proofs.Slots.{fills_more}
use Rattle.match_pool.proofs.Yields.{goes_on}
use Rattle.match_pool.proofs.gathering.place.Goals as goal

pub loop-answer-preserved-in-Some : goal.loop-answer-preserved-in-Some
loop-answer-preserved-in-Some c =
    let at = c.loop-answer in
    let i = at.invariant in
    let answer = c.in-Some.answer in
    let steps = c.in-Some.ensures.steps in
    let P : Done → Type 0 = λ d. (c.args.first ≤ d.place) × (d.place < c.args.first + length c.args.slots.now.items) in
    let rest = into_iter_items c.next.new.self in
    let here = All-head P answer rest (subst (All P) steps.0 i.inside) in
    record {
      whole = goes_on at.yielded _ _ _ answer i.whole steps.0;
      left = (let was = i.left in let gone = steps.1 in let short = ap length steps.0 in omega arith);
      inside = All-rest P answer rest _ steps.0 i.inside;
      count = length-set _ _ _ ∙ i.count;
      filled = λ matched numbers e. fills_more c.args.first matched at.yielded answer c.args.slots.now.items at.slots.items (i.filled matched) (let low = here.1 in let count = i.count in omega arith) numbers e;
    }

pub loop-answer-preserved : goal.loop-answer-preserved
loop-answer-preserved c =
    let at = c.loop-answer in
    let i = at.invariant in
    let answer = c.in-Some.answer in
    let steps = c.in-Some.ensures.steps in
    let P : Done → Type 0 = λ d. (c.args.first ≤ d.place) × (d.place < c.args.first + length c.args.slots.now.items) in
    let rest = into_iter_items c.next.new.self in
    let here = All-head P answer rest (subst (All P) steps.0 i.inside) in
    record {
      whole = goes_on at.yielded _ _ _ answer i.whole steps.0;
      left = (let was = i.left in let gone = steps.1 in let short = ap length steps.0 in omega arith);
      inside = All-rest P answer rest _ steps.0 i.inside;
      count = length-set _ _ _ ∙ i.count;
      filled = λ matched numbers e. fills_more c.args.first matched at.yielded answer c.args.slots.now.items at.slots.items (i.filled matched) (let low = here.1 in let count = i.count in omega arith) numbers e;
    }

pub overflow_sub-place : goal.overflow_sub-place
overflow_sub-place c =
    let P : Done → Type 0 = λ d. (c.args.first ≤ d.place) × (d.place < c.args.first + length c.args.slots.now.items) in
    (All-head P c.in-Some.answer (into_iter_items c.next.new.self) (subst (All P) c.in-Some.ensures.steps.0 c.loop-answer.invariant.inside)).0

pub index_mut-requires : goal.index_mut-requires
index_mut-requires c =
    let P : Done → Type 0 = λ d. (c.args.first ≤ d.place) × (d.place < c.args.first + length c.args.slots.now.items) in
    let here = All-head P c.in-Some.answer (into_iter_items c.next.new.self) (subst (All P) c.in-Some.ensures.steps.0 c.loop-answer.invariant.inside) in
    let low = here.0 in
    let high = here.1 in
    let count = c.loop-answer.invariant.count in
    let whole = c.loop-answer.slots.ok.0 in
    omega (arith, low, high, count, whole)

pub loop-answer-smaller : goal.loop-answer-smaller
loop-answer-smaller c = (let gone = c.in-Some.ensures.steps.1 in omega arith)

pub loop-answer-smaller-in-Some : goal.loop-answer-smaller-in-Some
loop-answer-smaller-in-Some c = (let gone = c.in-Some.ensures.steps.1 in omega arith)

pub returns-clause-count : goal.returns-clause-count
returns-clause-count c = c.loop-answer.invariant.count
