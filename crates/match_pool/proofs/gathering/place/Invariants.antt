use Rattle.std.proofs.Common.{◌≡◌, ◌+◌, ◌<◌, ◌≤◌, ◌++◌, All, length}
use Rattle.std.specs.Vec.Iter.{into_iter_items, into_iter_len}
use Rattle.match_pool.specs.inside.Gathering.{PlacesAnswers}
use Rattle.match_pool.specs.declared.worker.Done.{Done}
use Rattle.match_pool.proofs.gathering.place.Given as goal

abbrev pub invariant-loop-answer : goal.invariant-loop-answer
invariant-loop-answer l = record {
  whole : l.yielded ++ into_iter_items l.answer-iterator ≡ into_iter_items l.initial.answer-iterator;
  left : into_iter_len l.answer-iterator ≡ length (into_iter_items l.answer-iterator);
  inside : All (λ (d : Done). (l.first ≤ d.place) × (d.place < l.first + length l.initial.slots.items)) (into_iter_items l.answer-iterator);
  count : length l.slots.items ≡ length l.initial.slots.items;
  filled : PlacesAnswers l.first l.yielded l.initial.slots.items l.slots.items;
}
