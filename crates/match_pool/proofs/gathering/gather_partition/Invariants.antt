use Rattle.std.proofs.Common.{◌≡◌, ◌++◌, All, length, map}
use Rattle.std.specs.Vec.Iter.{into_iter_items, into_iter_len}
use Rattle.match_pool.specs.inside.Dealing.{ticket_of}
use Rattle.match_pool.specs.Drawing.{job_of}
use Rattle.match_pool.specs.inside.Turns.{IsOver}
use Rattle.match_pool.proofs.Slots.{Holds}
use Rattle.match_pool.proofs.gathering.gather_partition.Given as goal

abbrev pub invariant-loop-turn : goal.invariant-loop-turn
invariant-loop-turn l = record {
  whole : l.yielded ++ into_iter_items l.turn-iterator ≡ into_iter_items l.initial.turn-iterator;
  left : into_iter_len l.turn-iterator ≡ length (into_iter_items l.turn-iterator);
  over : All (IsOver (job_of l.batch) l.partition) (into_iter_items l.turn-iterator);
  tickets : l.tickets ≡ map ticket_of l.yielded;
  count : length l.slots.items ≡ length l.initial.slots.items;
  holds : Holds (job_of l.batch) l.partition.numbers l.yielded l.initial.slots.items l.slots.items;
}
