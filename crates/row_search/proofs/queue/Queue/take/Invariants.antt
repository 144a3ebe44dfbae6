use Rattle.std.proofs.Common.{◌≡◌, ◌≤◌, ◌-◌, ◌++◌, length, drop}
use Rattle.row_search.proofs.queue.Queue.take.Given as goal

abbrev pub invariant-loop-self : goal.invariant-loop-self
invariant-loop-self l = record {
  head : l.self-inside.head ≤ length l.self-inside.near;
  same : l.self-inside.far ++ drop l.self-inside.head l.self-inside.near ≡ l.fn.self;
}

abbrev pub decreases-loop-self : goal.decreases-loop-self
decreases-loop-self l = length l.self-inside.near - l.self-inside.head
