use Rattle.std.proofs.Common.{◌≡◌, ◌++◌}
use Rattle.online_commit.proofs.online.append_items.Given as goal

abbrev pub invariant-loop-item : goal.invariant-loop-item
invariant-loop-item l = l.items ≡ l.fn.items ++ l.yielded
