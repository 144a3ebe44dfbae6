use Rattle.std.proofs.Common.{◌≡◌, ◌++◌, take}
use Rattle.std.specs.List.{concat}
use Rattle.trace_sessions.specs.ItemText.{item_lines}
use Rattle.trace_sessions.proofs.items.append_items.Given as goal

abbrev pub invariant-loop-item : goal.invariant-loop-item
invariant-loop-item l = l.into ≡ l.fn.into ++ concat (item_lines l.net l.id (take l.item-index l.items))
