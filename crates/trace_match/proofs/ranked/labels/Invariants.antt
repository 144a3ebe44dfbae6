use Rattle.std.proofs.Common.{◌≡◌, take}
use Rattle.trace_match.specs.Match.{labels_of}
use Rattle.trace_match.proofs.ranked.labels.Given as goal

abbrev pub invariant-loop-i : goal.invariant-loop-i
invariant-loop-i l = l.labels.items ≡ labels_of l.net (take l.i l.layers) (take l.i l.ranks)
