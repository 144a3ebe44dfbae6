use Rattle.std.proofs.Common.{◌≡◌, map, take}
use Rattle.trace_match.specs.Match.{layer_of}
use Rattle.trace_match.proofs.fixes.layers.Given as goal

abbrev pub invariant-loop-fix : goal.invariant-loop-fix
invariant-loop-fix l = l.found.items ≡ map (layer_of l.net l.p) (take l.fix-index l.fixes)
