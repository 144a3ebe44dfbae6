use Rattle.std.proofs.Common.{◌≡◌, map, take}
use Rattle.trace_reader.specs.Trace.{point_of_fix}
use Rattle.cert_checker.proofs.plain_layers.places.Given as goal

abbrev pub invariant-loop-fix : goal.invariant-loop-fix
invariant-loop-fix l = l.points ≡ map point_of_fix (take l.fix-index l.fixes)
