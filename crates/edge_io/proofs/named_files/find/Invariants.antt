use Rattle.std.proofs.Common.{◌≡◌, length}
use Rattle.edge_io.specs.Files.{lookup}
use Rattle.edge_io.proofs.named_files.find.Given as goal

abbrev pub invariant-loop-rest : goal.invariant-loop-rest
invariant-loop-rest l = lookup l.rest l.name ≡ lookup l.files l.name

abbrev pub decreases-loop-rest : goal.decreases-loop-rest
decreases-loop-rest l = length l.rest
