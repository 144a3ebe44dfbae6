-- What is gone from the text was written.
use Rattle.std.proofs.Common.{◌≡◌, List, ℕ, ◌++◌}
use Rattle.std.specs.Io.KnownBytes.{Appends}
use Rattle.edge_io.proofs.stream_sink.write_flushed.Given as goal

abbrev pub invariant-loop : goal.invariant-loop
invariant-loop g l = (done : List ℕ) × (l.text ≡ done ++ l.rest) × Appends (g.W.Write.contents l.initial.stream) (g.W.Write.contents l.stream) done
