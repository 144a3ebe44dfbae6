use Rattle.std.proofs.Common.{◌≡◌, map, take}
use Rattle.trace_match.specs.inside.Asked.{AsksTraces}
use Rattle.prove_work.specs.Certificates.{proof_of}
use Rattle.prove_work.proofs.certifying.prove_all.Given as goal

-- the traces so far were proved, and what they ask for became known
abbrev pub invariant-loop-trace : goal.invariant-loop-trace
invariant-loop-trace l = record {
  proofs : l.proofs ≡ map (proof_of l.matcher.network l.matcher.params) (take l.trace-index l.traces);
  asks : AsksTraces l.matcher (take l.trace-index l.traces) l.initial.rows l.rows;
}
