-- A proof with one more position, or with its rank alone.
use Rattle.std.specs.Prelude.{ℕ, List, [], ◌∷◌, ◌++◌, Option}
use Rattle.matching.specs.declared.parts.Cell.{Cell}
use Rattle.potential_certificate.specs.declared.proof.TraceProof.{TraceProof}

-- the proof with one more position: its rank and its cells
abbrev pub with_last_point : TraceProof → Option ℕ → List Cell → TraceProof
with_last_point proof rank cells =
    record { id = proof.id; ranks = proof.ranks ++ rank ∷ []; tables = proof.tables ++ cells ∷ []; pieces = proof.pieces }

-- the proof with the rank of one more position, but not its cells
abbrev pub with_last_rank : TraceProof → Option ℕ → TraceProof
with_last_rank proof rank =
    record { id = proof.id; ranks = proof.ranks ++ rank ∷ []; tables = proof.tables; pieces = proof.pieces }
