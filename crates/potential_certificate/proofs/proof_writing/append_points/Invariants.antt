use Rattle.std.proofs.Common.{◌≡◌, ◌++◌, length, take, drop}
use Rattle.std.specs.List.{concat}
use Rattle.potential_certificate.specs.CertificateText.{position_lines}
use Rattle.potential_certificate.proofs.proof_writing.append_points.Given as goal

-- what was written, and the lines that are left, are the lines of all
abbrev pub invariant-loop-point : goal.invariant-loop-point
invariant-loop-point l = record {
  all : l.into ++ concat (position_lines l.point (drop l.point l.ranks) (drop l.point l.tables) l.unwritten) ≡ l.fn.into ++ concat (position_lines 0 l.ranks l.tables l.pieces);
  kept : take (length l.fn.into) l.into ≡ l.fn.into;
}
