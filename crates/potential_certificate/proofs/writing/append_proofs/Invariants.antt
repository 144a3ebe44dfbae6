use Rattle.std.proofs.Common.{◌≡◌, ◌≤◌, ◌++◌, length, take}
use Rattle.std.specs.List.{flat_map}
use Rattle.potential_certificate.specs.CertificateText.{proof_text}
use Rattle.potential_certificate.proofs.writing.append_proofs.Given as goal

abbrev pub invariant-loop-proof : goal.invariant-loop-proof
invariant-loop-proof l = record {
  written : l.into ≡ l.fn.into ++ flat_map proof_text (take l.proof-index l.proofs);
  begun : l.start ≤ length l.into;
}
