use Rattle.std.proofs.Common.{◌+◌, ◌<◌, length, rules}
use Rattle.potential_certificate.specs.CertificateText.{proof_text, certificate_text_limit}
use Rattle.potential_certificate.proofs.KeptFronts.{kept_behind, kept_on, on_err}
use Rattle.potential_certificate.proofs.WrittenLines.{long_part}
use Rattle.potential_certificate.proofs.writing.append_proofs.Goals as goal

pub returns-then-is_long-clause-too_long : goal.returns-then-is_long-clause-too_long
returns-then-is_long-clause-too_long c =
    let long : c.args.start + certificate_text_limit < length c.append_proof.new.into = search rules in
    λ is. long_part proof_text c.args.proofs.now c.proof-item.result c.loop-proof.proof-index (c.args.start + certificate_text_limit) c.args.into.now c.loop-proof.into c.append_proof.new.into c.loop-proof-test.true c.proof-item.is c.loop-proof.invariant.written (search rules) long

pub returns-in_err-append_proof-clause-err : goal.returns-in_err-append_proof-clause-err
returns-in_err-append_proof-clause-err c =
    on_err _ (kept_behind c.args.into.now _ c.loop-proof.into c.append_proof.new.into c.loop-proof.invariant.written (search (rules, c.append_proof.ensures.err)))

pub returns-then-is_long-clause-err : goal.returns-then-is_long-clause-err
returns-then-is_long-clause-err c =
    kept_behind c.args.into.now _ c.loop-proof.into c.append_proof.new.into c.loop-proof.invariant.written (kept_on c.loop-proof.into _ c.append_proof.new.into c.in_ok-append_proof.ensures.ok)
