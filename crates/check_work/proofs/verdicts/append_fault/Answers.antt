use Rattle.std.proofs.Common.{◌≡◌, ℕ, List, [], ◌∷◌, ◌++◌, append_assoc, ap, sym, ◌∙◌}
use Rattle.std.specs.Prelude.{codes}
use Rattle.std.proofs.lemmas.Result.{on_ok_weaker}
use Rattle.decimal_text.specs.Number.{decimal}
use Rattle.potential_certificate.specs.declared.fault.CertFault.TheVariants.{BadLine, Memory}
use Rattle.check_work.specs.Check.{certificate_fault_line}
use Rattle.check_work.proofs.verdicts.append_fault.Goals as goal

written : (base one two new a b c d : List ℕ) → one ≡ base ++ a → two ≡ one ++ b → new ≡ two ++ (c ++ d) → new ≡ base ++ (a ++ b ++ c ++ d)
written base one two new a b c d h1 h2 h3 = rw (h3, h2, h1) (simp append_assoc)

pub returns-in_ok-write_unsigned-in-BadLine-clause-line : goal.returns-in_ok-write_unsigned-in-BadLine-clause-line
returns-in_ok-write_unsigned-in-BadLine-clause-line c =
    on_ok_weaker c.extend_from_slice-in-BadLine.result
    (λ e. written c.args.line.now c.extend_from_slice.new.self c.write_unsigned.new.into c.extend_from_slice-in-BadLine.new.self (codes "certificate line ") (decimal c.in-BadLine.number) (codes ": bad line") (10 ∷ [])
    c.in_ok-extend_from_slice-in-BadLine.ensures.ok c.in_ok-write_unsigned-in-BadLine.ensures.ok e
    ∙ ap (λ fault. c.args.line.now ++ certificate_fault_line fault) (sym c.in-BadLine.is)) c.extend_from_slice-in-BadLine.ensures.ok

pub returns-in_ok-write_unsigned-in-BadLine-clause-some : goal.returns-in_ok-write_unsigned-in-BadLine-clause-some
returns-in_ok-write_unsigned-in-BadLine-clause-some c =
    on_ok_weaker c.extend_from_slice-in-BadLine.result (λ e memory. let same : BadLine c.in-BadLine.number ≡ Memory = sym c.in-BadLine.is ∙ memory in cc) c.extend_from_slice-in-BadLine.ensures.ok
