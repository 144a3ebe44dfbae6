use Rattle.std.proofs.Common.{◌≡◌, ℕ, List, ◌++◌, append_assoc}
use Rattle.std.specs.Prelude.{codes}
use Rattle.std.proofs.lemmas.Result.{on_ok_weaker}
use Rattle.decimal_text.specs.Number.{decimal}
use Rattle.check_work.specs.Check.{named}
use Rattle.check_work.proofs.verdicts.append_point.Goals as goal

appended : (base i1 i2 i3 i4 new a b c d e : List ℕ) → i1 ≡ base ++ a → i2 ≡ i1 ++ b → i3 ≡ i2 ++ c → i4 ≡ i3 ++ d → new ≡ i4 ++ e → new ≡ base ++ (a ++ b ++ c ++ d ++ e)
appended base i1 i2 i3 i4 new a b c d e h1 h2 h3 h4 h5 = rw (h5, h4, h3, h2, h1) (simp append_assoc)

pub returns : goal.returns
returns c =
    on_ok_weaker c.append_name.result
    (λ e. appended c.args.line.now c.extend_from_slice.new.self c.write_unsigned.new.into c.extend_from_slice-2.new.self c.write_unsigned-2.new.into c.append_name.new.line
    (codes "refused trace ") (decimal c.args.trace) (codes " point ") (decimal c.args.point) (named c.args.condition)
    c.in_ok-extend_from_slice.ensures.ok c.in_ok-write_unsigned.ensures.ok c.in_ok-extend_from_slice-2.ensures.ok c.in_ok-write_unsigned-2.ensures.ok e) c.append_name.ensures
