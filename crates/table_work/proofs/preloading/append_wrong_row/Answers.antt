use Rattle.std.proofs.Common.{◌≡◌, ℕ, List, [], ◌∷◌, ◌++◌, append_assoc}
use Rattle.std.specs.Prelude.{codes}
use Rattle.std.proofs.lemmas.Result.{on_ok_weaker}
use Rattle.decimal_text.specs.Number.{decimal}
use Rattle.table_work.proofs.preloading.append_wrong_row.Goals as goal

written : (base one two new a b c d : List ℕ) → one ≡ base ++ a → two ≡ one ++ b → new ≡ two ++ (c ++ d) → new ≡ base ++ (a ++ b ++ c ++ d)
written base one two new a b c d h1 h2 h3 = rw (h3, h2, h1) (simp append_assoc)

pub returns : goal.returns
returns c =
    on_ok_weaker c.extend_from_slice-2.result
    (λ e. written c.args.line.now c.extend_from_slice.new.self c.write_unsigned.new.into c.extend_from_slice-2.new.self (codes "refused table origin ") (decimal c.args.id) (codes ": Row") (10 ∷ [])
    c.in_ok-extend_from_slice.ensures.ok c.in_ok-write_unsigned.ensures.ok e) c.extend_from_slice-2.ensures.ok
