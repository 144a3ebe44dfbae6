use Rattle.std.proofs.Common.{◌≡◌, ℕ, List, [], ◌∷◌, ◌++◌, append_assoc, ap, ◌∙◌}
use Rattle.std.specs.Prelude.{codes}
use Rattle.std.proofs.lemmas.Result.{on_ok_weaker}
use Rattle.decimal_text.specs.Number.{decimal}
use Rattle.follow_work.proofs.streams.append_too_long.Goals as goal

written : (base one two new a b c d : List ℕ) → one ≡ base ++ a → two ≡ one ++ b → new ≡ two ++ (c ++ d) → new ≡ base ++ (a ++ b ++ c ++ d)
written base one two new a b c d h1 h2 h3 = rw (h3, h2, h1) (simp append_assoc)

pub returns : goal.returns
returns c =
    on_ok_weaker c.extend_from_slice-2.result
    (λ e. written c.args.into.now c.extend_from_slice.new.self c.write_unsigned.new.into c.extend_from_slice-2.new.self (codes "traces id ") (decimal c.args.id) (codes ": trace too long") (10 ∷ [])
    c.in_ok-extend_from_slice.ensures.ok (c.in_ok-write_unsigned.ensures.ok ∙ ap (λ n. c.extend_from_slice.new.self ++ decimal n) c.from.ensures) e) c.extend_from_slice-2.ensures.ok
