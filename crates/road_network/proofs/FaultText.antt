-- A line that is written part by part.
use Rattle.std.proofs.Common.{◌≡◌, ℕ, ◌++◌, List, ap, ◌∙◌, append_assoc}

pub three-parts : (line a b c x y z : List ℕ) → x ≡ line ++ a → y ≡ x ++ b → z ≡ y ++ c → z ≡ line ++ (a ++ b ++ c)
three-parts line a b c x y z hx hy hz = hz ∙ ap (λ k. k ++ c) (hy ∙ ap (λ k. k ++ b) hx) ∙ simp append_assoc

pub one-inside : (line a b c d e x y z : List ℕ) → x ≡ line ++ (a ++ b ++ c) → y ≡ x ++ d → z ≡ y ++ e → z ≡ line ++ (a ++ b ++ (c ++ d ++ e))
one-inside line a b c d e x y z hx hy hz = hz ∙ ap (λ k. k ++ e) (hy ∙ ap (λ k. k ++ d) hx) ∙ simp append_assoc
