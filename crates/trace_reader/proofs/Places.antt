-- The first place of a byte.
use Rattle.std.proofs.Common.{◌≡◌, ℕ, ◌<◌, false, ◌==◌, List, length, take, sym, subst, arith}
use Rattle.std.specs.List.{position_or_len, All}
use Rattle.std.proofs.lemmas.Bool.{false_from_ne_true}
use Rattle.std.proofs.lemmas.List.{get_or-take, length-take}
use Rattle.std.proofs.lemmas.List.Elements.{All-from_get_or}
use Rattle.std.proofs.lemmas.List.Sums.{position_or_len_is}
use Rattle.memchr.specs.Find.{NoneBefore, Nowhere, Passes, is_byte}

-- the list has no byte c
abbrev pub HasNo : ℕ → List ℕ → Type 0
HasNo c text = All (λ b. (b == c) ≡ false) text

pub position_is : (c : ℕ) (text : List ℕ) (place : ℕ) → NoneBefore (Passes (is_byte c) text) 0 (length text) place → Passes (is_byte c) text place → position_or_len (λ b. b == c) text ≡ place
position_is c text place none here =
    position_or_len_is (λ b. b == c) text place 0 (omega (arith, none.high))
    (λ k below. false_from_ne_true _ (none.before k (omega arith) below))
    (λ _. here)

pub HasNo-none : (c : ℕ) (text : List ℕ) → Nowhere (Passes (is_byte c) text) 0 (length text) → HasNo c text
HasNo-none c text none = All-from_get_or (λ b. (b == c) ≡ false) text 0 (λ i below. false_from_ne_true _ (none i (omega arith) below))

pub HasNo-before : (c : ℕ) (text : List ℕ) (place : ℕ) → NoneBefore (Passes (is_byte c) text) 0 (length text) place → HasNo c (take place text)
HasNo-before c text place none = All-from_get_or (λ b. (b == c) ≡ false) (take place text) 0 (λ i below.
    let k : i < place = omega (arith, length-take place text) in
    subst (λ b. (b == c) ≡ false) (sym (get_or-take place text i 0 k))
    (false_from_ne_true _ (none.before i (omega arith) k)))
