-- What was there stays at the front.
use Rattle.std.proofs.Common.{◌≡◌, ℕ, ◌≤◌, List, ◌++◌, length, take, Result, Ok, Err, ap, subst, sym, ◌∙◌, arith, length-take}
use Rattle.std.specs.Prelude.{OnErr}
use Rattle.std.proofs.lemmas.List.{take-take}
use Rattle.match_text.proofs.Kept.{kept, kept_longer}

module _ (old : List ℕ) where
  pub kept_on : (more new : List ℕ) → new ≡ old ++ more → take (length old) new ≡ old
  kept_on more new is = ap (take (length old)) is ∙ kept old more

  pub kept_behind : (more mid new : List ℕ) → mid ≡ old ++ more → take (length mid) new ≡ mid → take (length old) new ≡ old
  kept_behind more mid new is still = kept_longer old more new (subst (λ (t : List ℕ). take (length t) new ≡ t) is still)

  pub kept_twice : (mid new : List ℕ) → take (length old) mid ≡ old → take (length mid) new ≡ mid → take (length old) new ≡ old
  kept_twice mid new first still =
      let long : length old ≤ length mid = omega (arith, ap (λ (t : List ℕ). length t) first, length-take (length old) mid) in
      sym (take-take (length old) (length mid) new long) ∙ ap (take (length old)) still ∙ first

pub on_err : {X E P : Type 0} (r : Result X E) → P → OnErr r P
on_err (Ok x) p = tt
on_err (Err e) p = p
