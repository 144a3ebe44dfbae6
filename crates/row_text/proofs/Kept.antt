-- What stood before stays at the front.
use Rattle.std.proofs.Common.{◌≡◌, ℕ, ◌≤◌, List, ◌++◌, length, take, refl, ap, sym, ◌∙◌, arith}
use Rattle.std.proofs.lemmas.List.{take_at, take-take, length-append}

pub kept : {X : Type 0} (xs ys : List X) → take (length xs) (xs ++ ys) ≡ xs
kept xs ys = take_at xs ys (length xs) refl

pub kept_longer : {X : Type 0} (xs ys zs : List X) → take (length (xs ++ ys)) zs ≡ xs ++ ys → take (length xs) zs ≡ xs
kept_longer xs ys zs h = sym (take-take (length xs) (length (xs ++ ys)) zs (omega (arith, length-append xs ys))) ∙ ap (take (length xs)) h ∙ kept xs ys

-- what stands before two places, the second in front of the first
pub kept_before : {X : Type 0} (at end : ℕ) (old mid new : List X) → at ≤ end → take end mid ≡ take end old → take at new ≡ take at mid → take at new ≡ take at old
kept_before at end old mid new before first second = second ∙ sym (take-take at end mid before) ∙ ap (take at) first ∙ take-take at end old before
