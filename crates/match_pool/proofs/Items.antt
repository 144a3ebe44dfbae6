-- Facts about each of consecutive items, from those about the first one and about the others.
use Rattle.std.proofs.Common.{◌≡◌, ℕ, zero, suc, ◌+◌, List, ◌∷◌, sym, subst, arith}
use Rattle.std.specs.Prelude.{slice_index_or}
use Rattle.match_pool.specs.inside.Running.{EachFrom, EachFromTo}

pub each_first : {X : Type 0} (P : ℕ → X → Type 0) (first : ℕ) (xs : List X) (x : X) (rest : List X) → xs ≡ x ∷ rest → EachFrom P first xs → P first x
each_first P first xs x rest is each =
    let here = subst (λ l. EachFrom P first l) is each 0 x (omega arith) in
    subst (λ k. P k x) {x = first + 0} (omega arith) here

pub each_rest : {X : Type 0} (P : ℕ → X → Type 0) (first : ℕ) (xs : List X) (x : X) (rest : List X) → xs ≡ x ∷ rest → EachFrom P first xs → EachFrom P (first + 1) rest
each_rest P first xs x rest is each k d low =
    let there = subst (λ l. EachFrom P first l) is each (suc k) d (omega arith) in
    subst (λ j. P j (slice_index_or rest k d)) {x = first + suc k} (omega arith) there

joined : {X : Type 0} (R : ℕ → X → X → Type 0) (first : ℕ) (x y : X) (xs ys : List X) → R first x y → EachFromTo R (first + 1) xs ys → EachFromTo R first (x ∷ xs) (y ∷ ys)
joined R first x y xs ys one others zero d low = subst (λ k. R k x y) {x = first} (omega arith) one
joined R first x y xs ys one others (suc k) d low =
    subst (λ j. R j (slice_index_or xs k d) (slice_index_or ys k d)) {x = first + 1 + k} (omega arith) (others k d (omega arith))

pub each_joined : {X : Type 0} (R : ℕ → X → X → Type 0) (first : ℕ) (xs : List X) (x y : X) (rest ys : List X) → xs ≡ x ∷ rest → R first x y → EachFromTo R (first + 1) rest ys → EachFromTo R first xs (y ∷ ys)
each_joined R first xs x y rest ys is one others = subst (λ l. EachFromTo R first l (y ∷ ys)) (sym is) (joined R first x y rest ys one others)
