-- Lists that a loop takes item by item.
use Rattle.std.proofs.Common.{◌≡◌, ℕ, suc, ◌<◌, List, [], ◌∷◌, ◌++◌, map, length, refl, sym, ap, ◌∙◌, subst, append_assoc, append-nil, arith}
use Rattle.std.specs.List.{AllZip}
use Rattle.std.specs.Prelude.{slice_index_or}

pub goes_on : {X : Type 0} (yielded left rest all : List X) (x : X) → yielded ++ left ≡ all → left ≡ x ∷ rest → (yielded ++ x ∷ []) ++ rest ≡ all
goes_on yielded left rest all x whole step = append_assoc yielded (x ∷ []) rest ∙ subst (λ l. yielded ++ l ≡ all) step whole

nothing_left : {X : Type 0} (l : List X) → length l ≡ 0 → l ≡ []
nothing_left [] h = refl
nothing_left (x ∷ xs) h = absurd (omega arith)

pub ends : {X : Type 0} (yielded left all : List X) → yielded ++ left ≡ all → length left ≡ 0 → yielded ≡ all
ends yielded left all whole none = sym (append-nil yielded) ∙ subst (λ l. yielded ++ l ≡ all) (nothing_left left none) whole

-- the last of a list of values by a function
pub last_by : {A B : Type 0} (f : A → B) (xs : List B) (x : B) (ns : List A) → xs ++ x ∷ [] ≡ map f ns → (ms : List A) × (n : A) × (ns ≡ ms ++ n ∷ []) × (xs ≡ map f ms) × (x ≡ f n)
last_by f [] x [] e = absurd (cc)
last_by f [] x (n ∷ []) e = ([], n, refl, refl, (let same : x ≡ f n = cc in same))
last_by f [] x (n ∷ m ∷ ns) e = absurd (let p = ap length e in omega arith)
last_by f (y ∷ ys) x [] e = absurd (cc)
last_by f (y ∷ ys) x (n ∷ ns) e =
    let head : y ≡ f n = cc in
    let tail : ys ++ x ∷ [] ≡ map f ns = cc in
    let r = last_by f ys x ns tail in
    (n ∷ r.0, r.1, ap (λ l. n ∷ l) r.2, (λ i. head i ∷ r.3 i), r.4)

-- two lists whose items are related place by place
pub zip_from : {X : Type 0} (R : X → X → Type 0) (xs ys : List X) → length ys ≡ length xs → ((i : ℕ) (d : X) → i < length xs → R (slice_index_or xs i d) (slice_index_or ys i d)) → AllZip R xs ys
zip_from R [] [] same each = tt
zip_from R [] (y ∷ ys) same each = absurd (omega arith)
zip_from R (x ∷ xs) [] same each = absurd (omega arith)
zip_from R (x ∷ xs) (y ∷ ys) same each = (each 0 x (omega arith), zip_from R xs ys (omega arith) (λ i d low. each (suc i) d (omega arith)))

-- the item that is taken next stands behind those that were taken
pub next_at : {X : Type 0} (yielded left rest all : List X) (x : X) → yielded ++ left ≡ all → left ≡ x ∷ rest → (length yielded < length all) × ((d : X) → slice_index_or all (length yielded) d ≡ x)
next_at [] left rest all x whole step =
    let e : x ∷ rest ≡ all = sym step ∙ whole in
    (subst (λ l. 0 < length l) e (omega arith), λ d. ap (λ l. slice_index_or l 0 d) (sym e))
next_at (y ∷ ys) left rest [] x whole step = absurd (cc)
next_at (y ∷ ys) left rest (z ∷ zs) x whole step =
    let tail : ys ++ left ≡ zs = cc in
    let r = next_at ys left rest zs x tail step in
    ((let lt = r.0 in omega arith), λ d. r.1 d)
