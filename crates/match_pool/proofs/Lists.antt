-- Lists of pairs, and lists of values by a function.
use Rattle.std.proofs.Common.{◌≡◌, ℕ, zero, suc, ◌<◌, List, [], ◌∷◌, ◌++◌, map, length, All, Any, OnOk, IsOk, Result, Ok, Err, true≢false, refl, sym, subst, arith}
use Rattle.std.specs.List.{AllZip}
use Rattle.std.specs.Prelude.{slice_index_or}
use Rattle.std.proofs.lemmas.List.{get_or-map, length-map}

pub default_same : {X : Type 0} (l : List X) (k : ℕ) (d e : X) → k < length l → slice_index_or l k d ≡ slice_index_or l k e
default_same [] k d e lt = absurd (omega arith)
default_same (y ∷ l) zero d e lt = refl
default_same (y ∷ l) (suc k) d e lt = default_same l k d e (omega arith)

pub zip_at : {A B : Type 0} (R : A → B → Type 0) (xs : List A) (ys : List B) → length ys ≡ length xs → ((i : ℕ) (d : A) (e : B) → i < length xs → R (slice_index_or xs i d) (slice_index_or ys i e)) → AllZip R xs ys
zip_at R [] [] same each = tt
zip_at R [] (y ∷ ys) same each = absurd (omega arith)
zip_at R (x ∷ xs) [] same each = absurd (omega arith)
zip_at R (x ∷ xs) (y ∷ ys) same each = (each 0 x y (omega arith), zip_at R xs ys (omega arith) (λ i d e low. each (suc i) d e (omega arith)))

pub zip_push : {A B : Type 0} (R : A → B → Type 0) (xs : List A) (ys : List B) (x : A) (y : B) → AllZip R xs ys → R x y → AllZip R (xs ++ x ∷ []) (ys ++ y ∷ [])
zip_push R [] [] x y all one = (one, tt)
zip_push R [] (b ∷ ys) x y all one = absurd all
zip_push R (a ∷ xs) [] x y all one = absurd all
zip_push R (a ∷ xs) (b ∷ ys) x y all one = (all.0, zip_push R xs ys x y all.1 one)

pub zip_long : {A B : Type 0} (R : A → B → Type 0) (xs : List A) (ys : List B) → AllZip R xs ys → length ys ≡ length xs
zip_long R [] [] all = refl
zip_long R [] (y ∷ ys) all = absurd all
zip_long R (x ∷ xs) [] all = absurd all
zip_long R (x ∷ xs) (y ∷ ys) all = let rest = zip_long R xs ys all.1 in omega arith

pub zip_get : {A B : Type 0} (R : A → B → Type 0) (xs : List A) (ys : List B) (i : ℕ) (d : A) (e : B) → AllZip R xs ys → i < length xs → R (slice_index_or xs i d) (slice_index_or ys i e)
zip_get R [] ys i d e all low = absurd (omega arith)
zip_get R (x ∷ xs) [] i d e all low = absurd all
zip_get R (x ∷ xs) (y ∷ ys) zero d e all low = all.0
zip_get R (x ∷ xs) (y ∷ ys) (suc i) d e all low = zip_get R xs ys i d e all.1 (omega arith)

pub all_of_map : {A B : Type 0} (P : B → Type 0) (f : A → B) (xs : List A) → All P (map f xs) → All (λ x. P (f x)) xs
all_of_map P f xs all k d low = subst P (get_or-map f xs k d (f d) low) (all k (f d) (let same = length-map xs f in omega arith))

pub any_of_map : {A B : Type 0} (P : B → Type 0) (f : A → B) (xs : List A) → Any P (map f xs) → Any (λ x. P (f x)) xs
any_of_map P f [] (k, y, lt, e, p) = absurd (omega arith)
any_of_map P f (x ∷ xs) (zero, y, lt, e, p) = (0, x, omega arith, refl, subst P (sym e) p)
any_of_map P f (x ∷ xs) (suc k, y, lt, e, p) = let r = any_of_map P f xs (k, y, omega arith, e, p) in (suc r.0, r.1, (let l = r.2 in omega arith), r.3, r.4)

pub of_ok : {A E P : Type 0} (r : Result A E) → IsOk r → OnOk r P → P
of_ok (Ok x) ok h = h
of_ok (Err e) ok h = absurd (true≢false (sym ok))
