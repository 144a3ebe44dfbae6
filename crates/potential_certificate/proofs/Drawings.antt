-- Parts that workers draw, and what was read of them.
use Rattle.std.proofs.Common.{◌≡◌, All, Bor, ℕ, zero, suc, ◌+◌, ◌<◌, List, [], ◌∷◌, ◌++◌, length, take, set, arith}
use Rattle.std.specs.Prelude.{slice_index_or}
use Rattle.std.specs.List.{AllZip}
use Rattle.std.proofs.lemmas.List.Elements.{All-head, All-tail}
use Rattle.potential_certificate.specs.inside.Gathering.{AreEachReadOf, IsPlacedIn, IsReadOf, put_at_places}
use Rattle.potential_certificate.specs.declared.drawing.PlacedRead.{PlacedRead}
use Rattle.potential_certificate.specs.declared.parts.PartRead.{PartRead}

zip_next : {A B : Type 0} (R : A → B → Type 0) (xs : List A) (ys : List B) (k : ℕ) (y : B) → k < length xs → AllZip R (take k xs) ys → ((d : A) → R (slice_index_or xs k d) y) → AllZip R (take (suc k) xs) (ys ++ y ∷ [])
zip_next R [] ys k y low all one = absurd (omega arith)
zip_next R (x ∷ xs) [] zero y low all one = (one x, tt)
zip_next R (x ∷ xs) (z ∷ ys) zero y low all one = absurd all
zip_next R (x ∷ xs) [] (suc k) y low all one = absurd all
zip_next R (x ∷ xs) (z ∷ ys) (suc k) y low all one = (all.0, zip_next R xs ys k y (omega arith) all.1 (λ d. one d))

-- one more pair behind those before it
pub zip_more : {A B : Type 0} (R : A → B → Type 0) (xs : List A) (ys : List B) (k : ℕ) (y : B) → k < length xs → AllZip R (take k xs) ys → ((d : A) → R (slice_index_or xs k d) y) → AllZip R (take (k + 1) xs) (ys ++ y ∷ [])
zip_more R xs ys k y low all one = let next : k + 1 ≡ suc k = omega arith in rw next (zip_next R xs ys k y low all one)

-- another second item in a pair
zip_set : {A B : Type 0} (R : A → B → Type 0) (xs : List A) (ys : List B) (k : ℕ) (y : B) → AllZip R xs ys → ((d : A) → R (slice_index_or xs k d) y) → AllZip R xs (set ys k y)
zip_set R [] [] k y all one = tt
zip_set R [] (z ∷ ys) k y all one = absurd all
zip_set R (x ∷ xs) [] k y all one = absurd all
zip_set R (x ∷ xs) (z ∷ ys) zero y all one = (one x, all.1)
zip_set R (x ∷ xs) (z ∷ ys) (suc k) y all one = (all.0, zip_set R xs ys k y all.1 (λ d. one d))

-- reads of parts, put at their places among reads of all parts
pub put_each : (parts : List (Bor (List ℕ))) (reads : List PartRead) (done : List PlacedRead) → All (IsPlacedIn parts) done → AreEachReadOf parts reads → AreEachReadOf parts (put_at_places reads done)
put_each parts reads [] all each = each
put_each parts reads (placed ∷ done) all each =
    let here = All-head (IsPlacedIn parts) placed done all in
    put_each parts (set reads placed.place placed.read) done (All-tail (IsPlacedIn parts) placed done all)
    (zip_set (λ part read. IsReadOf part.now read) parts reads placed.place placed.read each here.1)
