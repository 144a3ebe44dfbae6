-- Masks while they are written, from the last one back.
use Rattle.std.proofs.Common.{◌≡◌, ◌≢◌, ℕ, zero, suc, ◌+◌, ◌-◌, ◌<◌, ◌≤◌, true, false, ltb, List, [], ◌∷◌, ◌++◌, refl, sym, ap, ◌∙◌, subst, arith, length, get_or, set, ⊎_elim, get_or-set_same, get_or-set_other, if◌then◌else◌}
use Rattle.std.proofs.lemmas.Bool.Decides.{nat_tests}
use Rattle.std.proofs.lemmas.List.{length_push}
use Rattle.online_commit.specs.inside.Masks.{mask_after, mask_at, mask_written}
use Rattle.matching.specs.declared.parts.Cell.{Cell}
use Rattle.matching.specs.declared.parts.Layer.{Layer}
use Rattle.online_commit.specs.inside.Pieces.{IsAppended, Piece}
use Rattle.online_commit.proofs.Bits.{same-or-not}

-- the first k were written
abbrev part_written : List ℕ → List ℕ → ℕ → ℕ → ℕ
part_written old changed k i = if ltb (length old - 1 - i) k then get_or changed (length old - 1 - i) 0 else get_or old i 0

pub record AreWritten (old changed : List ℕ) (k : ℕ) (masks : List ℕ) : Type 0 where
  pub count : length masks ≡ length old
  pub each : (i : ℕ) → i < length old → get_or masks i 0 ≡ part_written old changed k i

pub written-begin : (old changed : List ℕ) → AreWritten old changed 0 old
written-begin old changed = record {
  count = refl;
  each = λ i lt. let e : ltb (length old - 1 - i) 0 ≡ false = grind (arith, nat_tests) in rw e refl;
}

written-here : (old changed masks : List ℕ) (k i p : ℕ) → length masks ≡ length old → k < length changed → length changed ≤ length old → p ≡ length old - 1 - k → i ≡ p
    → get_or (set masks p (get_or changed k 0)) i 0 ≡ part_written old changed (k + 1) i
written-here old changed masks k i p count lt le at is =
    let inside : p < length masks = omega (arith, count, lt, le, at) in
    let back : length old - 1 - i ≡ k = omega (arith, is, at, lt, le) in
    let e : ltb (length old - 1 - i) (k + 1) ≡ true = grind (arith, nat_tests) in
    ap (λ j. get_or (set masks p (get_or changed k 0)) j 0) is ∙ get_or-set_same masks p (get_or changed k 0) 0 inside ∙ rw e (ap (λ j. get_or changed j 0) (sym back))

written-other : (old changed masks : List ℕ) (k i p : ℕ) → AreWritten old changed k masks → i < length old → k < length changed → length changed ≤ length old → p ≡ length old - 1 - k → i ≢ p
    → get_or (set masks p (get_or changed k 0)) i 0 ≡ part_written old changed (k + 1) i
written-other old changed masks k i p h inside lt le at ne =
    let same : ltb (length old - 1 - i) (k + 1) ≡ ltb (length old - 1 - i) k = grind (arith, nat_tests) in
    rw get_or-set_other (h.each i inside ∙ rw same refl)

pub written-more : (old changed masks : List ℕ) (k p : ℕ) → AreWritten old changed k masks → k < length changed → length changed ≤ length old → p ≡ length old - 1 - k
    → length (set masks p (get_or changed k 0)) ≡ length masks → AreWritten old changed (k + 1) (set masks p (get_or changed k 0))
written-more old changed masks k p h lt le at same = record {
  count = same ∙ h.count;
  each = λ i inside. ⊎_elim (λ e. written-here old changed masks k i p h.count lt le at e) (λ ne. written-other old changed masks k i p h inside lt le at ne) (same-or-not i p);
}

pub written-done : (old changed masks : List ℕ) (k : ℕ) → k ≡ length changed → AreWritten old changed k masks → (i : ℕ) → i < length old → mask_at masks i ≡ mask_written old changed i
written-done old changed masks k e h i lt = h.each i lt ∙ ap (λ m. part_written old changed m i) e

read-padded : (old : List ℕ) (i : ℕ) → get_or (old ++ 0 ∷ []) i 0 ≡ get_or old i 0
read-padded [] zero = refl
read-padded [] (suc i) = refl
read-padded (x ∷ old) zero = refl
read-padded (x ∷ old) (suc i) = read-padded old i

-- with a place for the last point
pub written-after : (old changed : List ℕ) (i : ℕ) → i ≤ length old → mask_written (old ++ 0 ∷ []) changed i ≡ mask_after old changed i
written-after old changed i le =
    let len : length (old ++ 0 ∷ []) - 1 - i ≡ length old - i = omega (arith, length_push old 0) in
    ap (λ k. if ltb k (length changed) then get_or changed k 0 else get_or (old ++ 0 ∷ []) i 0) len
    ∙ ap (λ x. if ltb (length old - i) (length changed) then get_or changed (length old - i) 0 else x) (read-padded old i)

-- the point was appended to the piece
pub appended-made : (old : Piece) (l : Layer) (cells : List Cell) (changed lent new : List ℕ) (layers : List Layer) (tables : List (List Cell)) → layers ≡ old.layers ++ l ∷ [] → tables ≡ old.tables ++ cells ∷ []
    → lent ≡ old.masks ++ 0 ∷ [] → length new ≡ length lent → ((i : ℕ) → i < length lent → mask_at new i ≡ mask_written lent changed i)
    → IsAppended old l cells changed (record { first = old.first; told = old.told; layers = layers; tables = tables; masks = new })
appended-made old l cells changed lent new layers tables layers_are tables-are lent-is same written =
    let len : length lent ≡ length old.masks + 1 = ap length lent-is ∙ length_push old.masks 0 in
    record {
      first = refl;
      layers = layers_are;
      tables = tables-are;
      count = same ∙ len;
      masks = λ i le. subst (λ ms. mask_at new i ≡ mask_written ms changed i) lent-is (written i (omega (arith, le, len))) ∙ written-after old.masks changed i le;
    }
