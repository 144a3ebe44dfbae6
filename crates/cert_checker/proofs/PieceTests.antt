-- What the tests of the pieces of a proof tell.
use Rattle.std.proofs.Common.{◌≡◌, ◌<◌, ◌≤◌, ℕ, zero, suc, ◌+◌, ◌==◌, ◌&&◌, leb, ltb, List, [], ◌∷◌, length, get_or, refl, arith, ⊎_elim}
use Rattle.std.specs.Bool.{Decides}
use Rattle.std.proofs.lemmas.Bool.{cases_order}
use Rattle.std.proofs.lemmas.Bool.Decides.{Decides-and, Decides-eqb, Decides-ltb}
use Rattle.match_text.specs.declared.matched.Routed.{Routed}
use Rattle.cert_checker.specs.Pieces.{begins, goes_on, is_in, is_in_any, rise_from}
use Rattle.cert_checker.proofs.ListTests.{at_most, some_element}

abbrev pub no_piece : Routed
no_piece = record { first = 0; last = 0; cost = 0; route = [] }

-- piece number k
abbrev pub piece_no : List Routed → ℕ → Routed
piece_no pieces k = get_or pieces k no_piece

abbrev pub IsIn : ℕ → Routed → Type 0
IsIn i q = (q.first ≤ i) × (i ≤ q.last)

pub inside : (i : ℕ) (q : Routed) → Decides (is_in i q) (IsIn i q)
inside i q = Decides-and (leb q.first i) (leb i q.last) (at_most q.first i) (at_most i q.last)

pub in_any : (pieces : List Routed) (i : ℕ) → Decides (is_in_any pieces i) ((k : ℕ) × (k < length pieces) × IsIn i (piece_no pieces k))
in_any pieces i = some_element (IsIn i) (is_in i) no_piece pieces (inside i)

abbrev pub IsFirst : ℕ → Routed → Type 0
IsFirst i q = IsIn i q × (q.first ≡ i)

pub begun : (pieces : List Routed) (i : ℕ) → Decides (begins pieces i) ((k : ℕ) × (k < length pieces) × IsFirst i (piece_no pieces k))
begun pieces i =
    some_element (IsFirst i) (λ q. is_in i q && (q.first == i)) no_piece pieces
    (λ q. Decides-and (is_in i q) (q.first == i) (inside i q) (Decides-eqb q.first i))

abbrev pub IsLater : ℕ → Routed → Type 0
IsLater i q = IsIn i q × (q.first < i)

pub gone_on : (pieces : List Routed) (i : ℕ) → Decides (goes_on pieces i) ((k : ℕ) × (k < length pieces) × IsLater i (piece_no pieces k))
gone_on pieces i =
    some_element (IsLater i) (λ q. is_in i q && ltb q.first i) no_piece pieces
    (λ q. Decides-and (is_in i q) (ltb q.first i) (inside i q) (Decides-ltb q.first i))

-- no piece ends before it begins, and each begins after the one before it ends, from point n on
abbrev pub RisesFrom : ℕ → List Routed → Type 0
RisesFrom n [] = Unit {0}
RisesFrom n (q ∷ pieces) = (n ≤ q.first) × ((q.first ≤ q.last) × RisesFrom (q.last + 1) pieces)

pub rises : (n : ℕ) (pieces : List Routed) → Decides (rise_from n pieces) (RisesFrom n pieces)
rises n [] = (λ e. tt, λ f. refl)
rises n (q ∷ pieces) =
    Decides-and (leb n q.first) (leb q.first q.last && rise_from (q.last + 1) pieces) (at_most n q.first)
    (Decides-and (leb q.first q.last) (rise_from (q.last + 1) pieces) (at_most q.first q.last) (rises (q.last + 1) pieces))

pub piece_filled : (n : ℕ) (pieces : List Routed) (k : ℕ) → RisesFrom n pieces → k < length pieces → (piece_no pieces k).first ≤ (piece_no pieces k).last
piece_filled n [] k h lt = absurd (omega (arith, lt))
piece_filled n (q ∷ pieces) zero h lt = h.1.0
piece_filled n (q ∷ pieces) (suc k) h lt = piece_filled (q.last + 1) pieces k h.1.1 (omega (arith, lt))

pub piece_from : (n : ℕ) (pieces : List Routed) (k : ℕ) → RisesFrom n pieces → k < length pieces → n ≤ (piece_no pieces k).first
piece_from n [] k h lt = absurd (omega (arith, lt))
piece_from n (q ∷ pieces) zero h lt = h.0
piece_from n (q ∷ pieces) (suc k) h lt =
    let later = piece_from (q.last + 1) pieces k h.1.1 (omega (arith, lt)) in
    let here = h.0 in
    let some = h.1.0 in
    omega (arith, later, here, some)

pub piece_after : (n : ℕ) (pieces : List Routed) (j k : ℕ) → RisesFrom n pieces → j < k → k < length pieces → (piece_no pieces j).last < (piece_no pieces k).first
piece_after n [] j k h lt below = absurd (omega (arith, below))
piece_after n (q ∷ pieces) j zero h lt below = absurd (omega (arith, lt))
piece_after n (q ∷ pieces) zero (suc k) h lt below = let later = piece_from (q.last + 1) pieces k h.1.1 (omega (arith, below)) in omega (arith, later)
piece_after n (q ∷ pieces) (suc j) (suc k) h lt below = piece_after (q.last + 1) pieces j k h.1.1 (omega (arith, lt)) (omega (arith, below))

-- a point is in one piece
pub one_piece : (n : ℕ) (pieces : List Routed) (i j k : ℕ) → RisesFrom n pieces → j < length pieces → k < length pieces
    → IsIn i (piece_no pieces j) → IsIn i (piece_no pieces k) → j ≡ k
one_piece n pieces i j k h j_in k_in at_j at_k =
    let j_low = at_j.0 in
    let j_high = at_j.1 in
    let k_low = at_k.0 in
    let k_high = at_k.1 in
    ⊎_elim (λ e. e)
    (λ others. ⊎_elim
    (λ lt. let apart = piece_after n pieces j k h lt k_in in absurd (omega (arith, apart, j_high, k_low)))
    (λ gt. let apart = piece_after n pieces k j h gt j_in in absurd (omega (arith, apart, k_high, j_low)))
    others)
    (cases_order j k)
