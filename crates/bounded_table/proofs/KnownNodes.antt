-- Places, one for each node, with nothing or a row, and the nodes that are known by them.
use Rattle.std.proofs.Common.{◌≡◌, ◌≢◌, ◌⊎◌, ◌↔◌, inl, inr, ℕ, zero, suc, ◌+◌, ◌<◌, ◌≤◌, List, [], ◌∷◌, ◌++◌, length, get_or, set, Option, Some, None, Contains, is_some, false, true, true≢false, refl, sym, ap, ◌∙◌, subst, arith}
use Rattle.std.specs.Prelude.{slice_get}
use Rattle.std.proofs.lemmas.Bool.{cases_eq}
use Rattle.bounded_table.specs.Known.{Adds, Rises, known_from, known_nodes}
use Rattle.bounded_table.specs.Table.{TableRow}

pub get_at : {A : Type 0} (l : List A) (i : ℕ) (x : A) → i < length l → x ≡ get_or l i x → slice_get l i ≡ Some x
get_at [] i x lt e = absurd (omega arith)
get_at (y ∷ l) zero x lt e = ap Some (sym e)
get_at (y ∷ l) (suc i) x lt e = get_at l i x (omega arith) e

pub inside : {A : Type 0} (l : List A) (i : ℕ) (x : A) → slice_get l i ≡ Some x → i < length l
inside [] i x e = absurd (cc)
inside (y ∷ l) zero x e = omega arith
inside (y ∷ l) (suc i) x e = omega (arith, inside l i x e)

pub get_set : {A : Type 0} (l : List A) (i : ℕ) (x : A) → i < length l → slice_get (set l i x) i ≡ Some x
get_set [] i x lt = absurd (omega arith)
get_set (y ∷ l) zero x lt = refl
get_set (y ∷ l) (suc i) x lt = get_set l i x (omega arith)

pub get_set_else : {A : Type 0} (l : List A) (i j : ℕ) (x : A) → j ≢ i → slice_get (set l i x) j ≡ slice_get l j
get_set_else [] i j x apart = refl
get_set_else (y ∷ l) zero zero x apart = absurd (apart refl)
get_set_else (y ∷ l) zero (suc j) x apart = refl
get_set_else (y ∷ l) (suc i) zero x apart = refl
get_set_else (y ∷ l) (suc i) (suc j) x apart = get_set_else l i j x (λ e. apart (ap suc e))

pub in_head : (x m : ℕ) (xs : List ℕ) → x ≡ m → Contains (x ∷ xs) m
in_head x m xs e = (0, omega arith, e)

pub in_tail : (x m : ℕ) (xs : List ℕ) → Contains xs m → Contains (x ∷ xs) m
in_tail x m xs c = (suc c.0, (let lt = c.1 in omega arith), c.2)

pub head_or_tail : (x m : ℕ) (xs : List ℕ) → Contains (x ∷ xs) m → (x ≡ m) ⊎ Contains xs m
head_or_tail x m xs (zero, lt, e) = inl e
head_or_tail x m xs (suc k, lt, e) = inr (k, omega arith, e)

known_at : (i : ℕ) (places : List (Option TableRow)) (k m : ℕ) (row : TableRow) → m ≡ i + k → slice_get places k ≡ Some (Some row) → Contains (known_from i places) m
known_at i [] k m row at e = absurd (cc)
known_at i (None ∷ places) zero m row at e = absurd (cc)
known_at i (None ∷ places) (suc k) m row at e = known_at (suc i) places k m row (omega arith) e
known_at i (Some x ∷ places) zero m row at e = in_head i m (known_from (suc i) places) (omega arith)
known_at i (Some x ∷ places) (suc k) m row at e = in_tail i m (known_from (suc i) places) (known_at (suc i) places k m row (omega arith) e)

-- the place of a known node has a row
record HasRow (i : ℕ) (places : List (Option TableRow)) (m : ℕ) : Type 0 where
  place : ℕ
  row : TableRow
  at : m ≡ i + place
  holds : slice_get places place ≡ Some (Some row)

place_of : (i : ℕ) (places : List (Option TableRow)) (m : ℕ) → Contains (known_from i places) m → HasRow i places m
place_of i [] m c = absurd (let lt = c.1 in omega arith)
place_of i (None ∷ places) m c =
    let t : HasRow (suc i) places m = place_of (suc i) places m c in
    record { place = suc t.place; row = t.row; at = omega (arith, t.at); holds = t.holds }
place_of i (Some x ∷ places) m c =
    elim (head_or_tail i m (known_from (suc i) places) c) [
      | inl e ↦ record { place = 0; row = x; at = omega arith; holds = refl }
      | inr d ↦
          let t : HasRow (suc i) places m = place_of (suc i) places m d in
          record { place = suc t.place; row = t.row; at = omega (arith, t.at); holds = t.holds }
    ]

-- a node is known exactly where its place has a row
pub knows : (places : List (Option TableRow)) (m : ℕ) (row : TableRow) → slice_get places m ≡ Some (Some row) → Contains (known_nodes places) m
knows places m row e = known_at 0 places m m row (omega arith) e

pub known_row : (places : List (Option TableRow)) (m : ℕ) → Contains (known_nodes places) m → (row : TableRow) × (slice_get places m ≡ Some (Some row))
known_row places m c = let t : HasRow 0 places m = place_of 0 places m c in (t.row, subst (λ (k : ℕ). slice_get places k ≡ Some (Some t.row)) (let e : t.place ≡ m = omega (arith, t.at) in e) t.holds)

-- the node whose place has this is known where it is a row
pub knows_by : (places : List (Option TableRow)) (m : ℕ) (o : Option TableRow) → slice_get places m ≡ Some o → (is_some o ≡ true) ↔ Contains (known_nodes places) m
knows_by places m None e = (λ is. absurd (true≢false (sym is)), λ c. let r = known_row places m c in absurd (let h : Some None ≡ Some (Some r.0) = sym e ∙ r.1 in cc))
knows_by places m (Some row) e = (λ is. knows places m row e, λ c. refl)

-- where no place has a row, nothing is known
-- no row is there, and none is added
pub none_more : (places : List (Option TableRow)) → ((k : ℕ) (row : TableRow) → slice_get places k ≡ Some (Some row) → ⊥)
    → (k : ℕ) (row : TableRow) → slice_get (places ++ None ∷ []) k ≡ Some (Some row) → ⊥
none_more [] none zero row e = absurd cc
none_more [] none (suc k) row e = absurd cc
none_more (place ∷ places) none zero row e = none zero row e
none_more (place ∷ places) none (suc k) row e = none_more places (λ j. none (suc j)) k row e

pub known_none : (i : ℕ) (places : List (Option TableRow)) → ((k : ℕ) (row : TableRow) → slice_get places k ≡ Some (Some row) → ⊥) → known_from i places ≡ []
known_none i [] none = refl
known_none i (None ∷ places) none = known_none (suc i) places (λ k. none (suc k))
known_none i (Some row ∷ places) none = absurd (none 0 row refl)

-- a known node adds nothing
pub adds_known : (known : List ℕ) (n : ℕ) → Contains known n → Adds known n known
adds_known known n c m = (λ h. inr h, λ h. elim h [ inl e ↦ rw e c | inr d ↦ d ])

-- with one more row its node is known too
pub adds : (places : List (Option TableRow)) (n : ℕ) (row : TableRow) → n < length places → Adds (known_nodes places) n (known_nodes (set places n (Some row)))
adds places n row lt m = (
  λ c. elim (cases_eq m n) [
    | inl e ↦ inl e
    | inr apart ↦ let r = known_row (set places n (Some row)) m c in inr (knows places m r.0 (sym (get_set_else places n m (Some row) apart) ∙ r.1))
  ],
  λ h. elim (cases_eq m n) [
    | inl e ↦ knows (set places n (Some row)) m row (rw e (get_set places n (Some row) lt))
    | inr apart ↦ elim h [
      | inl e ↦ absurd (apart e)
      | inr c ↦ let r = known_row places m c in knows (set places n (Some row)) m r.0 (get_set_else places n m (Some row) apart ∙ r.1)
    ]
  ],
)

pub one_more : (i : ℕ) (places : List (Option TableRow)) (n : ℕ) (row : TableRow) → slice_get places n ≡ Some None → length (known_from i (set places n (Some row))) ≡ length (known_from i places) + 1
one_more i [] n row e = absurd (cc)
one_more i (None ∷ places) zero row e = omega arith
one_more i (Some x ∷ places) zero row e = absurd (cc)
one_more i (None ∷ places) (suc n) row e = one_more (suc i) places n row e
one_more i (Some x ∷ places) (suc n) row e = omega (arith, one_more (suc i) places n row e)

pub no_more_known : (i : ℕ) (places : List (Option TableRow)) → length (known_from i places) ≤ length places
no_more_known i [] = omega arith
no_more_known i (None ∷ places) = omega (arith, no_more_known (suc i) places)
no_more_known i (Some x ∷ places) = omega (arith, no_more_known (suc i) places)

pub none_from : {A : Type 0} (o : Option A) → is_some o ≡ false → o ≡ None
none_from None h = refl
none_from (Some x) h = cc

pub rises_from_below : (b c : ℕ) (xs : List ℕ) → b ≤ c → Rises c xs → Rises b xs
rises_from_below b c [] le rising = rising
rises_from_below b c (x ∷ xs) le rising = (let at = rising.0 in omega arith, rising.1)

-- the known nodes rise
pub known_rises : (i : ℕ) (places : List (Option TableRow)) → Rises i (known_from i places)
known_rises i [] = tt
known_rises i (None ∷ places) = rises_from_below i (suc i) (known_from (suc i) places) (omega arith) (known_rises (suc i) places)
known_rises i (Some row ∷ places) = (omega arith, let next : i + 1 ≡ suc i = omega arith in subst (λ (b : ℕ). Rises b (known_from (suc i) places)) (sym next) (known_rises (suc i) places))

-- and are places
pub known_inside : (places : List (Option TableRow)) (m : ℕ) → Contains (known_nodes places) m → m < length places
known_inside places m c = let r = known_row places m c in inside places m (Some r.0) r.1
