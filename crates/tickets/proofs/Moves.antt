-- Each step keeps the rule.
use Rattle.std.proofs.Common.{◌≡◌, ◌≢◌, ℕ, zero, suc, ◌+◌, ◌-◌, ◌%◌, ◌^◌, ◌<◌, ◌≤◌, cond, ltb, eqb, sum_by, All, Any, List, [], ◌∷◌, ◌++◌, length, get_or, set, slice_index, refl, sym, ap, ◌∙◌, subst, ⊎_elim, arith, le-ltb, lt-ltb, eq-eqb, ne_eqb, length-set, length-append, mod-eq_of_lt}
use Rattle.std.proofs.lemmas.List.Sums.{sum_by-cons, sum_by-append, sum_by_push, sum_by-set, get_or-le-sum_by}
use native.Mathlib.Decide.{dec_lt}
use mathlib.Core.Logic.{dite}
use mathlib.Core.Option.{some, some-ne-none, some-injective}
use lib.ListN.{get_elem?}
use Rattle.atomic_table.specs.Table.{Splits, Joins, State}
use Rattle.atomic_table.proofs.Lists.{at_set, at_snoc, set_else}
use Rattle.tickets.specs.declared.rule.Hand.{Hand}
use Rattle.tickets.specs.Tickets.{times, late, weigh_below, hand, IsHeldView, Dealt, DrawnOnce, drew, taken_in}

-- lists

at_get : (l : List Hand) (i : ℕ) (a : Hand) → get_elem? l i ≡ some a → (i < length l) × (get_or l i a ≡ a)
at_get [] i a e = absurd (some-ne-none a (sym e))
at_get (x ∷ xs) zero a e = (omega arith, some-injective x a e)
at_get (x ∷ xs) (suc i) a e = let r = at_get xs i a e in (let p = r.0 in omega arith, r.1)

sum_set : (f : Hand → ℕ) (views : List Hand) (i : ℕ) (v w : Hand) → get_elem? views i ≡ some v → sum_by f (set views i w) + f v ≡ sum_by f views + f w
sum_set f views i v w e = let r = at_get views i v e in subst (λ (u : Hand). sum_by f (set views i w) + f u ≡ sum_by f views + f w) r.1 (sum_by-set f views i w v r.0)

all_set : (F : Hand → Type 0) (views : List Hand) (i : ℕ) (w : Hand) → F w → ((j : ℕ) (u : Hand) → get_elem? views j ≡ some u → F u) → (j : ℕ) (u : Hand) → get_elem? (set views i w) j ≡ some u → F u
all_set F views i w mine others j u e = ⊎_elim (λ (x : (j ≡ i) × (w ≡ u)). subst F x.1 mine) (λ (x : (j ≢ i) × (get_elem? views j ≡ some u)). others j u x.1) (at_set views i j w u e)

all_push : (F : Hand → Type 0) (views : List Hand) (w : Hand) → F w → ((j : ℕ) (u : Hand) → get_elem? views j ≡ some u → F u) → (j : ℕ) (u : Hand) → get_elem? (views ++ w ∷ []) j ≡ some u → F u
all_push F views w mine others j u e = ⊎_elim (λ (x : get_elem? views j ≡ some u). others j u x) (λ (x : w ≡ u). subst F x mine) (at_snoc views w u j e)

set_first : (words : List ℕ) (x : ℕ) → length words ≡ 1 → slice_index (set words 0 x) 0 ≡ x
set_first [] x e = absurd (omega arith)
set_first (w ∷ ws) x e = refl

-- weights

abbrev late_one : ℕ → ℕ → ℕ
late_one n x = cond (ltb x n) 0 1

late_at : (n x : ℕ) → n ≤ x → late_one n x ≡ 1
late_at n x h = ap (λ b. cond b 0 1) (le-ltb x n h)

early_at : (n x : ℕ) → x < n → late_one n x ≡ 0
early_at n x h = ap (λ b. cond b 0 1) (lt-ltb x n h)

-- as many of the numbers below the word are n or more as the word is above n
late_below : (n word : ℕ) → word ≤ n + weigh_below (late_one n) word
late_below n zero = omega arith
late_below n (suc w) = dite (dec_lt w n) (λ (h : w < n). omega arith) (λ h. let e = late_at n w (omega arith) in let i = late_below n w in omega arith)

none_late_below : (n word : ℕ) → word ≤ n → weigh_below (late_one n) word ≡ 0
none_late_below n zero h = refl
none_late_below n (suc w) h = let e = early_at n w (omega arith) in let i = none_late_below n w (omega arith) in omega arith

none_late : (n : ℕ) (xs : List ℕ) → All (λ x. x < n) xs → late n xs ≡ 0
none_late n [] all = refl
none_late n (x ∷ xs) all = let e = early_at n x (all 0 x (omega arith)) in let i = none_late n xs (λ k d h. all (suc k) d (omega arith)) in sum_by-cons (late_one n) x xs ∙ omega arith

pub some_late : (n : ℕ) (xs : List ℕ) → Any (λ x. n ≤ x) xs → 1 ≤ late n xs
some_late n [] any = absurd (let h = any.2 in omega arith)
some_late n (x ∷ xs) (zero, y, h, e, p) = let l = late_at n x (subst (λ (z : ℕ). n ≤ z) (sym e) p) in let c = sum_by-cons (late_one n) x xs in omega arith
some_late n (x ∷ xs) (suc k, y, h, e, p) = let i = some_late n xs (k, y, omega arith, e, p) in let c = sum_by-cons (late_one n) x xs in omega arith

abbrev one_if : ℕ → ℕ → ℕ
one_if x y = cond (eqb y x) 1 0

same_at : (x y : ℕ) → y ≡ x → one_if x y ≡ 1
same_at x y h = ap (λ b. cond b 1 0) (eq-eqb y x h)

other_at : (x y : ℕ) → y ≢ x → one_if x y ≡ 0
other_at x y h = ap (λ b. cond b 1 0) (ne_eqb y x h)

not_yet : (x word : ℕ) → word ≤ x → weigh_below (one_if x) word ≡ 0
not_yet x zero h = refl
not_yet x (suc w) h = let e = other_at x w (λ e. omega arith) in let i = not_yet x w (omega arith) in omega arith

-- each number below the word stands there once
once_below : (x word : ℕ) → x < word → weigh_below (one_if x) word ≡ 1
once_below x zero h = absurd (omega arith)
once_below x (suc w) h = dite (dec_lt x w)
    (λ (l : x < w). let e = other_at x w (λ e. omega arith) in let i = once_below x w l in omega arith)
    (λ l. let e = same_at x w (omega arith) in let i = not_yet x w (omega arith) in omega arith)

-- sums over views

sum_le : (f g : Hand → ℕ) (views : List Hand) → ((i : ℕ) (v : Hand) → get_elem? views i ≡ some v → f v ≤ g v) → sum_by f views ≤ sum_by g views
sum_le f g [] each = omega arith
sum_le f g (v ∷ vs) each = let a = each 0 v refl in let i = sum_le f g vs (λ i u e. each (suc i) u e) in let p = sum_by-cons f v vs in let q = sum_by-cons g v vs in omega arith

none_left : (f g : Hand → ℕ) (views : List Hand) → sum_by g views ≡ 0 → ((i : ℕ) (v : Hand) → get_elem? views i ≡ some v → g v ≡ 0 → f v ≡ 0) → sum_by f views ≡ 0
none_left f g [] e each = refl
none_left f g (v ∷ vs) e each = let q = sum_by-cons g v vs in let a = each 0 v refl (omega arith) in let i = none_left f g vs (omega arith) (λ i u e. each (suc i) u e) in sum_by-cons f v vs ∙ omega arith

-- who has all of g has all of f
alone : (f g : Hand → ℕ) (views : List Hand) (i : ℕ) (m : Hand) → get_elem? views i ≡ some m → sum_by g views ≡ g m → ((j : ℕ) (v : Hand) → get_elem? views j ≡ some v → g v ≡ 0 → f v ≡ 0) → sum_by f views ≡ f m
alone f g [] i m at e each = absurd (some-ne-none m (sym at))
alone f g (v ∷ vs) zero m at e each =
    let same = some-injective v m at in
    let q = sum_by-cons g v vs in
    let k : g v ≡ g m = ap g same in
    let l : f v ≡ f m = ap f same in
    let i = none_left f g vs (omega arith) (λ i u e. each (suc i) u e) in
    sum_by-cons f v vs ∙ omega arith
alone f g (v ∷ vs) (suc i) m at e each =
    let q = sum_by-cons g v vs in
    let r = at_get vs i m at in
    let b : g m ≤ sum_by g vs = subst (λ (u : Hand). g u ≤ sum_by g vs) r.1 (get_or-le-sum_by g vs i m r.0) in
    let a = each 0 v refl (omega arith) in
    let rec = alone f g vs i m at (omega arith) (λ j u h. each (suc j) u h) in
    sum_by-cons f v vs ∙ omega arith

-- the word never wraps
pub word_below : (n seats : ℕ) (words : List ℕ) (views : List Hand) → Dealt n seats words views → slice_index words 0 ≤ n + seats
word_below n seats words views d =
    let a = late_below n (slice_index words 0) in
    let b = d.once (late_one n) in
    let c = sum_le (λ v. late n v.numbers) (λ v. v.share) views (λ i v e. (d.each i v e).spent) in
    let s = d.shares in
    omega arith

pub begins : (n seats : ℕ) → Dealt n seats (0 ∷ []) (hand [] seats 0 ∷ [])
begins n seats = record {
  one_word = refl;
  once = λ h. refl;
  shares = omega arith;
  each = one;
}
  where
    one : (i : ℕ) (v : Hand) → get_elem? (hand [] seats 0 ∷ []) i ≡ some v → IsHeldView n 0 v
    one zero v e = subst (IsHeldView n 0) (some-injective _ _ e) (record { spent = omega arith; idle = λ _. refl; seen = omega arith })
    one (suc i) v e = absurd (some-ne-none v (sym e))

later : (n word : ℕ) (v : Hand) → IsHeldView n word v → IsHeldView n (word + 1) v
later n word v f = record { spent = f.spent; idle = f.idle; seen = (let s = f.seen in omega arith) }

-- the state after a draw
pub draws : (n seats : ℕ) (words : List ℕ) (views : List Hand) (id : ℕ) (v : Hand) → n ≤ 2 ^ 32 → seats ≤ 64 → v.share ≡ 1 → All (λ x. x < n) v.numbers
    → Dealt n seats words views → get_elem? views id ≡ some v
    → Dealt n seats (set words 0 ((slice_index words 0 + 1) % 18446744073709551616)) (set views id (drew v (slice_index words 0)))
draws n seats words views id v few short share early d at =
    let word = slice_index words 0 in
    let w = drew v word in
    let below = word_below n seats words views d in
    let wraps : (word + 1) % 18446744073709551616 ≡ word + 1 = mod-eq_of_lt (omega arith) in
    let is : slice_index (set words 0 ((word + 1) % 18446744073709551616)) 0 ≡ word + 1 = set_first words ((word + 1) % 18446744073709551616) d.one_word ∙ wraps in
    let after : List ℕ = set words 0 ((word + 1) % 18446744073709551616) in
    let none = none_late n v.numbers early in
    let more = sum_by_push (late_one n) v.numbers word in
    let mine : IsHeldView n (word + 1) w = record { spent = dite (dec_lt word n) (λ (l : word < n). let e = early_at n word l in omega arith) (λ l. let e = late_at n word (omega arith) in omega arith); idle = λ (z : v.share ≡ 0). absurd (omega arith); seen = omega arith } in record {
      one_word = length-set words 0 ((word + 1) % 18446744073709551616) ∙ d.one_word;
      once = λ h. (let a = sum_set (λ u. sum_by h u.numbers) views id v w at in let b = sum_by_push h v.numbers word in let c = d.once h in let t : sum_by (λ u. sum_by h u.numbers) (set views id w) ≡ weigh_below h (suc word) = omega arith in t ∙ ap (weigh_below h) (let e : suc word ≡ word + 1 = omega arith in e ∙ sym is));
      shares = (let a = sum_set (λ u. u.share) views id v w at in let c = d.shares in omega arith);
      each = λ i u e. subst (λ (z : ℕ). IsHeldView n z u) (sym is) (all_set (IsHeldView n (word + 1)) views id w mine (λ j y f. later n word y (d.each j y f)) i u e);
    }

-- a second view that has no numbers
split_with : (n seats : ℕ) (words : List ℕ) (views : List Hand) (id : ℕ) (v left right : Hand) → left.numbers ≡ v.numbers → right.numbers ≡ [] → left.share + right.share ≡ v.share
    → IsHeldView n (slice_index words 0) left → IsHeldView n (slice_index words 0) right
    → Dealt n seats words views → get_elem? views id ≡ some v → Dealt n seats words (set views id left ++ right ∷ [])
split_with n seats words views id v left right same none parts fits_left fits_right d at = record {
  one_word = d.one_word;
  once = λ h. (
      let a = sum_set (λ u. sum_by h u.numbers) views id v left at in
      let b = sum_by_push (λ u. sum_by h u.numbers) (set views id left) right in
      let e : sum_by h left.numbers ≡ sum_by h v.numbers = ap (λ (l : List ℕ). sum_by h l) same in
      let z : sum_by h right.numbers ≡ 0 = ap (λ (l : List ℕ). sum_by h l) none in
      let c = d.once h in omega arith);
  shares = (let a = sum_set (λ u. u.share) views id v left at in let b = sum_by_push (λ u. u.share) (set views id left) right in let c = d.shares in omega arith);
  each = λ i u e. all_push (IsHeldView n (slice_index words 0)) (set views id left) right fits_right (λ j y f. all_set (IsHeldView n (slice_index words 0)) views id left fits_left d.each j y f) i u e;
}

pub opens : (n seats : ℕ) {S : Type 0} (id : ℕ) (v : Hand) → 2 ≤ v.share → v.numbers ≡ []
    → Splits (λ (s : State S Hand). Dealt n seats s.words s.views) id v (hand v.numbers (v.share - 1) v.seen) (hand [] 1 v.seen)
opens n seats id v two none s d at =
    let f = d.each id v at in
    let seen = f.seen in
    let zero_late : late n v.numbers ≡ 0 = ap (late n) none in
    split_with n seats s.words s.views id v (hand v.numbers (v.share - 1) v.seen) (hand [] 1 v.seen) refl refl (omega arith)
    (record { spent = omega arith; idle = λ _. none; seen = seen }) (record { spent = omega arith; idle = λ _. refl; seen = seen }) d at

pub notes : (n seats : ℕ) {S : Type 0} (id : ℕ) (v : Hand)
    → Splits (λ (s : State S Hand). Dealt n seats s.words s.views) id v v (hand [] 0 v.seen)
notes n seats id v s d at =
    let f = d.each id v at in
    split_with n seats s.words s.views id v v (hand [] 0 v.seen) refl refl (omega arith) f (record { spent = omega arith; idle = λ _. refl; seen = f.seen }) d at

nil_both : (a b : List ℕ) → a ≡ [] → b ≡ [] → a ++ b ≡ []
nil_both a b p q = ap (λ (l : List ℕ). l ++ b) p ∙ q

pub joins : (n seats : ℕ) {S : Type 0} (id : ℕ) (v : Hand) (other : ℕ) (w : Hand)
    → Joins (λ (s : State S Hand). Dealt n seats s.words s.views) id v other w (taken_in v w) (hand [] 0 0)
joins n seats id v other w s d at apart there =
    let both = taken_in v w in
    let was : get_elem? s.views other ≡ some w = sym (set_else s.views id other both apart) ∙ there in
    let f = d.each id v at in
    let g = d.each other w was in
    let word = slice_index s.words 0 in
    let appended = sum_by-append (late_one n) v.numbers w.numbers in
    let fp = f.spent in let gp = g.spent in let fs = f.seen in let gs = g.seen in
    let fits : IsHeldView n word both = record { spent = omega arith; idle = λ (z : v.share + w.share ≡ 0). nil_both v.numbers w.numbers (f.idle (omega arith)) (g.idle (omega arith)); seen = omega arith } in record {
      one_word = d.one_word;
      once = λ h. (
          let a = sum_set (λ u. sum_by h u.numbers) s.views id v both at in
          let b = sum_set (λ u. sum_by h u.numbers) (set s.views id both) other w (hand [] 0 0) there in
          let e = sum_by-append h v.numbers w.numbers in
          let c = d.once h in omega arith);
      shares = (let a = sum_set (λ u. u.share) s.views id v both at in let b = sum_set (λ u. u.share) (set s.views id both) other w (hand [] 0 0) there in let c = d.shares in omega arith);
      each = λ i u e. all_set (IsHeldView n word) (set s.views id both) other (hand [] 0 0) (record { spent = omega arith; idle = λ _. refl; seen = omega arith })
          (λ j y t. all_set (IsHeldView n word) s.views id both fits d.each j y t) i u e;
    }

-- each number below the word is in one view, once
pub drawn_once : DrawnOnce
drawn_once n seats words views x d =
    let word = slice_index words 0 in
    d.once (one_if x)
    ∙ dite (dec_lt x word)
    (λ (l : x < word). once_below x word l ∙ sym (ap (λ b. cond b 1 0) (lt-ltb x word l)))
    (λ l. not_yet x word (omega arith) ∙ sym (ap (λ b. cond b 1 0) (le-ltb x word (omega arith))))

-- who has every share and a number of at least n has each number below n once
pub gathers : (n seats : ℕ) (words : List ℕ) (views : List Hand) (id : ℕ) (m : Hand) → Dealt n seats words views → get_elem? views id ≡ some m → m.share ≡ seats → 1 ≤ late n m.numbers
    → (x : ℕ) → x < n → times x m.numbers ≡ 1
gathers n seats words views id m d at whole ended x below =
    let word = slice_index words 0 in
    let none : (h : ℕ → ℕ) (j : ℕ) (v : Hand) → get_elem? views j ≡ some v → v.share ≡ 0 → sum_by h v.numbers ≡ 0 = λ h j v e z. ap (λ (l : List ℕ). sum_by h l) ((d.each j v e).idle z) in
    let all : (h : ℕ → ℕ) → sum_by h m.numbers ≡ weigh_below h word = λ h. sym (alone (λ v. sum_by h v.numbers) (λ v. v.share) views id m at (d.shares ∙ sym whole) (none h)) ∙ d.once h in
    let past : n < word = (let a = all (late_one n) in dite (dec_lt n word) (λ (l : n < word). l) (λ l. absurd (let z = none_late_below n word (omega arith) in omega arith))) in
    all (one_if x) ∙ once_below x word (omega arith)

pub all_front : {X : Type 0} (P : X → Type 0) (xs ys : List X) → All P (xs ++ ys) → All P xs
all_front P xs ys all k d h = subst P (get_front xs ys k d h) (all k d (omega (arith, length-append xs ys)))
  where
    get_front : {X : Type 0} (xs ys : List X) (k : ℕ) (d : X) → k < length xs → get_or (xs ++ ys) k d ≡ get_or xs k d
    get_front [] ys k d h = absurd (omega arith)
    get_front (x ∷ xs) ys zero d h = refl
    get_front (x ∷ xs) ys (suc k) d h = get_front xs ys k d (omega arith)

pub all_last : {X : Type 0} (P : X → Type 0) (xs : List X) (y : X) → All P (xs ++ y ∷ []) → P y
all_last P xs y all = subst P (get_last xs y) (all (length xs) y (omega (arith, length-append xs (y ∷ []))))
  where
    get_last : {X : Type 0} (xs : List X) (y : X) → get_or (xs ++ y ∷ []) (length xs) y ≡ y
    get_last [] y = refl
    get_last (x ∷ xs) y = get_last xs y
