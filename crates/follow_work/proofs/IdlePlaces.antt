-- The places of times before a limit, by their numbers: the ids of the drives that are idle, in their order.
use Rattle.std.proofs.Common.{◌≡◌, ℕ, ◌+◌, ◌-◌, ◌<◌, ◌≤◌, Bool, true, false, cond, List, [], ◌∷◌, ◌++◌, Option, Some, None, IfSome, refl, sym, ap, subst, ◌∙◌, arith, map, filter, nat_eq, nat_lt, append-nil}
use Rattle.std.specs.Prelude.{◌&&◌, ◌||◌, All, Contains, IsSome}
use Rattle.std.specs.BTreeMap.{BTreeMap, IsFromIterResult, IsOrdered, get, is_at}
use Rattle.std.specs.BTreeSet.{BTreeSet, contains}
use Rattle.std.specs.BTreeMap.Range.{range_contains}
use Rattle.std.specs.List.{AllByRecursion, IsDistinct, list_any}
use Rattle.std.specs.List.Sorted.{IsStrictlySortedBy}
use Rattle.std.specs.Map.{keys_of, lookup, update_all, values_of}
use Rattle.std.specs.Ordering.{eq_by_cmp, nat_cmp, ordering_then}
use Rattle.std.specs.declared.cmp.Ordering.TheVariants.{Less, Equal, Greater}
use Rattle.std.specs.declared.ops.Bound.TheVariants.{Excluded, Unbounded}
use Rattle.std.proofs.lemmas.Bool.Decides.{nat_tests}
use Rattle.std.proofs.lemmas.Cmp.{nat_cmp_total}
use Rattle.std.proofs.lemmas.List.Elements.{All-cons, All-contains, All-contains_itself, All-head, All-map, All-nil, All-tail, All-weaker}
use Rattle.std.proofs.lemmas.List.{append_assoc, map-append}
use Rattle.std.proofs.lemmas.Map.{update_all_push}
use Rattle.std.proofs.lemmas.Map.Keys.{IsDistinct-head, IsDistinct-tail}
use Rattle.std.proofs.lemmas.Map.Lookups.{exact_unsigned}
use Rattle.std.proofs.lemmas.Map.Views.{All-set_contains, IfSome-btree_map_get_from_list, IsInRange-from_range_contains, btree_map_contains_key_from_list, range_contains-from_IsInRange}
use Rattle.follow_work.specs.declared.times.Drive.{Drive}
use Rattle.follow_work.specs.inside.Times.{AreQueued, HasNoted, Place, RisesBetween, idle_ids, is_placed, numbered, place_cmp, places_before, times_in}
use Rattle.follow_work.proofs.Places.{cmp-eq, place-at, place-total}
use Rattle.follow_work.proofs.TimesKept.{rises-low}

-- ---- a limit of times

less-cmp : (q : Place) (limit : ℕ) → q.0 < limit → place_cmp q (limit, 0, 0) ≡ Less
less-cmp q limit low =
    let is : nat_lt q.0 limit ≡ true = grind (arith, nat_tests) in
    ap (λ b. ordering_then (ordering_then (cond b Less (cond (nat_eq q.0 limit) Equal Greater)) (nat_cmp q.1 0)) (nat_cmp q.2 0)) is

cmp-less : (q : Place) (limit : ℕ) → place_cmp q (limit, 0, 0) ≡ Less → q.0 < limit
cmp-less q limit is = step (nat_lt q.0 limit) refl (nat_eq q.0 limit) is
  where
    no-zero : (a : ℕ) → nat_lt a 0 ≡ false
    no-zero a = grind (arith, nat_tests)

    never : (a b : ℕ) → ordering_then (nat_cmp a 0) (nat_cmp b 0) ≡ Less → ⊥
    never a b is = tied (nat_eq a 0) (nat_eq b 0) (sym (ap (λ l. ordering_then (cond l Less (cond (nat_eq a 0) Equal Greater)) (nat_cmp b 0)) (no-zero a)
        ∙ ap (λ l. ordering_then (cond (nat_eq a 0) Equal Greater) (cond l Less (cond (nat_eq b 0) Equal Greater))) (no-zero b)) ∙ is)
      where
        tied : (x y : Bool) → ordering_then (cond x Equal Greater) (cond y Equal Greater) ≡ Less → ⊥
        tied true true is = cc
        tied true false is = cc
        tied false true is = cc
        tied false false is = cc

    step : (l : Bool) → nat_lt q.0 limit ≡ l → (e : Bool) → ordering_then (ordering_then (cond l Less (cond e Equal Greater)) (nat_cmp q.1 0)) (nat_cmp q.2 0) ≡ Less → q.0 < limit
    step true low e is = grind (arith, nat_tests)
    step false low true is = absurd (never q.1 q.2 is)
    step false low false is = absurd (let no : Greater ≡ Less = is in cc)

-- ---- the numbers and ids of the drives that are idle

abbrev pub idle_numbers : (idle clock : ℕ) → List (ℕ × Drive) → List (ℕ × ℕ)
idle_numbers idle clock drives = map (λ e. (e.1.number, e.0)) (filter (λ e. nat_lt (e.1.newest + idle) clock) drives)

numbers-ids : (idle clock : ℕ) (es : List (ℕ × Drive)) → values_of (idle_numbers idle clock es) ≡ idle_ids idle clock (times_in es)
numbers-ids idle clock [] = refl
numbers-ids idle clock (e ∷ es) = step (nat_lt (e.1.newest + idle) clock) (numbers-ids idle clock es)
  where
    step : (b : Bool) → values_of (idle_numbers idle clock es) ≡ idle_ids idle clock (times_in es)
        → values_of (map (λ (x : ℕ × Drive). (x.1.number, x.0)) (cond b (e ∷ filter (λ x. nat_lt (x.1.newest + idle) clock) es) (filter (λ x. nat_lt (x.1.newest + idle) clock) es)))
        ≡ keys_of (cond b ((e.0, e.1.newest) ∷ filter (λ x. nat_lt (x.1 + idle) clock) (times_in es)) (filter (λ x. nat_lt (x.1 + idle) clock) (times_in es)))
    step true rest = ap (λ l. e.0 ∷ l) rest
    step false rest = rest

-- numbers that rise from this one on
abbrev Above : ℕ → List (ℕ × ℕ) → Type 0
Above a [] = Unit {0}
Above a (e ∷ es) = (a ≤ e.0) × Above (e.0 + 1) es

above-lower : (a b : ℕ) (es : List (ℕ × ℕ)) → a ≤ b → Above b es → Above a es
above-lower a b [] low h = tt
above-lower a b (e ∷ es) low h = (let own = h.0 in omega (arith, low, own), h.1)

numbers-above : (idle clock a n : ℕ) (es : List (ℕ × Drive)) → RisesBetween a n es → Above a (idle_numbers idle clock es)
numbers-above idle clock a n [] h = tt
numbers-above idle clock a n (e ∷ es) h = step (nat_lt (e.1.newest + idle) clock) (numbers-above idle clock (e.1.number + 1) n es h.1)
  where
    step : (b : Bool) → Above (e.1.number + 1) (idle_numbers idle clock es)
        → Above a (map (λ (x : ℕ × Drive). (x.1.number, x.0)) (cond b (e ∷ filter (λ x. nat_lt (x.1.newest + idle) clock) es) (filter (λ x. nat_lt (x.1.newest + idle) clock) es)))
    step true rest = (h.0, rest)
    step false rest = let own = h.0 in above-lower a (e.1.number + 1) (idle_numbers idle clock es) (omega (arith, own)) rest

less-than : (a b : ℕ) → nat_cmp a b ≡ Less → a + 1 ≤ b
less-than a b is = step (nat_lt a b) refl (nat_eq a b) is
  where
    step : (l : Bool) → nat_lt a b ≡ l → (e : Bool) → cond l Less (cond e Equal Greater) ≡ Less → a + 1 ≤ b
    step true low e is = let below : a < b = grind (arith, nat_tests) in omega (arith, below)
    step false low true is = absurd (let no : Equal ≡ Less = is in cc)
    step false low false is = absurd (let no : Greater ≡ Less = is in cc)

all-less : (k : ℕ) (ks : List ℕ) → AllByRecursion (λ y. nat_cmp k y ≡ Less) ks → AllByRecursion (λ y. k + 1 ≤ y) ks
all-less k [] h = tt
all-less k (y ∷ ks) h = (less-than k y h.0, all-less k ks h.1)

sorted-above : (a : ℕ) (es : List (ℕ × ℕ)) → AllByRecursion (λ y. a ≤ y) (keys_of es) → IsStrictlySortedBy nat_cmp (keys_of es) → Above a es
unfolding IsStrictlySortedBy
sorted-above a [] low sorted = tt
sorted-above a (e ∷ es) low sorted = (low.0, sorted-above (e.0 + 1) es (all-less e.0 (keys_of es) sorted.0) sorted.1)

all-low : (ks : List ℕ) → AllByRecursion (λ y. 0 ≤ y) ks
all-low [] = tt
all-low (y ∷ ks) = (omega arith, all-low ks)

at-number : (a b : ℕ) → is_at (nat_cmp a) b ≡ nat_eq a b
at-number a b = cmp-eq a b

none-above : (k a : ℕ) (es : List (ℕ × ℕ)) → k < a → Above a es → lookup (is_at (nat_cmp k)) es ≡ None
none-above k a [] low h = refl
none-above k a (e ∷ es) low h =
    let own = h.0 in
    let other : nat_eq k e.0 ≡ false = grind (arith, nat_tests) in
    ap (λ b. cond b (Some e.1) (lookup (is_at (nat_cmp k)) es)) (at-number k e.0 ∙ other) ∙ none-above k (e.0 + 1) es (omega (arith, low, own)) h.1

head-found : (k : ℕ) (e : ℕ × ℕ) (es : List (ℕ × ℕ)) → k ≡ e.0 → lookup (is_at (nat_cmp k)) (e ∷ es) ≡ Some e.1
head-found k e es is =
    let here : nat_eq k e.0 ≡ true = grind (arith, nat_tests) in
    ap (λ b. cond b (Some e.1) (lookup (is_at (nat_cmp k)) es)) (at-number k e.0 ∙ here)

head-passed : (k : ℕ) (e : ℕ × ℕ) (es : List (ℕ × ℕ)) → nat_eq k e.0 ≡ false → lookup (is_at (nat_cmp k)) (e ∷ es) ≡ lookup (is_at (nat_cmp k)) es
head-passed k e es is = ap (λ b. cond b (Some e.1) (lookup (is_at (nat_cmp k)) es)) (at-number k e.0 ∙ is)

-- two lists with rising numbers are one where each number finds the same in both
same-above : (a : ℕ) (xs ys : List (ℕ × ℕ)) → Above a xs → Above a ys → ((k : ℕ) → lookup (is_at (nat_cmp k)) xs ≡ lookup (is_at (nat_cmp k)) ys) → xs ≡ ys
same-above a [] [] hx hy same = refl
same-above a [] (y ∷ ys) hx hy same = absurd (let two = same y.0 ∙ head-found y.0 y ys refl in cc)
same-above a (x ∷ xs) [] hx hy same = absurd (let two = sym (head-found x.0 x xs refl) ∙ same x.0 in cc)
same-above a (x ∷ xs) (y ∷ ys) hx hy same = step (nat_lt x.0 y.0) refl (nat_lt y.0 x.0) refl (same-above (x.0 + 1) xs ys hx.1)
  where
    step : (l : Bool) → nat_lt x.0 y.0 ≡ l → (r : Bool) → nat_lt y.0 x.0 ≡ r
        → (Above (x.0 + 1) ys → ((k : ℕ) → lookup (is_at (nat_cmp k)) xs ≡ lookup (is_at (nat_cmp k)) ys) → xs ≡ ys) → x ∷ xs ≡ y ∷ ys
    step true low r high rest = absurd
        (let below : x.0 < y.0 = grind (arith, nat_tests) in
        let least : x.0 + 1 ≤ y.0 = omega (arith, below) in
        let none = none-above x.0 (x.0 + 1) (y ∷ ys) (omega arith) (least, hy.1) in
        let two = sym (head-found x.0 x xs refl) ∙ same x.0 ∙ none in cc)
    step false low true high rest = absurd
        (let below : y.0 < x.0 = grind (arith, nat_tests) in
        let least : y.0 + 1 ≤ x.0 = omega (arith, below) in
        let none = none-above y.0 (y.0 + 1) (x ∷ xs) (omega arith) (least, hx.1) in
        let two = sym (head-found y.0 y ys refl) ∙ sym (same y.0) ∙ none in cc)
    step false low false high rest =
        let key : x.0 ≡ y.0 = grind (arith, nat_tests) in
        let both : Some x.1 ≡ Some y.1 = sym (head-found x.0 x xs refl) ∙ same x.0 ∙ head-found x.0 y ys key in
        let value : x.1 ≡ y.1 = cc in
        let above : Above (x.0 + 1) ys = subst (λ k. Above (k + 1) ys) (sym key) hy.1 in
        let tails = rest above (λ k. tail above key k (nat_eq k x.0) refl) in
        (λ i. (key i, value i) ∷ tails i)
      where
        tail : Above (x.0 + 1) ys → x.0 ≡ y.0 → (k : ℕ) (b : Bool) → nat_eq k x.0 ≡ b → lookup (is_at (nat_cmp k)) xs ≡ lookup (is_at (nat_cmp k)) ys
        tail above key k true is =
            let one : k < x.0 + 1 = grind (arith, nat_tests) in
            none-above k (x.0 + 1) xs one hx.1 ∙ sym (none-above k (x.0 + 1) ys one above)
        tail above key k false is =
            let other : nat_eq k y.0 ≡ false = ap (λ n. nat_eq k n) (sym key) ∙ is in
            sym (head-passed k x xs is) ∙ same k ∙ head-passed k y ys other

-- an idle drive is found by its number
found : (idle clock a n i : ℕ) (d : Drive) (es : List (ℕ × Drive)) → RisesBetween a n es → lookup (nat_eq i) es ≡ Some d → nat_lt (d.newest + idle) clock ≡ true
    → lookup (is_at (nat_cmp d.number)) (idle_numbers idle clock es) ≡ Some i
found idle clock a n i d [] h some old = absurd cc
found idle clock a n i d (e ∷ es) h some old = step (nat_eq i e.0) refl some (nat_lt (e.1.newest + idle) clock) refl (λ later. found idle clock (e.1.number + 1) n i d es h.1 later old)
  where
    same-some : e.1 ≡ d → nat_lt (e.1.newest + idle) clock ≡ true
    same-some one = ap (λ x. nat_lt (x.newest + idle) clock) one ∙ old

    step : (b : Bool) → nat_eq i e.0 ≡ b → cond b (Some e.1) (lookup (nat_eq i) es) ≡ Some d → (c : Bool) → nat_lt (e.1.newest + idle) clock ≡ c
        → (lookup (nat_eq i) es ≡ Some d → lookup (is_at (nat_cmp d.number)) (idle_numbers idle clock es) ≡ Some i)
        → lookup (is_at (nat_cmp d.number)) (map (λ (x : ℕ × Drive). (x.1.number, x.0)) (cond c (e ∷ filter (λ x. nat_lt (x.1.newest + idle) clock) es) (filter (λ x. nat_lt (x.1.newest + idle) clock) es))) ≡ Some i
    step true is some true passes rest =
        let one : e.1 ≡ d = cc in
        let same : i ≡ e.0 = grind (arith, nat_tests) in
        let number : nat_eq d.number e.1.number ≡ true = ap (λ x. nat_eq x.number e.1.number) (sym one) ∙ (let here : nat_eq e.1.number e.1.number ≡ true = grind (arith, nat_tests) in here) in
        ap (λ b. cond b (Some e.0) (lookup (is_at (nat_cmp d.number)) (idle_numbers idle clock es))) (at-number d.number e.1.number ∙ number) ∙ ap (λ x. Some x) (sym same)
    step true is some false fails rest = absurd (let one : e.1 ≡ d = cc in let both = sym fails ∙ same-some one in cc)
    step false is some true passes rest =
        let low = rises-low (nat_eq i) (e.1.number + 1) n d es h.1 some in
        let other : nat_eq d.number e.1.number ≡ false = grind (arith, nat_tests) in
        ap (λ b. cond b (Some e.0) (lookup (is_at (nat_cmp d.number)) (idle_numbers idle clock es))) (at-number d.number e.1.number ∙ other) ∙ rest some
    step false is some false fails rest = rest some

-- what is found by its number is an idle drive
abbrev Is : (idle clock k i : ℕ) → List (ℕ × Drive) → Type 0
Is idle clock k i es = (d : Drive) × (lookup (nat_eq i) es ≡ Some d) × (d.number ≡ k) × (nat_lt (d.newest + idle) clock ≡ true)

absent : (k : ℕ) (es : List (ℕ × Drive)) → AllByRecursion (λ y. nat_eq k y ≡ false) (keys_of es) → lookup (nat_eq k) es ≡ None
absent k [] h = refl
absent k (e ∷ es) h = ap (λ b. cond b (Some e.1) (lookup (nat_eq k) es)) h.0 ∙ absent k es h.1

back : (idle clock k i : ℕ) (es : List (ℕ × Drive)) → IsDistinct nat_eq (keys_of es) → lookup (is_at (nat_cmp k)) (idle_numbers idle clock es) ≡ Some i → Is idle clock k i es
back idle clock k i [] different some = absurd cc
back idle clock k i (e ∷ es) different some =
    step (nat_lt (e.1.newest + idle) clock) refl (nat_eq k e.1.number) refl (back idle clock k i es (IsDistinct-tail nat_eq e.0 (keys_of es) different)) some
  where
    older : Is idle clock k i es → Is idle clock k i (e ∷ es)
    older was =
        let apart : (b : Bool) → nat_eq i e.0 ≡ b → cond b (Some e.1) (lookup (nat_eq i) es) ≡ Some was.0 = apart_step was in
        (was.0, apart (nat_eq i e.0) refl, was.2, was.3)
      where
        apart_step : (was : Is idle clock k i es) → (b : Bool) → nat_eq i e.0 ≡ b → cond b (Some e.1) (lookup (nat_eq i) es) ≡ Some was.0
        apart_step was true is =
            let same : i ≡ e.0 = grind (arith, nat_tests) in
            absurd (let none = ap (λ j. lookup (nat_eq j) es) same ∙ absent e.0 es (IsDistinct-head nat_eq e.0 (keys_of es) different) in let two = sym none ∙ was.1 in cc)
        apart_step was false is = was.1

    step : (c : Bool) → nat_lt (e.1.newest + idle) clock ≡ c → (m : Bool) → nat_eq k e.1.number ≡ m
        → (lookup (is_at (nat_cmp k)) (idle_numbers idle clock es) ≡ Some i → Is idle clock k i es)
        → lookup (is_at (nat_cmp k)) (map (λ (x : ℕ × Drive). (x.1.number, x.0)) (cond c (e ∷ filter (λ x. nat_lt (x.1.newest + idle) clock) es) (filter (λ x. nat_lt (x.1.newest + idle) clock) es))) ≡ Some i
        → Is idle clock k i (e ∷ es)
    step true passes true is rest some =
        let now = sym (ap (λ b. cond b (Some e.0) (lookup (is_at (nat_cmp k)) (idle_numbers idle clock es))) (at-number k e.1.number ∙ is)) ∙ some in
        let same : e.0 ≡ i = cc in
        let here : nat_eq i e.0 ≡ true = grind (arith, nat_tests) in
        let number : e.1.number ≡ k = grind (arith, nat_tests) in
        (e.1, ap (λ b. cond b (Some e.1) (lookup (nat_eq i) es)) here, number, passes)
    step true passes false is rest some =
        older (rest (sym (ap (λ b. cond b (Some e.0) (lookup (is_at (nat_cmp k)) (idle_numbers idle clock es))) (at-number k e.1.number ∙ is)) ∙ some))
    step false fails m is rest some = older (rest some)

-- ---- places that are noted one by one

pub none-noted : (places : List Place) (noted : BTreeMap ℕ ℕ) → noted.entries ≡ [] → IsOrdered nat_cmp noted → HasNoted places places noted
none-noted places noted none ordered = record {
  taken = [];
  parts = refl;
  are = (λ q. ap (lookup (is_at (nat_cmp q))) none, ordered);
}

pub one-noted : (places before left : List Place) (p : Place) (old new : BTreeMap ℕ ℕ) → before ≡ p ∷ left → HasNoted places before old
    → ((q : ℕ) → get nat_cmp new q ≡ cond (is_at (nat_cmp p.1) q) (Some p.2) (get nat_cmp old q)) → IsOrdered nat_cmp new → HasNoted places left new
one-noted places before left p old new is has gets ordered = record {
  taken = has.taken ++ p ∷ [];
  parts = has.parts ∙ ap (λ l. has.taken ++ l) is ∙ sym (append_assoc has.taken (p ∷ []) left);
  are = (
    λ q. gets q ∙ update_all_push (eq_by_cmp nat_cmp) (λ k. None) (get nat_cmp old) (numbered has.taken) (p.1, p.2) q (has.are.0 q)
        ∙ ap (λ xs. update_all (eq_by_cmp nat_cmp) (λ k. None) xs q) (sym (map-append (λ (x : Place). (x.1, x.2)) has.taken (p ∷ []))),
    ordered,
  );
}

pub all-are-noted : (places left : List Place) (noted : BTreeMap ℕ ℕ) → left ≡ [] → HasNoted places left noted → IsFromIterResult nat_cmp (numbered places) noted
all-are-noted places left noted none has =
    subst (λ ps. IsFromIterResult nat_cmp (numbered ps) noted) (sym (has.parts ∙ ap (λ l. has.taken ++ l) none ∙ append-nil has.taken)) has.are

-- ---- the places in the queue

-- a place that is among some and passes has what all that pass have
all-at : (P : Place → Type 0) (p : Place → Bool) (ks : List Place) (q : Place) → All P (filter p ks) → list_any (is_at (place_cmp q)) ks ≡ true → p q ≡ true → P q
all-at P p [] q all any passes = absurd cc
all-at P p (k ∷ ks) q all any passes = step (is_at (place_cmp q) k) refl any (p k) refl all (all-at P p ks q)
  where
    part : (a b : Bool) → (a && b) ≡ true → (a ≡ true) × (b ≡ true)
    part true true is = (refl, refl)
    part true false is = absurd cc
    part false b is = absurd cc

    same : is_at (place_cmp q) k ≡ true → q ≡ k
    same is =
        let three = part (nat_eq q.0 k.0 && nat_eq q.1 k.1) (nat_eq q.2 k.2) (sym (place-at q k) ∙ is) in
        let two = part (nat_eq q.0 k.0) (nat_eq q.1 k.1) three.0 in
        let x = two.0 in
        let y = two.1 in
        let z = three.1 in
        let a : q.0 ≡ k.0 = grind (arith, nat_tests) in
        let b : q.1 ≡ k.1 = grind (arith, nat_tests) in
        let c : q.2 ≡ k.2 = grind (arith, nat_tests) in
        λ i. (a i, b i, c i)

    step : (b : Bool) → is_at (place_cmp q) k ≡ b → (b || list_any (is_at (place_cmp q)) ks) ≡ true → (c : Bool) → p k ≡ c → All P (cond c (k ∷ filter p ks) (filter p ks))
        → (All P (filter p ks) → list_any (is_at (place_cmp q)) ks ≡ true → p q ≡ true → P q) → P q
    step true is any true kept all rest = subst P (sym (same is)) (All-head P k (filter p ks) all)
    step true is any false kept all rest = absurd (let two = sym kept ∙ ap p (sym (same is)) ∙ passes in cc)
    step false is any true kept all rest = rest (All-tail P k (filter p ks) all) any passes
    step false is any false kept all rest = rest all any passes

options : (a b : Option ℕ) → ((i : ℕ) → a ≡ Some i → b ≡ Some i) → ((i : ℕ) → b ≡ Some i → IsSome a) → a ≡ b
options None None one two = refl
options None (Some j) one two = absurd (let some : false ≡ true = two j refl in cc)
options (Some i) b one two = sym (one i refl)

-- what was noted of the places before the limit is what is to be found by number
module _ (drives : List (ℕ × Drive)) (begun idle clock : ℕ) (queue : BTreeSet Place) (noted : BTreeMap ℕ ℕ)
    (different : IsDistinct nat_eq (keys_of drives)) (rises : RisesBetween 0 begun drives) (queued : AreQueued drives queue)
    (are : IsFromIterResult nat_cmp (numbered (places_before (clock - idle) queue)) noted) where
  all-passed : (limit : ℕ) (ks : List Place) → All (λ q. contains place_cmp queue q ≡ true) ks
      → All (λ q. (q.0 < limit) × (contains place_cmp queue q ≡ true)) (filter (range_contains place_cmp Unbounded (Excluded (limit, 0, 0))) ks)
  all-passed limit [] all = All-nil (λ (q : Place). (q.0 < limit) × (contains place_cmp queue q ≡ true))
  all-passed limit (k ∷ ks) all =
      step (range_contains place_cmp Unbounded (Excluded (limit, 0, 0)) k) refl (all-passed limit ks (All-tail (λ (q : Place). contains place_cmp queue q ≡ true) k ks all))
    where
      step : (b : Bool) → range_contains place_cmp Unbounded (Excluded (limit, 0, 0)) k ≡ b
          → All (λ q. (q.0 < limit) × (contains place_cmp queue q ≡ true)) (filter (range_contains place_cmp Unbounded (Excluded (limit, 0, 0))) ks)
          → All (λ q. (q.0 < limit) × (contains place_cmp queue q ≡ true))
          (cond b (k ∷ filter (range_contains place_cmp Unbounded (Excluded (limit, 0, 0))) ks) (filter (range_contains place_cmp Unbounded (Excluded (limit, 0, 0))) ks))
      step true is rest =
          All-cons (λ (q : Place). (q.0 < limit) × (contains place_cmp queue q ≡ true)) k _
          (cmp-less k limit (IsInRange-from_range_contains place-total Unbounded (Excluded (limit, 0, 0)) k is).1, All-head (λ (q : Place). contains place_cmp queue q ≡ true) k ks all) rest
      step false is rest = rest

  inside : All (λ q. (q.0 < clock - idle) × (contains place_cmp queue q ≡ true)) (places_before (clock - idle) queue)
  inside = all-passed (clock - idle) queue.keys (All-set_contains place-total queue)

  -- a noted number is that of an idle drive
  abbrev Sound : ℕ × ℕ → Type 0
  Sound x = lookup (is_at (nat_cmp x.0)) (idle_numbers idle clock drives) ≡ Some x.1

  own : (q : Place) → (q.0 < clock - idle) × (contains place_cmp queue q ≡ true) → Sound (q.1, q.2)
  own q (low, there) = by (lookup (nat_eq q.2) drives) refl (sym (queued q) ∙ there)
    where
      by : (o : Option Drive) → lookup (nat_eq q.2) drives ≡ o → is_placed o q ≡ true → Sound (q.1, q.2)
      by None some placed = absurd cc
      by (Some d) some placed =
          let two = parts (nat_eq d.newest q.0) (nat_eq d.number q.1) placed in
          let a = two.0 in
          let b = two.1 in
          let newest : d.newest ≡ q.0 = grind (arith, nat_tests) in
          let number : d.number ≡ q.1 = grind (arith, nat_tests) in
          let past : d.newest + idle < clock = omega (arith, low, newest) in
          let old : nat_lt (d.newest + idle) clock ≡ true = grind (arith, nat_tests) in
          subst (λ k. lookup (is_at (nat_cmp k)) (idle_numbers idle clock drives) ≡ Some q.2) number (found idle clock 0 begun q.2 d drives rises some old)
        where
          parts : (a b : Bool) → (a && b) ≡ true → (a ≡ true) × (b ≡ true)
          parts true true is = (refl, refl)
          parts true false is = absurd cc
          parts false b is = absurd cc

  sound : (k i : ℕ) → get nat_cmp noted k ≡ Some i → lookup (is_at (nat_cmp k)) (idle_numbers idle clock drives) ≡ Some i
  sound k i some =
      let all = All-map Sound (λ (q : Place). (q.1, q.2)) (places_before (clock - idle) queue) (All-weaker _ (λ q. Sound (q.1, q.2)) own (places_before (clock - idle) queue) inside) in
      let member = IfSome-btree_map_get_from_list nat_cmp_total exact_unsigned (numbered (places_before (clock - idle) queue)) noted are k in
      let here : Contains (numbered (places_before (clock - idle) queue)) (k, i) = subst (λ o. IfSome o (λ v. Contains (numbered (places_before (clock - idle) queue)) (k, v))) some member in
      All-contains Sound (numbered (places_before (clock - idle) queue)) (k, i) all here

  -- an idle drive has been noted
  abbrev Noted : Place → Type 0
  Noted q = IsSome (get nat_cmp noted q.1)

  all-noted : (ps : List Place) → All (λ x. IsSome (get nat_cmp noted x.0)) (numbered ps) → All Noted ps
  all-noted ps all = All-from_map ps all
    where
      All-from_map : (ps : List Place) → All (λ x. IsSome (get nat_cmp noted x.0)) (numbered ps) → All Noted ps
      All-from_map [] all = All-nil Noted
      All-from_map (p ∷ ps) all =
          All-cons Noted p ps (All-head (λ (x : ℕ × ℕ). IsSome (get nat_cmp noted x.0)) (p.1, p.2) (numbered ps) all) (All-from_map ps (All-tail (λ (x : ℕ × ℕ). IsSome (get nat_cmp noted x.0)) (p.1, p.2) (numbered ps) all))

  complete : (k i : ℕ) → lookup (is_at (nat_cmp k)) (idle_numbers idle clock drives) ≡ Some i → IsSome (get nat_cmp noted k)
  complete k i some =
      let is = back idle clock k i drives different some in
      let d = is.0 in
      let q : Place = (d.newest, k, i) in
      let old = is.3 in
      let past : d.newest + idle < clock = grind (arith, nat_tests) in
      let low : d.newest < clock - idle = omega (arith, past) in
      let placed : is_placed (Some d) q ≡ true = here d k is.2 in
      let there : contains place_cmp queue q ≡ true = queued q ∙ ap (λ o. is_placed o q) is.1 ∙ placed in
      let before : range_contains place_cmp Unbounded (Excluded (clock - idle, 0, 0)) q ≡ true =
      range_contains-from_IsInRange place-total Unbounded (Excluded (clock - idle, 0, 0)) q (tt, less-cmp q (clock - idle) low) in
      all-at Noted (range_contains place_cmp Unbounded (Excluded (clock - idle, 0, 0))) queue.keys q
      (all-noted (places_before (clock - idle) queue) (noted-keys (numbered (places_before (clock - idle) queue)) are)) there before
    where
      here : (d : Drive) (k : ℕ) → d.number ≡ k → is_placed (Some d) (d.newest, k, i) ≡ true
      here d k is =
          let a : nat_eq d.newest d.newest ≡ true = grind (arith, nat_tests) in
          let b : nat_eq d.number k ≡ true = grind (arith, nat_tests) in
          ap (λ x. x && nat_eq d.number k) a ∙ b

      noted-keys : (xs : List (ℕ × ℕ)) → IsFromIterResult nat_cmp xs noted → All (λ x. IsSome (get nat_cmp noted x.0)) xs
      noted-keys xs are =
          All-weaker (Contains xs) (λ x. IsSome (get nat_cmp noted x.0))
          (λ x among. (btree_map_contains_key_from_list nat_cmp_total exact_unsigned xs noted are x.0).1 (Contains-keys xs x among)) xs (All-contains_itself xs)
        where
          Contains-keys : (xs : List (ℕ × ℕ)) (x : ℕ × ℕ) → Contains xs x → Contains (keys_of xs) x.0
          Contains-keys xs x among = All-contains (λ y. Contains (keys_of xs) y.0) xs x (All-from-map xs (All-contains_itself (keys_of xs))) among
            where
              All-from-map : (ys : List (ℕ × ℕ)) → All (Contains (keys_of xs)) (keys_of ys) → All (λ (y : ℕ × ℕ). Contains (keys_of xs) y.0) ys
              All-from-map [] all = All-nil (λ (y : ℕ × ℕ). Contains (keys_of xs) y.0)
              All-from-map (y ∷ ys) all =
                  All-cons (λ (z : ℕ × ℕ). Contains (keys_of xs) z.0) y ys (All-head (Contains (keys_of xs)) y.0 (keys_of ys) all) (All-from-map ys (All-tail (Contains (keys_of xs)) y.0 (keys_of ys) all))

  -- the ids in the order of their numbers are those of the idle drives in their order
  pub ids-noted : values_of noted.entries ≡ idle_ids idle clock (times_in drives)
  ids-noted =
      ap values_of
      (same-above 0 noted.entries (idle_numbers idle clock drives) (sorted-above 0 noted.entries (all-low (keys_of noted.entries)) are.1) (numbers-above idle clock 0 begun drives rises)
      (λ k. options (get nat_cmp noted k) (lookup (is_at (nat_cmp k)) (idle_numbers idle clock drives)) (sound k) (complete k)))
      ∙ numbers-ids idle clock drives
