-- The open drives of newest times, as one begins, has a newer time, or ends.
use Rattle.std.proofs.Common.{◌≡◌, ℕ, ◌+◌, ◌<◌, ◌≤◌, Bool, true, false, cond, if◌then◌else◌, List, [], ◌∷◌, ◌++◌, Option, Some, None, refl, sym, ap, subst, ◌∙◌, arith, max, nat_eq, unwrap_or}
use Rattle.std.specs.Map.{lookup, remove_entry, set_value}
use Rattle.std.specs.Option.{option_map}
use Rattle.std.proofs.lemmas.Bool.Decides.{nat_tests}
use Rattle.std.proofs.lemmas.Map.Steps.{set_value_same}
use Rattle.indexmap.specs.IndexMap.{insert_entry}
use Rattle.arrivals.proofs.Reversed.{insert-held, insert-new}
use Rattle.follow_work.specs.declared.times.Drive.{Drive}
use Rattle.follow_work.specs.inside.Times.{RisesBetween, time_with, times_in}

-- ---- the numbers rise

pub rises-lower : (a b n : ℕ) (es : List (ℕ × Drive)) → a ≤ b → RisesBetween b n es → RisesBetween a n es
rises-lower a b n [] low h = omega (arith, low, h)
rises-lower a b n (e ∷ es) low h = (let own = h.0 in omega (arith, low, own), h.1)

pub rises-push : (a n id : ℕ) (d : Drive) (es : List (ℕ × Drive)) → d.number ≡ n → RisesBetween a n es → RisesBetween a (n + 1) (es ++ (id, d) ∷ [])
rises-push a n id d [] is h = (omega (arith, is, h), omega (arith, is))
rises-push a n id d (e ∷ es) is h = (h.0, rises-push (e.1.number + 1) n id d es is h.1)

pub rises-insert : (a n id : ℕ) (d : Drive) (es : List (ℕ × Drive)) → lookup (nat_eq id) es ≡ None → d.number ≡ n → RisesBetween a n es → RisesBetween a (n + 1) (insert_entry nat_eq es id d)
rises-insert a n id d es none is h = subst (RisesBetween a (n + 1)) (sym (insert-new id d es none)) (rises-push a n id d es is h)

pub rises-remove : (t : ℕ → Bool) (a n : ℕ) (es : List (ℕ × Drive)) → RisesBetween a n es → RisesBetween a n (remove_entry t es)
rises-remove t a n [] h = h
rises-remove t a n (e ∷ es) h = step (t e.0) (rises-remove t (e.1.number + 1) n es h.1)
  where
    step : (b : Bool) → RisesBetween (e.1.number + 1) n (remove_entry t es) → RisesBetween a n (cond b es (e ∷ remove_entry t es))
    step true rest = let own = h.0 in rises-lower a (e.1.number + 1) n es (omega (arith, own)) h.1
    step false rest = (h.0, rest)

pub rises-set : (t : ℕ → Bool) (a n : ℕ) (d w : Drive) (es : List (ℕ × Drive)) → lookup t es ≡ Some d → w.number ≡ d.number → RisesBetween a n es → RisesBetween a n (set_value t es w)
rises-set t a n d w [] some same h = h
rises-set t a n d w (e ∷ es) some same h = step (t e.0) some (λ later. rises-set t (e.1.number + 1) n d w es later same h.1)
  where
    step : (b : Bool) → cond b (Some e.1) (lookup t es) ≡ Some d → (lookup t es ≡ Some d → RisesBetween (e.1.number + 1) n (set_value t es w))
        → RisesBetween a n (cond b ((e.0, w) ∷ es) (e ∷ set_value t es w))
    step true some rest =
        let one : e.1 ≡ d = cc in
        let number : w.number ≡ e.1.number = same ∙ ap (λ x. x.number) (sym one) in
        let own = h.0 in
        (omega (arith, own, number), subst (λ k. RisesBetween (k + 1) n es) (sym number) h.1)
    step false some rest = (h.0, rest some)

-- no drive has a number below the first
pub rises-low : (t : ℕ → Bool) (a n : ℕ) (d : Drive) (es : List (ℕ × Drive)) → RisesBetween a n es → lookup t es ≡ Some d → a ≤ d.number
rises-low t a n d [] h some = absurd cc
rises-low t a n d (e ∷ es) h some = step (t e.0) some (rises-low t (e.1.number + 1) n d es h.1)
  where
    step : (b : Bool) → cond b (Some e.1) (lookup t es) ≡ Some d → (lookup t es ≡ Some d → e.1.number + 1 ≤ d.number) → a ≤ d.number
    step true some rest =
        let one : e.1 ≡ d = cc in
        subst (λ x. a ≤ x.number) one h.0
    step false some rest = let own = h.0 in let later = rest some in omega (arith, own, later)

-- ---- what a look-up finds

eq-flips : (x y : ℕ) → nat_eq x y ≡ nat_eq y x
eq-flips x y = grind (arith, nat_tests)

pub lookup-insert : (id j : ℕ) (d : Drive) (es : List (ℕ × Drive)) → lookup (nat_eq id) es ≡ None → lookup (nat_eq j) (insert_entry nat_eq es id d) ≡ cond (nat_eq id j) (Some d) (lookup (nat_eq j) es)
lookup-insert id j d es none = ap (lookup (nat_eq j)) (insert-new id d es none) ∙ last es none
  where
    grow : (e : ℕ × Drive) (es : List (ℕ × Drive)) (b c : Bool) → nat_eq j e.0 ≡ b → nat_eq id j ≡ c → cond (nat_eq id e.0) (Some e.1) (lookup (nat_eq id) es) ≡ None
        → cond b (Some e.1) (cond c (Some d) (lookup (nat_eq j) es)) ≡ cond c (Some d) (cond b (Some e.1) (lookup (nat_eq j) es))
    grow e es true true one two none =
        let is : nat_eq id e.0 ≡ true = grind (arith, nat_tests) in
        absurd (let gone = sym (ap (λ b. cond b (Some e.1) (lookup (nat_eq id) es)) is) ∙ none in cc)
    grow e es true false one two none = refl
    grow e es false true one two none = refl
    grow e es false false one two none = refl

    last : (xs : List (ℕ × Drive)) → lookup (nat_eq id) xs ≡ None → lookup (nat_eq j) (xs ++ (id, d) ∷ []) ≡ cond (nat_eq id j) (Some d) (lookup (nat_eq j) xs)
    last [] none = ap (λ b. cond b (Some d) None) (eq-flips j id)
    last (e ∷ es) none =
        ap (λ o. cond (nat_eq j e.0) (Some e.1) o) (last es (later (nat_eq id e.0) none)) ∙ grow e es (nat_eq j e.0) (nat_eq id j) refl refl none
      where
        later : (b : Bool) → cond b (Some e.1) (lookup (nat_eq id) es) ≡ None → lookup (nat_eq id) es ≡ None
        later true none = absurd cc
        later false none = none

-- ---- the times alone

pub times-insert : (id : ℕ) (d : Drive) (es : List (ℕ × Drive)) → times_in (insert_entry nat_eq es id d) ≡ insert_entry nat_eq (times_in es) id d.newest
times-insert id d [] = refl
times-insert id d (e ∷ es) = step (nat_eq id e.0) (times-insert id d es)
  where
    step : (b : Bool) → times_in (insert_entry nat_eq es id d) ≡ insert_entry nat_eq (times_in es) id d.newest
        → times_in (if b then (e.0, d) ∷ es else e ∷ insert_entry nat_eq es id d)
        ≡ (if b then (e.0, d.newest) ∷ times_in es else (e.0, e.1.newest) ∷ insert_entry nat_eq (times_in es) id d.newest)
    step true rest = refl
    step false rest = ap (λ l. (e.0, e.1.newest) ∷ l) rest

pub times-remove : (t : ℕ → Bool) (es : List (ℕ × Drive)) → times_in (remove_entry t es) ≡ remove_entry t (times_in es)
times-remove t [] = refl
times-remove t (e ∷ es) = step (t e.0) (times-remove t es)
  where
    step : (b : Bool) → times_in (remove_entry t es) ≡ remove_entry t (times_in es)
        → times_in (cond b es (e ∷ remove_entry t es)) ≡ cond b (times_in es) ((e.0, e.1.newest) ∷ remove_entry t (times_in es))
    step true rest = refl
    step false rest = ap (λ l. (e.0, e.1.newest) ∷ l) rest

pub times-lookup : (t : ℕ → Bool) (es : List (ℕ × Drive)) → lookup t (times_in es) ≡ option_map (λ d. d.newest) (lookup t es)
times-lookup t [] = refl
times-lookup t (e ∷ es) = step (t e.0) (times-lookup t es)
  where
    step : (b : Bool) → lookup t (times_in es) ≡ option_map (λ d. d.newest) (lookup t es)
        → cond b (Some e.1.newest) (lookup t (times_in es)) ≡ option_map (λ d. d.newest) (cond b (Some e.1) (lookup t es))
    step true rest = refl
    step false rest = rest

unmapped : (o : Option Drive) → option_map (λ d. d.newest) o ≡ None → o ≡ None
unmapped None is = refl
unmapped (Some d) is = absurd cc

pub no-drive : (id : ℕ) (es : List (ℕ × Drive)) → lookup (nat_eq id) (times_in es) ≡ None → lookup (nat_eq id) es ≡ None
no-drive id es none = unmapped (lookup (nat_eq id) es) (sym (times-lookup (nat_eq id) es) ∙ none)

zero-max : (time : ℕ) → max 0 time ≡ time
zero-max time = grind arith

-- the first time of a drive
pub time-first : (id time : ℕ) (es : List (ℕ × Drive)) → lookup (nat_eq id) es ≡ None → time_with (times_in es) id time ≡ time
time-first id time es none =
    ap (λ o. max (unwrap_or o 0) time) (times-lookup (nat_eq id) es ∙ ap (option_map (λ d. d.newest)) none) ∙ zero-max time

-- a newer time, and one that is not newer
pub time-later : (id time : ℕ) (d : Drive) (es : List (ℕ × Drive)) → lookup (nat_eq id) es ≡ Some d → time_with (times_in es) id time ≡ max d.newest time
time-later id time d es some = ap (λ o. max (unwrap_or o 0) time) (times-lookup (nat_eq id) es ∙ ap (option_map (λ x. x.newest)) some)

pub times-set : (id time : ℕ) (d w : Drive) (es : List (ℕ × Drive)) → lookup (nat_eq id) es ≡ Some d → w.newest ≡ time → d.newest < time
    → times_in (set_value (nat_eq id) es w) ≡ insert_entry nat_eq (times_in es) id (time_with (times_in es) id time)
times-set id time d w es some is newer =
    let most : max d.newest time ≡ time = grind arith in
    ap times_in (insert-held id w d es some) ∙ times-insert id w es
    ∙ ap (insert_entry nat_eq (times_in es) id) (is ∙ sym (time-later id time d es some ∙ most))

pub times-stay : (id time : ℕ) (d : Drive) (es : List (ℕ × Drive)) → lookup (nat_eq id) es ≡ Some d → time ≤ d.newest
    → times_in es ≡ insert_entry nat_eq (times_in es) id (time_with (times_in es) id time)
times-stay id time d es some older =
    let most : max d.newest time ≡ d.newest = grind arith in
    let found : lookup (nat_eq id) (times_in es) ≡ Some d.newest = times-lookup (nat_eq id) es ∙ ap (option_map (λ x. x.newest)) some in
    sym (set_value_same (nat_eq id) (times_in es) d.newest found) ∙ insert-held id d.newest d.newest (times_in es) found
    ∙ ap (insert_entry nat_eq (times_in es) id) (sym (time-later id time d es some ∙ most))
