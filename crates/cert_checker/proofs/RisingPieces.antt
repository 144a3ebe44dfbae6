-- Pieces that rise: at most one has a point, and which of them have ended.
use Rattle.std.proofs.Common.{◌≡◌, ℕ, ◌+◌, ◌<◌, ◌≤◌, ◌==◌, ◌⊎◌, inl, inr, Bool, true, false, List, [], ◌∷◌, ◌++◌, refl, ◌∙◌, ap, subst, arith}
use Rattle.std.specs.Prelude.{◌&&◌, ◌||◌, not, nat_le, nat_lt}
use Rattle.std.specs.List.{list_all, list_any}
use Rattle.std.proofs.lemmas.Bool.{and_parts, and_from, and_left, and_right, or_from, or_left, le-leb, leb-true, ltb-true, lt-leb, ne_eqb, not_from_false}
use Rattle.std.proofs.lemmas.List.Folds.{list_any-append, list_all-append}
use Rattle.match_text.specs.declared.matched.Routed.{Routed}
use Rattle.cert_checker.specs.Pieces.{begins, goes_on, is_in, is_in_any, rise_from}
use Rattle.cert_checker.specs.inside.InHand.{HasPoint}

-- the piece lies behind point i or before it
abbrev pub Misses : ℕ → Routed → Type 0
Misses i q = ((i < q.first) × (i < q.last)) ⊎ (q.last < i)

abbrev pub AllMiss : ℕ → List Routed → Type 0
AllMiss i [] = Unit {0}
AllMiss i (q ∷ pieces) = Misses i q × AllMiss i pieces

-- a piece among those that rise: what lies before and behind it
pub record IsPlaced (n : ℕ) (before : List Routed) (q : Routed) (after : List Routed) : Type 0 where
  pub from_least : n ≤ q.first
  pub some : q.first ≤ q.last
  pub ended : (i : ℕ) → q.first ≤ i → AllMiss i before
  pub later : rise_from (q.last + 1) after ≡ true

pub placed : (n : ℕ) (before : List Routed) (q : Routed) (after : List Routed) → rise_from n (before ++ q ∷ after) ≡ true → IsPlaced n before q after
placed n [] q after rise =
    let a = and_parts (nat_le n q.first) _ rise in
    let b = and_parts (nat_le q.first q.last) _ a.1 in
    record { from_least = leb-true n q.first a.0; some = leb-true q.first q.last b.0; ended = λ i h. tt; later = b.1 }
placed n (p ∷ before) q after rise =
    let a = and_parts (nat_le n p.first) _ rise in
    let b = and_parts (nat_le p.first p.last) _ a.1 in
    let low = leb-true n p.first a.0 in
    let some = leb-true p.first p.last b.0 in
    let rest = placed (p.last + 1) before q after b.1 in
    let above = rest.from_least in
    record {
      from_least = omega (arith, low, some, above);
      some = rest.some;
      ended = λ i h. (inr (omega (arith, above, h)), rest.ended i h);
      later = rest.later;
    }

-- those that rise from a later point miss this one
pub all_later : (n i : ℕ) (pieces : List Routed) → rise_from n pieces ≡ true → i < n → AllMiss i pieces
all_later n i [] rise lt = tt
all_later n i (q ∷ pieces) rise lt =
    let a = and_parts (nat_le n q.first) _ rise in
    let b = and_parts (nat_le q.first q.last) _ a.1 in
    let low = leb-true n q.first a.0 in
    let some = leb-true q.first q.last b.0 in
    (inl (omega (arith, low, lt), omega (arith, low, some, lt)), all_later (q.last + 1) i pieces b.1 (omega (arith, low, some, lt)))

pub all_ended : (i : ℕ) (pieces : List Routed) → list_all (λ q. nat_lt q.last i) pieces ≡ true → AllMiss i pieces
all_ended i [] h = tt
all_ended i (q ∷ pieces) h =
    let a = and_parts (nat_lt q.last i) _ h in
    (inr (ltb-true q.last i a.0), all_ended i pieces a.1)

-- no piece that misses a point passes a test that only one at that point passes
pub none_passes : (f : Routed → Bool) (i : ℕ) (pieces : List Routed) → ((q : Routed) → Misses i q → f q ≡ false) → AllMiss i pieces → list_any f pieces ≡ false
none_passes f i [] off h = refl
none_passes f i (q ∷ pieces) off h = or_from (f q) (list_any f pieces) (off q h.0) (none_passes f i pieces off h.1)

pub all_pass : (f : Routed → Bool) (i : ℕ) (pieces : List Routed) → ((q : Routed) → Misses i q → f q ≡ true) → AllMiss i pieces → list_all f pieces ≡ true
all_pass f i [] off h = refl
all_pass f i (q ∷ pieces) off h = and_from (f q) (list_all f pieces) (off q h.0) (all_pass f i pieces off h.1)

or_false : (x : Bool) → (x || false) ≡ x
or_false true = refl
or_false false = refl

and_true : (x : Bool) → (x && true) ≡ x
and_true true = refl
and_true false = refl

-- the one piece at a point decides
pub one_any : (f : Routed → Bool) (i : ℕ) (before after : List Routed) (q : Routed) → ((p : Routed) → Misses i p → f p ≡ false) → AllMiss i before → AllMiss i after
    → list_any f (before ++ q ∷ after) ≡ f q
one_any f i before after q off front back =
    list_any-append f before (q ∷ after)
    ∙ ap (λ v. v || (f q || list_any f after)) (none_passes f i before off front)
    ∙ ap (λ v. f q || v) (none_passes f i after off back)
    ∙ or_false (f q)

pub one_all : (f : Routed → Bool) (i : ℕ) (before after : List Routed) (q : Routed) → ((p : Routed) → Misses i p → f p ≡ true) → AllMiss i before → AllMiss i after
    → list_all f (before ++ q ∷ after) ≡ f q
one_all f i before after q off front back =
    list_all-append f before (q ∷ after)
    ∙ ap (λ v. v && (f q && list_all f after)) (all_pass f i before off front)
    ∙ ap (λ v. f q && v) (all_pass f i after off back)
    ∙ and_true (f q)

pub not_in : (i : ℕ) (q : Routed) → Misses i q → is_in i q ≡ false
not_in i q (inl h) = and_left (nat_le q.first i) (nat_le i q.last) (lt-leb q.first i h.0)
not_in i q (inr h) = and_right (nat_le q.first i) (nat_le i q.last) (lt-leb i q.last h)

pub not_last : (i : ℕ) (q : Routed) → Misses i q → (q.last == i) ≡ false
not_last i q (inl h) = ne_eqb q.last i (λ e. let lt = h.1 in omega (arith, lt, e))
not_last i q (inr h) = ne_eqb q.last i (λ e. omega (arith, h, e))

-- the bounds of the piece that has a point
pub record IsAmong (pieces : List Routed) (i : ℕ) (q : Routed) (before after : List Routed) : Type 0 where
  pub from_first : q.first ≤ i
  pub to_last : i ≤ q.last
  pub front : (k : ℕ) → q.first ≤ k → AllMiss k before
  pub back : (k : ℕ) → k ≤ q.last → AllMiss k after

pub among : (pieces : List Routed) (i : ℕ) (q : Routed) (h : HasPoint pieces i q) → IsAmong pieces i q h.before h.after
among pieces i q h =
    let rise : rise_from 0 (h.before ++ q ∷ h.after) ≡ true = subst (λ x. rise_from 0 x ≡ true) h.parts h.rise in
    let p = placed 0 h.before q h.after rise in
    let ends = and_parts (nat_le q.first i) (nat_le i q.last) h.is_in in
    record {
      from_first = leb-true q.first i ends.0;
      to_last = leb-true i q.last ends.1;
      front = p.ended;
      back = λ k le. all_later (q.last + 1) k h.after p.later (omega (arith, le));
    }

-- at a point of a piece, this piece decides
pub any_is : (pieces : List Routed) (i k : ℕ) (q : Routed) (f : Routed → Bool) → HasPoint pieces i q → q.first ≤ k → k ≤ q.last
    → ((p : Routed) → Misses k p → f p ≡ false) → list_any f pieces ≡ f q
any_is pieces i k q f h ge le off =
    let a = among pieces i q h in
    ap (list_any f) h.parts ∙ one_any f k h.before h.after q off (a.front k ge) (a.back k le)

pub all_is : (pieces : List Routed) (i k : ℕ) (q : Routed) (f : Routed → Bool) → HasPoint pieces i q → q.first ≤ k → k ≤ q.last
    → ((p : Routed) → Misses k p → f p ≡ true) → list_all f pieces ≡ f q
all_is pieces i k q f h ge le off =
    let a = among pieces i q h in
    ap (list_all f) h.parts ∙ one_all f k h.before h.after q off (a.front k ge) (a.back k le)

in_piece : (k : ℕ) (q : Routed) → q.first ≤ k → k ≤ q.last → is_in k q ≡ true
in_piece k q ge le = and_from (nat_le q.first k) (nat_le k q.last) (le-leb q.first k ge) (le-leb k q.last le)

pub in_any_is : (pieces : List Routed) (i k : ℕ) (q : Routed) → HasPoint pieces i q → q.first ≤ k → k ≤ q.last → is_in_any pieces k ≡ true
in_any_is pieces i k q h ge le = any_is pieces i k q (is_in k) h ge le (not_in k) ∙ in_piece k q ge le

pub begins_is : (pieces : List Routed) (i k : ℕ) (q : Routed) → HasPoint pieces i q → q.first ≤ k → k ≤ q.last → begins pieces k ≡ (q.first == k)
begins_is pieces i k q h ge le =
    any_is pieces i k q (λ p. is_in k p && (p.first == k)) h ge le (λ p m. and_left (is_in k p) (p.first == k) (not_in k p m))
    ∙ ap (λ v. v && (q.first == k)) (in_piece k q ge le)

pub goes_on_is : (pieces : List Routed) (i k : ℕ) (q : Routed) → HasPoint pieces i q → q.first ≤ k → k ≤ q.last → goes_on pieces k ≡ nat_lt q.first k
goes_on_is pieces i k q h ge le =
    any_is pieces i k q (λ p. is_in k p && nat_lt p.first k) h ge le (λ p m. and_left (is_in k p) (nat_lt p.first k) (not_in k p m))
    ∙ ap (λ v. v && nat_lt q.first k) (in_piece k q ge le)

pub ended_is : (pieces : List Routed) (i : ℕ) (q : Routed) (test : Routed → Bool) → HasPoint pieces i q
    → list_all (λ p. not (p.last == i) || test p) pieces ≡ (not (q.last == i) || test q)
ended_is pieces i q test h =
    let a = among pieces i q h in
    all_is pieces i i q (λ p. not (p.last == i) || test p) h a.from_first a.to_last
    (λ p m. or_left (not (p.last == i)) (test p) (not_from_false (p.last == i) (not_last i p m)))
