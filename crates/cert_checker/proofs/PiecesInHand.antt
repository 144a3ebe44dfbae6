-- The pieces that end at a point or later: the first of them decides what stands at the point.
use Rattle.std.proofs.Common.{◌≡◌, ℕ, ◌+◌, ◌-◌, ◌≤◌, ◌==◌, Bool, true, false, List, [], ◌∷◌, ◌++◌, Some, None, length, drop, take, refl, sym, ◌∙◌, ap, subst, arith, append_assoc}
use Rattle.std.specs.Prelude.{◌&&◌, nat_le, nat_lt, slice_get}
use Rattle.std.specs.List.{list_all, list_any}
use Rattle.std.proofs.lemmas.Bool.{and_parts, and_from, and_left, eqb-true, le-leb, leb-true, lt-ltb, ltb-true, ne_eqb}
use Rattle.std.proofs.lemmas.List.{take_all, length-drop}
use Rattle.std.proofs.lemmas.List.Folds.{list_all-append}
use Rattle.std.proofs.lemmas.Option.{same_Some}
use Rattle.match_text.specs.declared.matched.Routed.{Routed}
use Rattle.cert_checker.specs.Pieces.{begins, goes_on, is_in, is_in_any, rise_from}
use Rattle.cert_checker.specs.inside.InHand.{AreLeft, IsEnding}
use Rattle.cert_checker.proofs.RisingPieces.{AllMiss, Misses, all_ended, all_later, none_passes, not_in, not_last, one_any, placed}

-- the first of the pieces that end at point i or later
record IsHead (pieces : List Routed) (i : ℕ) (q : Routed) : Type 0 where
  pub before : List Routed
  pub after : List Routed
  pub parts : pieces ≡ before ++ q ∷ after
  pub rise : rise_from 0 pieces ≡ true
  pub some : q.first ≤ q.last
  pub to_last : i ≤ q.last
  pub front : AllMiss i before
  pub back : AllMiss i after

head_is : (pieces left : List Routed) (i : ℕ) (q : Routed) (more : List Routed) → AreLeft pieces left i → left ≡ q ∷ more → IsHead pieces i q
head_is pieces left i q more h is =
    let parts : pieces ≡ h.ended ++ q ∷ more = h.parts ∙ ap (λ x. h.ended ++ x) is in
    let p = placed 0 h.ended q more (subst (λ x. rise_from 0 x ≡ true) parts h.rise) in
    let on : list_all (λ x. nat_le i x.last) (q ∷ more) ≡ true = subst (λ x. list_all (λ y. nat_le i y.last) x ≡ true) is h.on in
    let le = leb-true i q.last (and_parts (nat_le i q.last) _ on).0 in
    record {
      before = h.ended;
      after = more;
      parts = parts;
      rise = h.rise;
      some = p.some;
      to_last = le;
      front = all_ended i h.ended h.before;
      back = all_later (q.last + 1) i more p.later (omega (arith, le));
    }

split_first : (left : List Routed) (q : Routed) → Some q ≡ slice_get left 0 → left ≡ q ∷ drop 1 left
split_first [] q is = absurd (cc)
split_first (x ∷ more) q is = ap (λ y. y ∷ more) (sym (same_Some q x is))

no_piece_left : (left : List Routed) → None ≡ slice_get left 0 → left ≡ []
no_piece_left [] is = refl
no_piece_left (x ∷ more) is = absurd (cc)

head_of : (pieces left : List Routed) (i : ℕ) (q : Routed) → AreLeft pieces left i → Some q ≡ slice_get left 0 → IsHead pieces i q
head_of pieces left i q h is = head_is pieces left i q (drop 1 left) h (split_first left q is)

-- what only a piece at the point passes
abbrev IsOff : (Routed → Bool) → ℕ → Type 0
IsOff f i = (p : Routed) → Misses i p → f p ≡ false

at_head : (pieces : List Routed) (i : ℕ) (q : Routed) (f : Routed → Bool) → IsHead pieces i q → IsOff f i → list_any f pieces ≡ f q
at_head pieces i q f h off = ap (list_any f) h.parts ∙ one_any f i h.before h.after q off h.front h.back

append_nil : (xs : List Routed) → xs ++ [] ≡ xs
append_nil [] = refl
append_nil (x ∷ xs) = ap (λ y. x ∷ y) (append_nil xs)

at_none : (pieces left : List Routed) (i : ℕ) (f : Routed → Bool) → AreLeft pieces left i → None ≡ slice_get left 0 → IsOff f i → list_any f pieces ≡ false
at_none pieces left i f h is off =
    let all : pieces ≡ h.ended = h.parts ∙ ap (λ x. h.ended ++ x) (no_piece_left left is) ∙ append_nil h.ended in
    ap (list_any f) all ∙ none_passes f i h.ended off (all_ended i h.ended h.before)

abbrev starts_at : ℕ → Routed → Bool
starts_at i q = is_in i q && (q.first == i)

abbrev starts_before : ℕ → Routed → Bool
starts_before i q = is_in i q && nat_lt q.first i

starts_off : (i : ℕ) → IsOff (starts_at i) i
starts_off i p m = and_left (is_in i p) (p.first == i) (not_in i p m)

before_off : (i : ℕ) → IsOff (starts_before i) i
before_off i p m = and_left (is_in i p) (nat_lt p.first i) (not_in i p m)

-- within the piece's end, its beginning decides
in_by_first : (i : ℕ) (q : Routed) → i ≤ q.last → nat_le q.first i ≡ is_in i q
in_by_first i q le = sym (ap (λ v. nat_le q.first i && v) (le-leb i q.last le) ∙ and_true (nat_le q.first i))
  where
    and_true : (x : Bool) → (x && true) ≡ x
    and_true true = refl
    and_true false = refl

by_test : (x y z : Bool) → x ≡ y → (z ≡ true → y ≡ true) → z ≡ (x && z)
by_test x y true is h = sym (ap (λ v. v && true) (is ∙ h refl))
by_test true y false is h = refl
by_test false y false is h = refl

eq_first : (a b : ℕ) → (a == b) ≡ true → nat_le a b ≡ true
eq_first a b e = let same = eqb-true a b e in le-leb a b (omega (arith, same))

lt_first : (a b : ℕ) → nat_lt a b ≡ true → nat_le a b ≡ true
lt_first a b e = le-leb a b (omega (arith, ltb-true a b e))

pub in_any_by_first : (pieces left : List Routed) (i : ℕ) (q : Routed) → AreLeft pieces left i → Some q ≡ slice_get left 0 → nat_le q.first i ≡ is_in_any pieces i
in_any_by_first pieces left i q h is =
    let head = head_of pieces left i q h is in
    in_by_first i q head.to_last ∙ sym (at_head pieces i q (is_in i) head (not_in i))

pub in_any_by_none : (pieces left : List Routed) (i : ℕ) → AreLeft pieces left i → None ≡ slice_get left 0 → false ≡ is_in_any pieces i
in_any_by_none pieces left i h is = sym (at_none pieces left i (is_in i) h is (not_in i))

pub begins_by_first : (pieces left : List Routed) (i : ℕ) (q : Routed) → AreLeft pieces left i → Some q ≡ slice_get left 0 → (q.first == i) ≡ begins pieces i
begins_by_first pieces left i q h is =
    let head = head_of pieces left i q h is in
    by_test (is_in i q) (nat_le q.first i) (q.first == i) (sym (in_by_first i q head.to_last)) (eq_first q.first i)
    ∙ sym (at_head pieces i q (starts_at i) head (starts_off i))

pub begins_by_none : (pieces left : List Routed) (i : ℕ) → AreLeft pieces left i → None ≡ slice_get left 0 → false ≡ begins pieces i
begins_by_none pieces left i h is = sym (at_none pieces left i (starts_at i) h is (starts_off i))

pub goes_on_by_first : (pieces left : List Routed) (i : ℕ) (q : Routed) → AreLeft pieces left i → Some q ≡ slice_get left 0 → nat_lt q.first i ≡ goes_on pieces i
goes_on_by_first pieces left i q h is =
    let head = head_of pieces left i q h is in
    by_test (is_in i q) (nat_le q.first i) (nat_lt q.first i) (sym (in_by_first i q head.to_last)) (lt_first q.first i)
    ∙ sym (at_head pieces i q (starts_before i) head (before_off i))

pub goes_on_by_none : (pieces left : List Routed) (i : ℕ) → AreLeft pieces left i → None ≡ slice_get left 0 → false ≡ goes_on pieces i
goes_on_by_none pieces left i h is = sym (at_none pieces left i (starts_before i) h is (before_off i))

pub ending_is : (pieces left : List Routed) (i : ℕ) (q : Routed) → AreLeft pieces left i → Some q ≡ slice_get left 0 → q.last ≡ i → IsEnding pieces i q
ending_is pieces left i q h is ends =
    let head = head_of pieces left i q h is in
    let some = head.some in
    record {
      has = record {
        before = head.before;
        after = head.after;
        parts = head.parts;
        rise = head.rise;
        is_in = and_from (nat_le q.first i) (nat_le i q.last) (le-leb q.first i (omega (arith, some, ends))) (le-leb i q.last (omega (arith, ends)));
      };
      ends = ends;
    }

pub no_ending : (pieces left : List Routed) (i : ℕ) (q : Routed) → AreLeft pieces left i → Some q ≡ slice_get left 0 → (q.last ≡ i → ⊥) → list_any (λ (p : Routed). p.last == i) pieces ≡ false
no_ending pieces left i q h is ne = at_head pieces i q (λ p. p.last == i) (head_of pieces left i q h is) (not_last i) ∙ ne_eqb q.last i ne

pub none_ending : (pieces left : List Routed) (i : ℕ) → AreLeft pieces left i → None ≡ slice_get left 0 → list_any (λ (p : Routed). p.last == i) pieces ≡ false
none_ending pieces left i h is = at_none pieces left i (λ p. p.last == i) h is (not_last i)

-- pieces that have ended before point i have before the next
ended_more : (i : ℕ) (pieces : List Routed) → list_all (λ q. nat_lt q.last i) pieces ≡ true → list_all (λ q. nat_lt q.last (i + 1)) pieces ≡ true
ended_more i [] h = refl
ended_more i (q ∷ pieces) h =
    let a = and_parts (nat_lt q.last i) _ h in
    let lt = ltb-true q.last i a.0 in
    and_from (nat_lt q.last (i + 1)) _ (lt-ltb q.last (i + 1) (omega (arith, lt))) (ended_more i pieces a.1)

on_later : (n m : ℕ) (pieces : List Routed) → rise_from n pieces ≡ true → m ≤ n → list_all (λ q. nat_le m q.last) pieces ≡ true
on_later n m [] rise le = refl
on_later n m (q ∷ pieces) rise le =
    let a = and_parts (nat_le n q.first) _ rise in
    let b = and_parts (nat_le q.first q.last) _ a.1 in
    let low = leb-true n q.first a.0 in
    let some = leb-true q.first q.last b.0 in
    and_from (nat_le m q.last) _ (le-leb m q.last (omega (arith, low, some, le))) (on_later (q.last + 1) m pieces b.1 (omega (arith, low, some, le)))

next_piece-is_left : (pieces left : List Routed) (i : ℕ) (q : Routed) (more : List Routed) → AreLeft pieces left i → left ≡ q ∷ more → q.last ≡ i → AreLeft pieces more (i + 1)
next_piece-is_left pieces left i q more h is ends =
    let parts : pieces ≡ h.ended ++ q ∷ more = h.parts ∙ ap (λ x. h.ended ++ x) is in
    let p = placed 0 h.ended q more (subst (λ x. rise_from 0 x ≡ true) parts h.rise) in
    record {
      ended = h.ended ++ q ∷ [];
      parts = parts ∙ sym (append_assoc h.ended (q ∷ []) more);
      rise = h.rise;
      before = list_all-append (λ x. nat_lt x.last (i + 1)) h.ended (q ∷ [])
          ∙ and_from (list_all (λ x. nat_lt x.last (i + 1)) h.ended) _ (ended_more i h.ended h.before) (and_from (nat_lt q.last (i + 1)) true (lt-ltb q.last (i + 1) (omega (arith, ends))) refl);
      on = on_later (q.last + 1) (i + 1) more p.later (omega (arith, ends));
    }

pub next_left : (pieces left : List Routed) (i : ℕ) (q : Routed) → AreLeft pieces left i → Some q ≡ slice_get left 0 → q.last ≡ i → AreLeft pieces (take (length left - 1) (drop 1 left)) (i + 1)
next_left pieces left i q h is ends =
    let whole : take (length left - 1) (drop 1 left) ≡ drop 1 left = take_all (length left - 1) (drop 1 left) (omega (arith, length-drop 1 left)) in
    subst (λ x. AreLeft pieces x (i + 1)) (sym whole) (next_piece-is_left pieces left i q (drop 1 left) h (split_first left q is) ends)

pub same_left : (pieces left : List Routed) (i : ℕ) (q : Routed) → AreLeft pieces left i → Some q ≡ slice_get left 0 → (q.last ≡ i → ⊥) → AreLeft pieces left (i + 1)
same_left pieces left i q h is ne =
    let more = drop 1 left in
    let split = split_first left q is in
    let parts : pieces ≡ h.ended ++ q ∷ more = h.parts ∙ ap (λ x. h.ended ++ x) split in
    let p = placed 0 h.ended q more (subst (λ x. rise_from 0 x ≡ true) parts h.rise) in
    let head = head_of pieces left i q h is in
    let le = head.to_last in
    let lt : i + 1 ≤ q.last = omega (arith, le, ne) in
    record {
      ended = h.ended;
      parts = h.parts;
      rise = h.rise;
      before = ended_more i h.ended h.before;
      on = ap (list_all (λ x. nat_le (i + 1) x.last)) split
          ∙ and_from (nat_le (i + 1) q.last) _ (le-leb (i + 1) q.last lt) (on_later (q.last + 1) (i + 1) more p.later (omega (arith, lt)));
    }

pub empty_left : (pieces left : List Routed) (i : ℕ) → AreLeft pieces left i → None ≡ slice_get left 0 → AreLeft pieces left (i + 1)
empty_left pieces left i h is = record {
  ended = h.ended;
  parts = h.parts;
  rise = h.rise;
  before = ended_more i h.ended h.before;
  on = ap (list_all (λ x. nat_le (i + 1) x.last)) (no_piece_left left is);
}

-- at first all pieces are left
pub all_left : (pieces : List Routed) → rise_from 0 pieces ≡ true → AreLeft pieces pieces 0
all_left pieces rise = record { ended = []; parts = refl; rise = rise; before = refl; on = on_later 0 0 pieces rise (omega arith) }
