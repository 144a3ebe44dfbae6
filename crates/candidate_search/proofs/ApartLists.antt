-- Lists of the nearest edges in which all are of different edges: one more, and the first few.
use Rattle.std.proofs.Common.{◌≡◌, ℕ, zero, suc, ◌<◌, ◌≤◌, ◌⊎◌, List, [], ◌∷◌, length, get_or, take, drop, All, sym, ◌∙◌, subst, inl, inr, arith, ⊎_elim, length-take}
use Rattle.std.specs.List.{Contains, insert}
use Rattle.std.proofs.lemmas.List.{get_or_default, get_or-take}
use Rattle.std.proofs.lemmas.List.Elements.{All-append, All-cons, All-drop, All-take}
use Rattle.std.proofs.lemmas.List.Kept.{AllPairs-cons}
use Rattle.candidate_search.specs.declared.best.NearEdge.{NearEdge}
use Rattle.candidate_search.specs.inside.Best.{AreApart, IsApart}

pub of_contained : (P : NearEdge → Type 0) (xs : List NearEdge) (x : NearEdge) → All P xs → Contains xs x → P x
of_contained P xs x h there = subst P there.2 (h there.0 x there.1)

pub all_contained : (P : NearEdge → Type 0) (xs : List NearEdge) → ((x : NearEdge) → Contains xs x → P x) → All P xs
all_contained P xs h i d lt = h (get_or xs i d) (i, lt, get_or_default xs i (get_or xs i d) d lt)

apart_head : (x : NearEdge) (r : List NearEdge) → AreApart (x ∷ r) → All (IsApart x) r
apart_head x r h i d lt = h 0 (suc i) d (omega arith) (omega (arith, lt))

apart_tail : (x : NearEdge) (r : List NearEdge) → AreApart (x ∷ r) → AreApart r
apart_tail x r h i j d lt under = h (suc i) (suc j) d (omega (arith, lt)) (omega (arith, under))

pub apart_insert : (xs : List NearEdge) (place : ℕ) (y : NearEdge) → AreApart xs → place ≤ length xs
    → ((i : ℕ) (d : NearEdge) → i < place → IsApart (get_or xs i d) y) → ((i : ℕ) (d : NearEdge) → place ≤ i → i < length xs → IsApart y (get_or xs i d))
    → AreApart (insert xs place y)
apart_insert [] zero y h le before after = AllPairs-cons IsApart y [] (λ i d lt. absurd (omega (arith, lt))) h
apart_insert [] (suc place) y h le before after = absurd (omega (arith, le))
apart_insert (x ∷ r) zero y h le before after = AllPairs-cons IsApart y (x ∷ r) (λ i d lt. after i d (omega arith) lt) h
apart_insert (x ∷ r) (suc place) y h le before after =
    let head = apart_head x r h in
    AllPairs-cons IsApart x (insert r place y)
    (All-append (IsApart x) (take place r) (y ∷ drop place r) (All-take (IsApart x) place r head)
    (All-cons (IsApart x) y (drop place r) (before 0 y (omega arith)) (All-drop (IsApart x) place r head)))
    (apart_insert r place y (apart_tail x r h) (omega (arith, le)) (λ i d lt. before (suc i) d (omega (arith, lt))) (λ i d from lt. after (suc i) d (omega (arith, from)) (omega (arith, lt))))

pub apart_take : (k : ℕ) (xs : List NearEdge) → AreApart xs → AreApart (take k xs)
apart_take k xs h i j d lt under =
    let l = length-take k xs in
    let a = get_or-take k xs i d (omega (arith, lt, under, l)) in
    let b = get_or-take k xs j d (omega (arith, under, l)) in
    subst (λ v. IsApart (get_or (take k xs) i d) v) (sym b) (subst (λ u. IsApart u (get_or xs j d)) (sym a) (h i j d lt (omega (arith, under, l))))

pub in_insert : (xs : List NearEdge) (place : ℕ) (y x : NearEdge) → Contains xs x → Contains (insert xs place y) x
in_insert [] place y x h = absurd (omega (arith, h.1))
in_insert (a ∷ r) zero y x h = (suc h.0, omega (arith, h.1), h.2)
in_insert (a ∷ r) (suc place) y x (zero, lt, is) = (0, omega arith, is)
in_insert (a ∷ r) (suc place) y x (suc i, lt, is) = let t = in_insert r place y x (i, omega (arith, lt), is) in (suc t.0, omega (arith, t.1), t.2)

pub from_insert : (xs : List NearEdge) (place : ℕ) (y x : NearEdge) → Contains (insert xs place y) x → Contains xs x ⊎ (x ≡ y)
from_insert [] zero y x (zero, lt, is) = inr (sym is)
from_insert [] zero y x (suc i, lt, is) = absurd (omega (arith, lt))
from_insert [] (suc place) y x (zero, lt, is) = inr (sym is)
from_insert [] (suc place) y x (suc i, lt, is) = absurd (omega (arith, lt))
from_insert (a ∷ r) zero y x (zero, lt, is) = inr (sym is)
from_insert (a ∷ r) zero y x (suc i, lt, is) = inl (i, omega (arith, lt), is)
from_insert (a ∷ r) (suc place) y x (zero, lt, is) = inl (0, omega arith, is)
from_insert (a ∷ r) (suc place) y x (suc i, lt, is) =
    ⊎_elim (λ t. inl (suc t.0, omega (arith, t.1), t.2)) (λ e. inr e) (from_insert r place y x (i, omega (arith, lt), is))

pub from_take : (k : ℕ) (xs : List NearEdge) (x : NearEdge) → Contains (take k xs) x → Contains xs x
from_take k xs x h =
    let l = length-take k xs in
    (h.0, omega (arith, h.1, l), sym (get_or-take k xs h.0 x (omega (arith, h.1, l))) ∙ h.2)
