-- One more name among those of the edges.
use Rattle.std.proofs.Common.{◌≡◌, ℕ, ◌-◌, ◌<◌, ◌≤◌, ◌++◌, ◌||◌, Bool, true, false, List, [], ◌∷◌, inl, inr, refl, ap, ◌∙◌, arith, length, get_or, All, length-append}
use Rattle.std.proofs.lemmas.Bool.{cases_Bool}
use Rattle.std.proofs.lemmas.Bool.Decides.{nat_tests}
use Rattle.std.proofs.lemmas.List.{get_or_push}
use Rattle.std.proofs.lemmas.List.Elements.{All-push}
use Rattle.std.proofs.lemmas.List.Folds.{list_any-append, list_any_none}
use Rattle.std.specs.Prelude.{nat_eq}
use Rattle.std.specs.List.{list_any}
use Rattle.std.specs.Prelude.{Option, None, Some}
use Rattle.std.specs.HashSet.{HashSet}
use Rattle.indexmap.specs.IndexSet.{insert_key}
use Rattle.road_network.specs.inside.EdgeNames.{AreNames, HasNames, is_next, last_of}

next-above : (names : List ℕ) (name k d : ℕ) → All (λ n. n ≤ last_of names) names → is_next names name ≡ true → k < length names → get_or names k d < name
next-above [] name k d h next lt = absurd (omega (arith, lt))
next-above (first ∷ names) name k d h next lt =
    let last : last_of (first ∷ names) < name = grind (arith, nat_tests) in
    let here : get_or (first ∷ names) k d ≤ last_of (first ∷ names) = h k d lt in
    omega (arith, last, here)

not-same : (a b : ℕ) → b < a → nat_eq a b ≡ false
not-same a b h = grind (arith, nat_tests)

-- a name above the last is new
pub next-is-new : (names : List ℕ) (name : ℕ) → All (λ n. n ≤ last_of names) names → is_next names name ≡ true → list_any (nat_eq name) names ≡ false
next-is-new names name h next =
    list_any_none (nat_eq name) names (λ k d lt. not-same name (get_or names k d) (next-above names name k d h next lt))

-- it is then the greatest, and the last
pub next-is-last : (names : List ℕ) (name : ℕ) → All (λ n. n ≤ last_of names) names → is_next names name ≡ true
    → All (λ n. n ≤ last_of (names ++ name ∷ [])) (names ++ name ∷ [])
next-is-last names name h next =
    let last : last_of (names ++ name ∷ []) ≡ name = get_or_push names name 0 (length (names ++ name ∷ []) - 1) (omega (arith, length-append names (name ∷ []))) in
    All-push (λ n. n ≤ last_of (names ++ name ∷ [])) names name
    (λ k d lt. let above = next-above names name k d h next lt in omega (arith, above, last))
    (omega (arith, last))

same-name : (a b : ℕ) → nat_eq a b ≡ true → a ≡ b
same-name a b h = grind (arith, nat_tests)

or-false : (b : Bool) → b ≡ (b || (false || false))
or-false true = refl
or-false false = refl

-- a set with one more name
pub more-names : (keys names : List ℕ) (name : ℕ) → HasNames keys names → HasNames (insert_key nat_eq keys name) (names ++ name ∷ [])
more-names keys names name h m =
    let longer : list_any (nat_eq m) (names ++ name ∷ []) ≡ (list_any (nat_eq m) names || (nat_eq m name || false)) = list_any-append (nat_eq m) names (name ∷ []) in
    elim (cases_Bool (list_any (nat_eq name) keys)) [
      | inl there ↦
          elim (cases_Bool (nat_eq m name)) [
            | inl same ↦
                let e : m ≡ name = same-name m name same in
                let known : list_any (nat_eq m) keys ≡ true = ap (λ k. list_any (nat_eq k) keys) e ∙ there in
                rw (there, longer, ← h m, known) refl
            | inr other ↦ rw (there, longer, other, ← h m) (or-false (list_any (nat_eq m) keys))
          ]
      | inr new ↦ rw (new, list_any-append (nat_eq m) keys (name ∷ []), longer, h m) refl
    ]

-- what is kept of the names
pub kept-set : {S : Type 0} (kept : Option (HashSet ℕ S)) (set : HashSet ℕ S) (names : List ℕ) → kept ≡ Some set → AreNames kept names → HasNames set.keys names
kept-set kept set names e h = rw e at h

pub kept-none : {S : Type 0} (kept : Option (HashSet ℕ S)) (names : List ℕ) → kept ≡ None → AreNames kept names → All (λ n. n ≤ last_of names) names
kept-none kept names e h = rw e at h
