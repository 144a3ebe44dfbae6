-- The numbers of nodes: each is the place of its id among the ids in the order of their first mention.
use Rattle.std.proofs.Common.{◌≡◌, ◌≢◌, ℕ, ◌+◌, ◌<◌, ◌≤◌, true, false, List, [], ◌∷◌, ◌++◌, length, get_or, refl, sym, ◌∙◌, inl, inr, arith, length-append}
use Rattle.std.specs.Prelude.{nat_eq}
use Rattle.std.specs.List.{fold, list_any}
use Rattle.std.proofs.lemmas.Bool.{cases_Bool, cases_lt}
use Rattle.std.proofs.lemmas.Bool.Decides.{nat_tests}
use Rattle.std.proofs.lemmas.List.{get_or_append_left, get_or_push}
use Rattle.std.proofs.lemmas.List.Folds.{list_any_at}
use Rattle.std.proofs.lemmas.List.Sums.{position_or_len_is}
use Rattle.road_network.specs.NetworkFile.{place_of, with_node}
use Rattle.road_network.proofs.Names.{nodes-grow, stays-at, stays}

-- no name stands twice
abbrev pub DoDiffer : List ℕ → Type 0
DoDiffer names = (u v : ℕ) → u < length names → v < length names → get_or names u 0 ≡ get_or names v 0 → u ≡ v

none-at : (names : List ℕ) (name v : ℕ) → list_any (nat_eq name) names ≡ false → v < length names → name ≢ get_or names v 0
none-at names name v none inside same =
    let is : nat_eq name (get_or names v 0) ≡ true = grind (arith, nat_tests) in
    let some : list_any (nat_eq name) names ≡ true = list_any_at (nat_eq name) names v 0 inside is in
    let no : true ≡ false = sym some ∙ none in
    cc no

differ-push : (names : List ℕ) (name : ℕ) → DoDiffer names → list_any (nat_eq name) names ≡ false → DoDiffer (names ++ name ∷ [])
differ-push names name differ none u v inside within same =
    let count : length (names ++ name ∷ []) ≡ length names + 1 = length-append names (name ∷ []) in
    let old : (i : ℕ) → i < length names → get_or (names ++ name ∷ []) i 0 ≡ get_or names i 0 = λ i lt. get_or_append_left names (name ∷ []) 0 i lt in
    let new : (i : ℕ) → length names ≡ i → get_or (names ++ name ∷ []) i 0 ≡ name = λ i last. get_or_push names name 0 i last in
    elim (cases_lt u (length names)) [
      | inl u-old ↦
          elim (cases_lt v (length names)) [
            | inl v-old ↦ differ u v u-old v-old (sym (old u u-old) ∙ same ∙ old v v-old)
            | inr v-new ↦ absurd (none-at names name u none u-old (sym (new v (omega (arith, v-new, within, count))) ∙ sym same ∙ old u u-old))
          ]
      | inr u-new ↦
          elim (cases_lt v (length names)) [
            | inl v-old ↦ absurd (none-at names name v none v-old (sym (new u (omega (arith, u-new, inside, count))) ∙ same ∙ old v v-old))
            | inr v-new ↦ omega (arith, inside, within, count, u-new, v-new)
          ]
    ]

differ-more : (names : List ℕ) (name : ℕ) → DoDiffer names → DoDiffer (with_node names name)
differ-more names name differ =
    elim (cases_Bool (list_any (nat_eq name) names)) [ inl t ↦ rw t differ | inr f ↦ rw f (differ-push names name differ f) ]

pub differ-all : (more names : List ℕ) → DoDiffer names → DoDiffer (fold with_node names more)
differ-all [] names differ = differ
differ-all (name ∷ more) names differ = differ-all more (with_node names name) (differ-more names name differ)

-- the place of a name that is there does not change
pub place-stays : (more names : List ℕ) (name : ℕ) → list_any (nat_eq name) names ≡ true → place_of (fold with_node names more) name ≡ place_of names name
place-stays [] names name known = refl
place-stays (other ∷ more) names name known = place-stays more (with_node names other) name (stays names name other known) ∙ stays-at names name other known

pub more-nodes : (more names : List ℕ) → length names ≤ length (fold with_node names more)
more-nodes [] names = omega arith
more-nodes (name ∷ more) names = omega (arith, nodes-grow names name, more-nodes more (with_node names name))

-- where no name stands twice, the place of a name is where it stands
pub place-is : (names : List ℕ) (v : ℕ) → DoDiffer names → v < length names → place_of names (get_or names v 0) ≡ v
place-is names v differ inside =
    position_or_len_is (nat_eq (get_or names v 0)) names v 0 (omega (arith, inside))
    (λ k before. other k before)
    (λ _. itself)
  where
    other : (k : ℕ) → k < v → nat_eq (get_or names v 0) (get_or names k 0) ≡ false
    other k before =
        let apart : get_or names v 0 ≢ get_or names k 0 = λ same. let e : v ≡ k = differ v k inside (omega (arith, before, inside)) same in omega (arith, e, before) in
        grind (arith, nat_tests)

    itself : nat_eq (get_or names v 0) (get_or names v 0) ≡ true
    itself = grind (arith, nat_tests)
