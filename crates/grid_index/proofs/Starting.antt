-- Where the entries of each slot begin.
use Rattle.std.proofs.Common.{◌≡◌, ℕ, ◌+◌, ◌<◌, ◌≤◌, List, [], ◌∷◌, ◌++◌, length, get_or, refl, sym, ap, subst, arith, length-append, ⊎_elim}
use Rattle.std.specs.List.Sorted.{IsNonDecreasingBy}
use Rattle.std.proofs.lemmas.Bool.{cases_lt}
use Rattle.std.proofs.lemmas.List.{get_or_append_left, get_or_default, get_or_push}
use Rattle.grid_index.specs.declared.entries.Entry.{Entry}
use Rattle.grid_index.specs.inside.Starts.{AreBefore, AreStarts, IsStart}

-- the first entry that is not before parts the entries
pub start_at : (entries : List Entry) (slot place : ℕ) (e : Entry) → IsNonDecreasingBy (λ e. e.slot) entries → place < length entries
    → AreBefore entries place slot → slot ≤ (get_or entries place e).slot → IsStart entries slot place
start_at entries slot place e sorted lt before at = record {
  within = omega (arith, lt);
  before = before;
  after = λ i d le under.
      let up = sorted place i e le under in
      let there = ap (λ (x : Entry). x.slot) (get_or_default entries i e d under) in
      omega (arith, up, there, at);
}

-- one more start
pub starts_more : (entries : List Entry) (starts more : List ℕ) (count place : ℕ) → AreStarts entries starts count → IsStart entries count place
    → more ≡ starts ++ place ∷ [] → AreStarts entries more (count + 1)
starts_more entries starts more count place h k e =
    subst (λ xs. AreStarts entries xs (count + 1)) (sym e) (record {
      count_is = omega (arith, length-append starts (place ∷ []), h.count_is);
      each = λ slot lt.
          ⊎_elim
          (λ below. subst (λ p. IsStart entries slot p) (sym (get_or_append_left starts (place ∷ []) 0 slot (omega (arith, below, h.count_is)))) (h.each slot below))
          (λ here.
          let s : count ≡ slot = omega (arith, lt, here) in
          subst (λ p. IsStart entries slot p) (sym (get_or_push starts place 0 slot (omega (arith, h.count_is, s)))) (subst (λ v. IsStart entries v place) s k))
          (cases_lt slot count);
    })

pub start_none : (entries : List Entry) → IsStart entries 0 0
start_none entries = record { within = omega arith; before = λ i d lt. absurd (omega (arith, lt)); after = λ i d le lt. omega arith }

pub starts_none : (entries : List Entry) → AreStarts entries [] 0
starts_none entries = record { count_is = refl; each = λ slot lt. absurd (omega (arith, lt)) }
