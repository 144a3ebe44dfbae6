-- The items of committed points, one by one.
use Rattle.std.proofs.Common.{◌≡◌, ℕ, ◌+◌, ◌-◌, ◌<◌, ◌≤◌, List, [], ◌∷◌, ◌++◌, sym, ap, ◌∙◌, subst, arith, length, ⊎_elim}
use Rattle.std.proofs.lemmas.Bool.{cases_lt}
use Rattle.std.proofs.lemmas.List.{length_push}
use Rattle.std.proofs.lemmas.List.FromFn.{map-range_with_len_more}
use Rattle.matching.specs.declared.parts.Layer.{Layer}
use Rattle.online_commit.specs.declared.items.Item.{Item}
use Rattle.online_commit.specs.inside.Masks.{IsNotOne, IsOnlyRank}
use Rattle.online_commit.specs.inside.Steps.{AreSettled, ranked_item, ranked_items}

pub ranked-more : (first : ℕ) (layers : List Layer) (rank : ℕ → ℕ) (start point : ℕ) → start ≤ point
    → ranked_items first layers rank start (point + 1 - start) ≡ ranked_items first layers rank start (point - start) ++ ranked_item first layers rank point ∷ []
ranked-more first layers rank start point le =
    let e : point + 1 - start ≡ point - start + 1 = omega (arith, le) in
    ap (ranked_items first layers rank start) e ∙ map-range_with_len_more (ranked_item first layers rank) start (point - start) point (omega (arith, le))

pub ranked-none : (first : ℕ) (layers : List Layer) (rank : ℕ → ℕ) (start : ℕ) → ranked_items first layers rank start (start - start) ≡ []
ranked-none first layers rank start = let e : start - start ≡ 0 = omega arith in ap (ranked_items first layers rank start) e

-- the points from `start` to before `point` have one rank each, and these are their items
pub record IsSettledSoFar (first : ℕ) (layers : List Layer) (mask : ℕ → ℕ) (start point : ℕ) (items : List Item) : Type 0 where
  pub count : length items ≡ point - start
  pub single : (j : ℕ) → start ≤ j → j < point → (r : ℕ) × IsOnlyRank (mask j) r
  pub are : (rank : ℕ → ℕ) → ((j : ℕ) → start ≤ j → j < point → IsOnlyRank (mask j) (rank j)) → items ≡ ranked_items first layers rank start (point - start)

pub settled-begin : (first : ℕ) (layers : List Layer) (mask : ℕ → ℕ) (start : ℕ) → IsSettledSoFar first layers mask start start []
settled-begin first layers mask start = record {
  count = omega arith;
  single = λ j ge lt. absurd (omega (arith, ge, lt));
  are = λ rank h. sym (ranked-none first layers rank start);
}

pub settled-more : (first : ℕ) (layers : List Layer) (mask : ℕ → ℕ) (start point r : ℕ) (items : List Item) (item : Item) → start ≤ point → IsSettledSoFar first layers mask start point items
    → IsOnlyRank (mask point) r → item ≡ ranked_item first layers (λ j. r) point → IsSettledSoFar first layers mask start (point + 1) (items ++ item ∷ [])
settled-more first layers mask start point r items item le h only is = record {
  count = let c = h.count in omega (arith, length_push items item, c, le);
  single = λ j ge lt. ⊎_elim (λ less. h.single j ge less) (λ more. let e : j ≡ point = omega (arith, lt, more) in (r, subst (λ i. IsOnlyRank (mask i) r) (sym e) only)) (cases_lt j point);
  are = λ rank each.
      let same : rank point ≡ r = only.1 (rank point) (each point le (omega arith)).0 in
      ap (λ ys. ys ++ item ∷ []) (h.are rank (λ j ge lt. each j ge (omega (arith, lt))))
      ∙ ap (λ x. ranked_items first layers rank start (point - start) ++ x ∷ []) (is ∙ ap (λ (k : ℕ). ranked_item first layers (λ j. k) point) (sym same))
      ∙ sym (ranked-more first layers rank start point le);
}

pub settled-ends : (first : ℕ) (layers : List Layer) (mask : ℕ → ℕ) (start point : ℕ) (items : List Item) → start ≤ point → point ≤ length layers → IsSettledSoFar first layers mask start point items
    → (point < length layers → IsNotOne (mask point)) → AreSettled first layers mask start items
settled-ends first layers mask start point items le le2 h ends =
    let count = h.count in
    let e : start + length items ≡ point = omega (arith, count, le) in
    record {
      within = omega (arith, e, le2);
      single = λ j ge lt. h.single j ge (omega (arith, lt, e));
      ends = λ lt. subst (λ k. IsNotOne (mask k)) (sym e) (ends (omega (arith, lt, e)));
      are = λ rank each. h.are rank (λ j ge lt. each j ge (omega (arith, lt, e))) ∙ ap (ranked_items first layers rank start) (sym count);
    }
