-- The best sequences that end in the latest point, as a list.
use Rattle.std.proofs.Common.{◌≡◌, ◌⊎◌, inl, inr, ⊎_elim, ℕ, zero, suc, ◌<◌, ltb, List, [], ◌∷◌, ◌++◌, Option, Some, None, refl, sym, ap, ◌∙◌, subst, arith, length, map, reverse}
use Rattle.std.specs.List.{All}
use Rattle.std.proofs.lemmas.List.{length-reverse, reverse-append, reverse-reverse}
use Rattle.std.proofs.lemmas.List.Elements.{All-cons, All-head, All-nil, All-tail}
use Rattle.matching.specs.Best.{Priced, ranks_below}
use Rattle.matching.specs.CellValue.{best_to}
use Rattle.matching.specs.CommittedValue.{end_of_rank, ends_of}
use Rattle.matching.specs.Sequences.{Trellis, IsBest, IsBestTo, added, arrival, cost}
use Rattle.matching.proofs.CellValues.{IsBestToOrNone, best_to-told, best_to-value}
use Rattle.matching.proofs.Costs.{added-parts, cost-in_range, cost-length}
use Rattle.matching.proofs.Fronts.{ends-in}
use Rattle.matching.proofs.Lists.{Among, among-below, guarded-parts}

-- ---- lists

abbrev pub some_of : List ℕ → List (Option ℕ)
some_of ranks = map (λ r. Some r) ranks

pub all-among : {X : Type 0} (P : X → Type 0) (xs : List X) → ((x : X) → Among x xs → P x) → All P xs
all-among P [] h = All-nil P
all-among P (x ∷ xs) h = All-cons P x xs (h x (inl refl)) (all-among P xs (λ y k. h y (inr k)))

pub among-all : {X : Type 0} (P : X → Type 0) (xs : List X) (x : X) → All P xs → Among x xs → P x
among-all P [] x are h = absurd h
among-all P (y ∷ xs) x are h = ⊎_elim (λ e. subst P (sym e) (All-head P y xs are)) (λ k. among-all P xs x (All-tail P y xs are) k) h

among-parts : {X : Type 0} (x : X) (xs ys : List X) → Among x (xs ++ ys) → Among x xs ⊎ Among x ys
among-parts x [] ys h = inr h
among-parts x (y ∷ xs) ys h = ⊎_elim (λ e. inl (inl e)) (λ k. ⊎_elim (λ a. inl (inr a)) (λ b. inr b) (among-parts x xs ys k)) h

pub among-mapped : {X Y : Type 0} (f : X → Y) (P : Y → Type 0) (xs : List X) → All P (map f xs) → All (λ x. P (f x)) xs
among-mapped f P [] h = All-nil (λ x. P (f x))
among-mapped f P (x ∷ xs) h = All-cons (λ y. P (f y)) x xs (All-head P (f x) (map f xs) h) (among-mapped f P xs (All-tail P (f x) (map f xs) h))

-- ---- the best sequences that end in the latest point

below-among : (n : ℕ) (lists : ℕ → List (List ℕ)) (x : List ℕ) → Among x (ranks_below n lists) → (j : ℕ) × Among x (lists j)
below-among zero lists x h = absurd h
below-among (suc n) lists x h = ⊎_elim (λ low. below-among n lists x low) (λ here. (n, here)) (among-parts x (ranks_below n lists) (lists n) h)

pub record IsEnd {L : Type 0} (t : Trellis L) (layers : List L) (x : List ℕ) : Type 0 where
  pub rank : ℕ
  pub price : ℕ
  pub ranks : List ℕ
  pub best : IsBestTo t layers rank price ranks
  pub is : x ≡ reverse (rank ∷ ranks)

end-from : {L : Type 0} (t : Trellis L) (layers : List L) (j : ℕ) (o : Option Priced) (x : List ℕ) → IsBestToOrNone t layers j o → Among x (end_of_rank j o) → IsEnd t layers x
end-from t layers j None x h among = absurd among
end-from t layers j (Some p) x h among =
    ⊎_elim (λ e. record { rank = j; price = p.cost; ranks = p.ranks; best = h; is = e }) (λ none. absurd none) among

pub ends-told : {L : Type 0} (t : Trellis L) (layers : List L) (x : List ℕ) → Among x (ends_of t layers) → IsEnd t layers x
ends-told t [] x h = absurd h
ends-told t (l ∷ layers) x h =
    let k = below-among (t.width l) (λ j. end_of_rank j (best_to t (l ∷ layers) j)) x h in
    end-from t (l ∷ layers) k.0 (best_to t (l ∷ layers) k.0) x (best_to-told t (l ∷ layers) k.0) k.1

pub ends-have : {L : Type 0} (t : Trellis L) (layers : List L) (j c : ℕ) (ranks : List ℕ) → IsBestTo t layers j c ranks → Among (reverse (j ∷ ranks)) (ends_of t layers)
ends-have t [] j c ranks best = absurd (let e = best.costs in cc)
ends-have t (l ∷ layers) j c ranks best =
    among-below (t.width l) j (λ k. end_of_rank k (best_to t (l ∷ layers) k)) (reverse (j ∷ ranks)) (cost-in_range t l layers j ranks c best.costs)
    (subst (λ o. Among (reverse (j ∷ ranks)) (end_of_rank j o)) (sym (best_to-value t (l ∷ layers) j c ranks best)) (inl refl))

pub end-length : {L : Type 0} (t : Trellis L) (layers : List L) (x : List ℕ) → IsEnd t layers x → length x ≡ length layers
end-length t layers x h = ap length h.is ∙ length-reverse (h.rank ∷ h.ranks) ∙ cost-length t layers (h.rank ∷ h.ranks) h.price h.best.costs

-- the best sequence of all is one of them
pub best-end : {L : Type 0} (t : Trellis L) (layers : List L) (c : ℕ) (ranks : List ℕ) → IsBest t layers c ranks → 0 < length layers → IsEnd t layers (reverse ranks)
best-end t [] c ranks best some = absurd (omega (arith, some))
best-end t (l ∷ layers) c ranks best some =
    let e = ends-in t l layers c ranks best in
    record { rank = e.0; price = c; ranks = e.1; best = e.3; is = ap reverse e.2 }

-- each rank is that of a candidate
unfoldable pub AllIn : {L : Type 0} → Trellis L → List L → List ℕ → Type 0
AllIn t [] [] = Unit {0}
AllIn t [] (r ∷ ranks) = ⊥
AllIn t (l ∷ layers) [] = ⊥
AllIn t (l ∷ layers) (r ∷ ranks) = (r < t.width l) × AllIn t layers ranks

in-behind : {L : Type 0} (t : Trellis L) (layers : List L) (ranks : List ℕ) (l : L) (j : ℕ) → AllIn t layers ranks → j < t.width l → AllIn t (layers ++ l ∷ []) (ranks ++ j ∷ [])
unfolding AllIn
in-behind t [] [] l j h low = (low, tt)
in-behind t [] (r ∷ ranks) l j h low = absurd h
in-behind t (m ∷ layers) [] l j h low = absurd h
in-behind t (m ∷ layers) (r ∷ ranks) l j h low = (h.0, in-behind t layers ranks l j h.1 low)

in-turned : {L : Type 0} (t : Trellis L) (layers : List L) (ranks : List ℕ) (c : ℕ) → cost t layers ranks ≡ Some c → AllIn t (reverse layers) (reverse ranks)
unfolding AllIn
in-turned t [] [] c h = tt
in-turned t [] (j ∷ ranks) c h = absurd (cc)
in-turned t (l ∷ layers) [] c h = absurd (cc)
in-turned t (l ∷ layers) (j ∷ ranks) c h =
    let low = cost-in_range t l layers j ranks c h in
    let g = guarded-parts (ltb j (t.width l)) (added (cost t layers ranks) (arrival t layers ranks l j) (t.emission l j)) c h in
    let before = added-parts (cost t layers ranks) (arrival t layers ranks l j) (t.emission l j) c g.1 in
    subst (λ ls. AllIn t ls (reverse (j ∷ ranks))) (sym (reverse-append (l ∷ []) layers))
    (subst (λ rs. AllIn t (reverse layers ++ l ∷ []) rs) (sym (reverse-append (j ∷ []) ranks))
    (in-behind t (reverse layers) (reverse ranks) l j (in-turned t layers ranks before.first before.first_is) low))

pub end-in : {L : Type 0} (t : Trellis L) (xs : List L) (x : List ℕ) → IsEnd t (reverse xs) x → AllIn t xs x
end-in t xs x h =
    subst (λ ls. AllIn t ls x) (reverse-reverse xs)
    (subst (AllIn t (reverse (reverse xs))) (sym h.is) (in-turned t (reverse xs) (h.rank ∷ h.ranks) h.price h.best.costs))
