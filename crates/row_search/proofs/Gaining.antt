-- Queues that gain a node, or none, and what trying an arc leaves, in whatever order the queue is.
use Rattle.std.proofs.Common.{◌≡◌, ℕ, zero, suc, ◌+◌, ◌<◌, ◌≤◌, ◌⊎◌, inl, inr, Bool, true, false, length, List, [], ◌∷◌, ◌++◌, slice_index_or, refl, sym, ap, subst, arith}
use Rattle.std.proofs.lemmas.Bool.{false≢true}
use Rattle.std.proofs.lemmas.List.Elements.{All-cons, Contains-append_right}
use Rattle.std.proofs.lemmas.List.Sorted.{All-permutation, Contains-permutation, IsPermutation-append_right, IsPermutation-middle, IsPermutation-sym, IsPermutation-trans, length_permutation}
use Rattle.std.specs.List.{All, Contains}
use Rattle.std.specs.List.Sorted.{IsPermutation}
use Rattle.row_search.specs.declared.queue.Waiting.{Waiting}
use Rattle.road_network.specs.declared.Arc.{Arc}
use Rattle.row_search.specs.inside.Underway.{SearchState, is_nearer, item_by, words_after}

-- x waits too, where it is to
abbrev pub Gains : Bool → Waiting → List Waiting → List Waiting → Type 0
Gains true x old new = IsPermutation (x ∷ old) new
Gains false x old new = new ≡ old

-- a better label is written, and its node waits if it is nearer
pub record Tries (bound d : ℕ) (a : Arc) (old new : SearchState) : Type 0 where
  pub words : new.words ≡ words_after bound d a old.words
  pub queue : Gains (is_nearer bound d a old.words) (item_by d a) old.queue new.queue

front_or_rest_at : {X : Type 0} (x : X) (xs : List X) (y : X) (k : ℕ) → k < length (x ∷ xs) → slice_index_or (x ∷ xs) k y ≡ y → (y ≡ x) ⊎ Contains xs y
front_or_rest_at x xs y zero lt e = inl (sym e)
front_or_rest_at x xs y (suc k) lt e = inr (k, omega arith, e)

-- what is listed is at the front or behind it
pub front_or_rest : {X : Type 0} (x : X) (xs : List X) (y : X) → Contains (x ∷ xs) y → (y ≡ x) ⊎ Contains xs y
front_or_rest x xs y h = front_or_rest_at x xs y h.0 h.1 h.2

pub in_front : {X : Type 0} (x : X) (xs : List X) → Contains (x ∷ xs) x
in_front x xs = (0, omega arith, refl)

behind : {X : Type 0} (x : X) (xs : List X) (y : X) → Contains xs y → Contains (x ∷ xs) y
behind x xs y h = Contains-append_right (x ∷ []) xs y h

-- a queue that gains a node keeps all others
pub gains_keeps : (b : Bool) (x : Waiting) (old new : List Waiting) → Gains b x old new → (y : Waiting) → Contains old y → Contains new y
gains_keeps true x old new g y h = Contains-permutation (x ∷ old) new y g (behind x old y h)
gains_keeps false x old new g y h = subst (λ (k : List Waiting). Contains k y) (sym g) h

-- the node that it gains waits
pub gains_there : (b : Bool) (x : Waiting) (old new : List Waiting) → b ≡ true → Gains b x old new → Contains new x
gains_there true x old new is g = Contains-permutation (x ∷ old) new x g (in_front x old)
gains_there false x old new is g = absurd (false≢true is)

-- what holds of all holds still, where it holds of that node
pub gains_inside : (P : Waiting → Type 0) (b : Bool) (x : Waiting) (old new : List Waiting) → Gains b x old new → (b ≡ true → P x) → All P old → All P new
gains_inside P true x old new g here all = All-permutation P (x ∷ old) new g (All-cons P x old (here refl) all)
gains_inside P false x old new g here all = subst (All P) (sym g) all

-- it is at most one longer
pub gains_length : (b : Bool) (x : Waiting) (old new : List Waiting) → Gains b x old new → length new ≤ length old + 1
gains_length true x old new g = omega (arith, length_permutation (x ∷ old) new g)
gains_length false x old new g = omega (arith, ap length g)

-- and it gains it beside others too
pub gains_beside : (b : Bool) (x : Waiting) (taken old new : List Waiting) → Gains b x old new → Gains b x (taken ++ old) (taken ++ new)
gains_beside true x taken old new g = IsPermutation-trans (x ∷ (taken ++ old)) (taken ++ x ∷ old) (taken ++ new) (IsPermutation-sym (taken ++ x ∷ old) (x ∷ (taken ++ old)) (IsPermutation-middle taken x old)) (IsPermutation-append_right taken (x ∷ old) new g)
gains_beside false x taken old new g = ap (λ (k : List Waiting). taken ++ k) g
