-- The order of candidates, and how a list in order takes one more.
use Rattle.std.proofs.Common.{◌≡◌, ℕ, zero, suc, ◌*◌, ◌<◌, Bool, true, false, cond, leb, List, [], ◌∷◌, ◌++◌, take, All, refl, sym, ap, ◌∙◌, arith, ⊎_elim}
use Rattle.std.specs.List.{filter}
use Rattle.std.proofs.lemmas.Bool.{true≢false}
use Rattle.std.proofs.lemmas.List.Elements.{All-filter, filter-append}
use Rattle.road_network.specs.declared.Candidate.{Candidate}
use Rattle.road_network.specs.Near.{in_order, is_before, placed}
use Rattle.road_network.proofs.NearOrder.{chain, placed_after, placed_first, stand}
use Rattle.candidate_search.specs.inside.Nearest.{nearest, with_one}

swap_both : (x c d : Candidate) (r : List Candidate) → x.edge.0 < c.edge.0 → is_before c d ≡ true → is_before x d ≡ true
    → placed x (placed c (d ∷ r)) ≡ placed c (placed x (d ∷ r))
swap_both x c d r h ec ex =
    let left = ap (placed x) (placed_first c d r ec) in
    let right = ap (placed c) (placed_first x d r ex) in
    ⊎_elim
    (λ f. left ∙ placed_first x c (d ∷ r) f.0 ∙ sym (right ∙ placed_after c x (d ∷ r) f.1 ∙ ap (λ l. x ∷ l) (placed_first c d r ec)))
    (λ s. left ∙ placed_after x c (d ∷ r) s.0 ∙ ap (λ l. c ∷ l) (placed_first x d r ex) ∙ sym (right ∙ placed_first c x (d ∷ r) s.1))
    (stand x c h)

swap_one : (x c d : Candidate) (r : List Candidate) → x.edge.0 < c.edge.0 → is_before c d ≡ true → is_before x d ≡ false
    → placed x (placed c (d ∷ r)) ≡ placed c (placed x (d ∷ r))
swap_one x c d r h ec ex =
    ⊎_elim
    (λ f. absurd (true≢false (sym (chain x c d f.0 ec) ∙ ex)))
    (λ s.
    ap (placed x) (placed_first c d r ec) ∙ placed_after x c (d ∷ r) s.0 ∙ ap (λ l. c ∷ l) (placed_after x d r ex)
    ∙ sym (ap (placed c) (placed_after x d r ex) ∙ placed_first c d (placed x r) ec))
    (stand x c h)

swap_other : (x c d : Candidate) (r : List Candidate) → x.edge.0 < c.edge.0 → is_before c d ≡ false → is_before x d ≡ true
    → placed x (placed c (d ∷ r)) ≡ placed c (placed x (d ∷ r))
swap_other x c d r h ec ex =
    ⊎_elim
    (λ f.
    ap (placed x) (placed_after c d r ec) ∙ placed_first x d (placed c r) ex
    ∙ sym (ap (placed c) (placed_first x d r ex) ∙ placed_after c x (d ∷ r) f.1 ∙ ap (λ l. x ∷ l) (placed_after c d r ec)))
    (λ s. absurd (true≢false (sym (chain c x d s.1 ex) ∙ ec)))
    (stand x c h)

-- two candidates of different edges may be placed in either turn
placed_swap : (x c : Candidate) (l : List Candidate) → x.edge.0 < c.edge.0 → placed x (placed c l) ≡ placed c (placed x l)
placed_swap x c [] h =
    ⊎_elim
    (λ f. placed_first x c [] f.0 ∙ sym (placed_after c x [] f.1))
    (λ s. placed_after x c [] s.0 ∙ sym (placed_first c x [] s.1))
    (stand x c h)
placed_swap x c (d ∷ r) h =
    let both : (bc bx : Bool) → is_before c d ≡ bc → is_before x d ≡ bx → placed x (placed c (d ∷ r)) ≡ placed c (placed x (d ∷ r)) = λ bc bx.
    elim bc as (λ v. is_before c d ≡ v → is_before x d ≡ bx → placed x (placed c (d ∷ r)) ≡ placed c (placed x (d ∷ r))) [
      | true ↦ elim bx as (λ w. is_before c d ≡ true → is_before x d ≡ w → placed x (placed c (d ∷ r)) ≡ placed c (placed x (d ∷ r))) [
        | true ↦ λ ec ex. swap_both x c d r h ec ex
        | false ↦ λ ec ex. swap_one x c d r h ec ex
      ]
      | false ↦ elim bx as (λ w. is_before c d ≡ false → is_before x d ≡ w → placed x (placed c (d ∷ r)) ≡ placed c (placed x (d ∷ r))) [
        | true ↦ λ ec ex. swap_other x c d r h ec ex
        | false ↦ λ ec ex.
            ap (placed x) (placed_after c d r ec) ∙ placed_after x d (placed c r) ex ∙ ap (λ l. d ∷ l) (placed_swap x c r h)
            ∙ sym (ap (placed c) (placed_after x d r ex) ∙ placed_after c d (placed x r) ec)
      ]
    ]
    in both (is_before c d) (is_before x d) refl refl

in_order_push : (xs : List Candidate) (c : Candidate) → All (λ x. x.edge.0 < c.edge.0) xs → in_order (xs ++ c ∷ []) ≡ placed c (in_order xs)
in_order_push [] c h = refl
in_order_push (x ∷ xs) c h =
    ap (placed x) (in_order_push xs c (λ k d lt. h (suc k) d (omega (arith, lt)))) ∙ placed_swap x c (in_order xs) (h 0 x (omega arith))

take_twice : (k : ℕ) (r : List Candidate) → take k r ≡ take k (take (suc k) r)
take_twice zero r = refl
take_twice (suc k) [] = refl
take_twice (suc k) (d ∷ r) = ap (λ l. d ∷ l) (take_twice k r)

pub append_nil : (xs : List Candidate) → xs ++ [] ≡ xs
append_nil [] = refl
append_nil (x ∷ xs) = ap (λ l. x ∷ l) (append_nil xs)

take_cons : (k : ℕ) (d : Candidate) (r : List Candidate) → take k (d ∷ r) ≡ take k (d ∷ take k r)
take_cons zero d r = refl
take_cons (suc k) d r = ap (λ l. d ∷ l) (take_twice k r)

-- only the first k count, before one more is placed and after
take_placed : (k : ℕ) (c : Candidate) (l : List Candidate) → take k (placed c l) ≡ take k (placed c (take k l))
take_placed zero c l = refl
take_placed (suc k) c [] = refl
take_placed (suc k) c (d ∷ r) =
    let both : (b : Bool) → is_before c d ≡ b → take (suc k) (placed c (d ∷ r)) ≡ take (suc k) (placed c (d ∷ take k r)) = λ b.
    elim b as (λ v. is_before c d ≡ v → take (suc k) (placed c (d ∷ r)) ≡ take (suc k) (placed c (d ∷ take k r))) [
      | true ↦ λ e.
          ap (take (suc k)) (placed_first c d r e) ∙ ap (λ l. c ∷ l) (take_cons k d r) ∙ sym (ap (take (suc k)) (placed_first c d (take k r) e))
      | false ↦ λ e.
          ap (take (suc k)) (placed_after c d r e) ∙ ap (λ l. d ∷ l) (take_placed k c r) ∙ sym (ap (take (suc k)) (placed_after c d (take k r) e))
    ]
    in both (is_before c d) refl

-- one more snap, of a later edge
pub nearest_push : (k radius : ℕ) (snaps : List Candidate) (c : Candidate) → All (λ x. x.edge.0 < c.edge.0) snaps
    → nearest k radius (snaps ++ c ∷ []) ≡ with_one k radius (nearest k radius snaps) c
nearest_push k radius snaps c h =
    let near = λ (x : Candidate). leb x.d2 (radius * radius) in
    let both : (b : Bool) → leb c.d2 (radius * radius) ≡ b → nearest k radius (snaps ++ c ∷ []) ≡ cond b (take k (placed c (nearest k radius snaps))) (nearest k radius snaps) = λ b.
    elim b as (λ v. leb c.d2 (radius * radius) ≡ v → nearest k radius (snaps ++ c ∷ []) ≡ cond v (take k (placed c (nearest k radius snaps))) (nearest k radius snaps)) [
      | true ↦ λ e.
          ap (λ l. take k (in_order l)) (filter-append near snaps (c ∷ []) ∙ ap (λ v. filter near snaps ++ cond v (c ∷ []) []) e)
          ∙ ap (take k) (in_order_push (filter near snaps) c (All-filter near (λ (x : Candidate). x.edge.0 < c.edge.0) snaps h))
          ∙ take_placed k c (in_order (filter near snaps))
      | false ↦ λ e. ap (λ l. take k (in_order l)) (filter-append near snaps (c ∷ []) ∙ ap (λ v. filter near snaps ++ cond v (c ∷ []) []) e ∙ append_nil (filter near snaps))
    ]
    in both (leb c.d2 (radius * radius)) refl ∙ ap (λ b. cond b (take k (placed c (nearest k radius snaps))) (nearest k radius snaps)) refl
