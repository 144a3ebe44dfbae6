-- The masks that change with one point more, from the last one back. In this file tables stand in the order of the
-- points.
use Rattle.std.proofs.Common.{◌≡◌, ℕ, ◌+◌, ◌-◌, ◌<◌, ◌≤◌, true, false, ltb, List, [], ◌∷◌, ◌++◌, refl, sym, ap, ◌∙◌, subst, arith, length, get_or, ⊎_elim}
use Rattle.std.proofs.lemmas.Bool.{cases_lt}
use Rattle.std.proofs.lemmas.Bool.Decides.{nat_tests}
use Rattle.std.proofs.lemmas.List.{get_or_append_left, length_push}
use Rattle.std.proofs.Math.Seq.{get_or-append_seam}
use Rattle.matching.specs.declared.parts.Cell.{Cell}
use Rattle.online_commit.specs.inside.Masks.{AreMasks, ArePreviousRanks, IsLiveMask, mask_after, mask_at}

-- k masks before the last point were looked at, and `behind` comes next; `old` is the number of points before
pub record IsChanging (tables : List (List Cell)) (cells : List Cell) (changed : List ℕ) (k behind : ℕ) : Type 0 where
  pub count : length changed ≡ k + 1
  pub live : IsLiveMask cells (get_or changed 0 0)
  pub back : (j : ℕ) → j < k → ArePreviousRanks (get_or (tables ++ cells ∷ []) (length tables - j) []) (get_or changed j 0) (get_or changed (j + 1) 0)
  pub next : ArePreviousRanks (get_or (tables ++ cells ∷ []) (length tables - k) []) (get_or changed k 0) behind

pub changing-begin : (tables : List (List Cell)) (cells : List Cell) (mask behind : ℕ) → IsLiveMask cells mask → ArePreviousRanks cells mask behind → IsChanging tables cells (mask ∷ []) 0 behind
changing-begin tables cells mask behind live next = record {
  count = refl;
  live = live;
  back = λ j lt. absurd (omega (arith, lt));
  next = (let e : length tables ≡ length tables - 0 = omega arith in
      subst (λ k. ArePreviousRanks (get_or (tables ++ cells ∷ []) k []) mask behind) e (subst (λ c. ArePreviousRanks c mask behind) (sym (get_or-append_seam tables cells [] [])) next));
}

pub changing-more : (tables : List (List Cell)) (cells table : List Cell) (changed : List ℕ) (k behind further : ℕ) → k < length tables → IsChanging tables cells changed k behind
    → table ≡ get_or tables (length tables - 1 - k) [] → ArePreviousRanks table behind further → IsChanging tables cells (changed ++ behind ∷ []) (k + 1) further
changing-more tables cells table changed k behind further lt h is next =
    let all = tables ++ cells ∷ [] in
    let count = h.count in
    let seam : get_or (changed ++ behind ∷ []) (k + 1) 0 ≡ behind = ap (λ i. get_or (changed ++ behind ∷ []) i 0) (sym count) ∙ get_or-append_seam changed behind [] 0 in
    let left : (j : ℕ) → j ≤ k → get_or (changed ++ behind ∷ []) j 0 ≡ get_or changed j 0 = λ j le. get_or_append_left changed (behind ∷ []) 0 j (omega (arith, le, count)) in
    let place : length tables - 1 - k ≡ length tables - (k + 1) = omega arith in
    let read : get_or all (length tables - (k + 1)) [] ≡ table = get_or_append_left tables (cells ∷ []) [] (length tables - (k + 1)) (omega (arith, lt)) ∙ ap (λ i. get_or tables i []) (sym place) ∙ sym is in
    record {
      count = omega (arith, length_push changed behind, count);
      live = subst (IsLiveMask cells) (sym (left 0 (omega arith))) h.live;
      back = λ j less. ⊎_elim
          (λ low. subst (λ m. ArePreviousRanks (get_or all (length tables - j) []) m (get_or (changed ++ behind ∷ []) (j + 1) 0)) (sym (left j (omega (arith, low))))
          (subst (λ m. ArePreviousRanks (get_or all (length tables - j) []) (get_or changed j 0) m) (sym (left (j + 1) (omega (arith, low)))) (h.back j low)))
          (λ high. let e : j ≡ k = omega (arith, less, high) in
          subst (λ i. ArePreviousRanks (get_or all (length tables - i) []) (get_or (changed ++ behind ∷ []) i 0) (get_or (changed ++ behind ∷ []) (i + 1) 0)) (sym e)
          (subst (λ m. ArePreviousRanks (get_or all (length tables - k) []) m (get_or (changed ++ behind ∷ []) (k + 1) 0)) (sym (left k (omega arith)))
          (subst (λ m. ArePreviousRanks (get_or all (length tables - k) []) (get_or changed k 0) m) (sym seam) h.next)))
          (cases_lt j k);
      next = subst (λ m. ArePreviousRanks (get_or all (length tables - (k + 1)) []) m further) (sym seam) (subst (λ c. ArePreviousRanks c behind further) (sym read) next);
    }

-- the masks after that

after-new : (masks changed : List ℕ) (i : ℕ) → length masks - i < length changed → mask_after masks changed i ≡ get_or changed (length masks - i) 0
after-new masks changed i lt = let e : ltb (length masks - i) (length changed) ≡ true = grind (arith, nat_tests) in rw e refl

after-old : (masks changed : List ℕ) (i : ℕ) → length changed ≤ length masks - i → mask_after masks changed i ≡ get_or masks i 0
after-old masks changed i le = let e : ltb (length masks - i) (length changed) ≡ false = grind (arith, nat_tests) in rw e refl

after-live : (tables : List (List Cell)) (cells : List Cell) (masks changed : List ℕ) (k behind : ℕ) → length masks ≡ length tables → IsChanging tables cells changed k behind
    → IsLiveMask (get_or (tables ++ cells ∷ []) (length tables + 1 - 1) []) (mask_after masks changed (length tables + 1 - 1))
after-live tables cells masks changed k behind same h =
    let count = h.count in
    let e : length tables + 1 - 1 ≡ length tables = omega arith in
    let z : length masks - length tables ≡ 0 = omega (arith, same) in
    subst (λ i. IsLiveMask (get_or (tables ++ cells ∷ []) i []) (mask_after masks changed i)) (sym e)
    (subst (λ c. IsLiveMask c (mask_after masks changed (length tables))) (sym (get_or-append_seam tables cells [] []))
    (subst (IsLiveMask cells) (sym (after-new masks changed (length tables) (omega (arith, z, count)) ∙ ap (λ i. get_or changed i 0) z)) h.live))

-- between two masks that were looked at
after-back : (tables : List (List Cell)) (cells : List Cell) (masks changed : List ℕ) (k behind i : ℕ) → length masks ≡ length tables → k ≤ length tables → IsChanging tables cells changed k behind
    → i < length tables → length tables - k ≤ i → ArePreviousRanks (get_or (tables ++ cells ∷ []) (i + 1) []) (mask_after masks changed (i + 1)) (mask_after masks changed i)
after-back tables cells masks changed k behind i same le h lt high =
    let count = h.count in
    let j = length tables - (i + 1) in
    let a : length masks - (i + 1) ≡ j = omega (arith, same) in
    let b : length masks - i ≡ j + 1 = omega (arith, same, lt) in
    let place : length tables - j ≡ i + 1 = omega (arith, lt) in
    let first : mask_after masks changed (i + 1) ≡ get_or changed j 0 = after-new masks changed (i + 1) (omega (arith, a, count, high, lt, le)) ∙ ap (λ x. get_or changed x 0) a in
    let second : mask_after masks changed i ≡ get_or changed (j + 1) 0 = after-new masks changed i (omega (arith, b, count, high, lt, le)) ∙ ap (λ x. get_or changed x 0) b in
    subst (λ x. ArePreviousRanks (get_or (tables ++ cells ∷ []) (i + 1) []) x (mask_after masks changed i)) (sym first)
    (subst (λ x. ArePreviousRanks (get_or (tables ++ cells ∷ []) (i + 1) []) (get_or changed j 0) x) (sym second)
    (subst (λ x. ArePreviousRanks (get_or (tables ++ cells ∷ []) x []) (get_or changed j 0) (get_or changed (j + 1) 0)) place (h.back j (omega (arith, high, lt, le)))))

-- where all were looked at
pub changing-all : (tables : List (List Cell)) (cells : List Cell) (masks changed : List ℕ) (k behind : ℕ) → length masks ≡ length tables → length tables ≤ k → k ≤ length tables → IsChanging tables cells changed k behind
    → AreMasks (tables ++ cells ∷ []) (mask_after masks changed) (length tables + 1)
changing-all tables cells masks changed k behind same ge le h = record {
  live = after-live tables cells masks changed k behind same h;
  back = λ i lt. after-back tables cells masks changed k behind i same le h (omega (arith, lt)) (omega (arith, ge));
}

-- where the next one stays as it was
pub changing-same : (tables : List (List Cell)) (cells : List Cell) (masks changed : List ℕ) (k behind : ℕ) → length masks ≡ length tables → k < length tables → IsChanging tables cells changed k behind
    → AreMasks tables (mask_at masks) (length tables) → behind ≡ get_or masks (length tables - 1 - k) 0 → AreMasks (tables ++ cells ∷ []) (mask_after masks changed) (length tables + 1)
changing-same tables cells masks changed k behind same lt h old is =
    let all = tables ++ cells ∷ [] in
    let count = h.count in
    let p = length tables - 1 - k in
    let up : p + 1 ≡ length tables - k = omega (arith, lt) in
    let at-p : mask_after masks changed p ≡ behind = after-old masks changed p (omega (arith, count, same, lt)) ∙ sym is in
    let z : length masks - (p + 1) ≡ k = omega (arith, same, lt) in
    let at-up : mask_after masks changed (p + 1) ≡ get_or changed k 0 = after-new masks changed (p + 1) (omega (arith, z, count)) ∙ ap (λ x. get_or changed x 0) z in
    let here : ArePreviousRanks (get_or all (p + 1) []) (mask_after masks changed (p + 1)) (mask_after masks changed p) =
    subst (λ x. ArePreviousRanks (get_or all (p + 1) []) x (mask_after masks changed p)) (sym at-up)
    (subst (λ x. ArePreviousRanks (get_or all (p + 1) []) (get_or changed k 0) x) (sym at-p)
    (subst (λ x. ArePreviousRanks (get_or all x []) (get_or changed k 0) behind) (sym up) h.next)) in
    let lower : (i : ℕ) → i < p → ArePreviousRanks (get_or all (i + 1) []) (mask_after masks changed (i + 1)) (mask_after masks changed i) = λ i less.
    subst (λ x. ArePreviousRanks (get_or all (i + 1) []) x (mask_after masks changed i)) (sym (after-old masks changed (i + 1) (omega (arith, count, same, less, lt))))
    (subst (λ x. ArePreviousRanks (get_or all (i + 1) []) (get_or masks (i + 1) 0) x) (sym (after-old masks changed i (omega (arith, count, same, less, lt))))
    (subst (λ c. ArePreviousRanks c (get_or masks (i + 1) 0) (get_or masks i 0)) (sym (get_or_append_left tables (cells ∷ []) [] (i + 1) (omega (arith, less, lt)))) (old.back i (omega (arith, less, lt))))) in
    record {
      live = after-live tables cells masks changed k behind same h;
      back = λ i inside. ⊎_elim (λ less. lower i less)
          (λ ge. ⊎_elim
          (λ eq. let e : i ≡ p = omega (arith, ge, eq) in subst (λ x. ArePreviousRanks (get_or all (x + 1) []) (mask_after masks changed (x + 1)) (mask_after masks changed x)) (sym e) here)
          (λ above. after-back tables cells masks changed k behind i same (omega (arith, lt)) h (omega (arith, inside)) (omega (arith, above, lt)))
          (cases_lt i (p + 1)))
          (cases_lt i p);
    }
