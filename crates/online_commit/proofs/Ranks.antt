-- Pointers fit the bits of a mask.
use Rattle.std.proofs.Common.{◌≡◌, ℕ, ◌<◌, ◌≤◌, List, Option, Some, None, ap, subst, arith, length, ⊎_elim}
use Rattle.std.proofs.lemmas.Bool.{cases_lt}
use Rattle.std.proofs.lemmas.List.{get_or_past}
use Rattle.matching.specs.declared.parts.Cell.{Cell}
use Rattle.matching.specs.Sequences.{Trellis}
use Rattle.matching.specs.Cells.{cell_at, empty_cell}
use Rattle.matching.specs.Local.{AreFirst, AreNext, IsLeastPointer, IsTightCost, by_way_of}
use Rattle.online_commit.specs.inside.Masks.{HasFewRanks}

pointer-low : (ways : ℕ → Option ℕ) (n : ℕ) (x y : Option ℕ) (a : ℕ) → IsTightCost ways n x y → IsLeastPointer ways x y → y ≡ Some a → a < n
pointer-low ways n None y a tight pointer e = absurd (cc)
pointer-low ways n (Some c) None a tight pointer e = absurd (cc)
pointer-low ways n (Some c) (Some b) a tight pointer e = let s : b ≡ a = cc in subst (λ k. k < n) s tight.0

past-pointer : (cells : List Cell) (r a : ℕ) → length cells ≤ r → (cell_at cells r).«from» ≡ Some a → ⊥
past-pointer cells r a le e = let z : (cell_at cells r).«from» ≡ None = ap (λ v. v.«from») (get_or_past cells r empty_cell le) in cc

pub next-ranks : {L : Type 0} (t : Trellis L) (m : L) (before : List Cell) (l : L) (cells : List Cell) → AreNext t m before l cells → t.width l ≤ 32 → t.width m ≤ 32 → HasFewRanks cells
next-ranks t m before l cells next le le2 = record {
  count = let c = next.count in omega (arith, c, le);
  pointers = λ r a e.
      ⊎_elim
      (λ lt. let w = next.each r (subst (λ k. r < k) next.count lt) in
      let low = pointer-low (λ b. by_way_of t m before l b r) (t.width m) (cell_at cells r).cost (cell_at cells r).«from» a w.tight w.pointer e in omega (arith, low, le2))
      (λ past. absurd (past-pointer cells r a past e))
      (cases_lt r (length cells));
}

pub first-ranks : {L : Type 0} (t : Trellis L) (l : L) (cells : List Cell) → AreFirst t l cells → t.width l ≤ 32 → HasFewRanks cells
first-ranks t l cells first le = record {
  count = let c = first.count in omega (arith, c, le);
  pointers = λ r a e.
      ⊎_elim
      (λ lt. let z : (cell_at cells r).«from» ≡ None = ap (λ v. v.«from») (first.each r (subst (λ k. r < k) first.count lt)) in absurd (cc))
      (λ past. absurd (past-pointer cells r a past e))
      (cases_lt r (length cells));
}
