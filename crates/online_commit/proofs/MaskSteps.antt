-- Sets of ranks while they grow, rank by rank.
use Rattle.std.proofs.Common.{◌≡◌, ◌↔◌, ◌⊎◌, inl, inr, ⊎_elim, ℕ, ◌+◌, ◌<◌, ◌≤◌, List, [], ◌∷◌, Some, None, sym, ap, subst, arith, length}
use Rattle.std.proofs.lemmas.Bool.{cases_lt}
use Rattle.std.proofs.lemmas.List.{get_or_past}
use Rattle.matching.specs.declared.parts.Cell.{Cell}
use Rattle.matching.specs.Cells.{cell_at, empty_cell, IsLive}
use Rattle.matching.proofs.Chosen.{live_below}
use Rattle.online_commit.specs.inside.Masks.{HasBit, ArePreviousRanks, IsLiveMask}
use Rattle.online_commit.proofs.Bits.{no-bit}

abbrev LiveBelow : List Cell → ℕ → ℕ → Type 0
LiveBelow cells mask rank = (r : ℕ) → HasBit mask r ↔ ((r < rank) × IsLive cells r)

pub live-begin : (cells : List Cell) → LiveBelow cells 0 0
live-begin cells r = (λ h. absurd (no-bit r h), λ h. absurd (let lt = h.0 in omega (arith, lt)))

pub live-step : (cells : List Cell) (mask mask' rank : ℕ) → LiveBelow cells mask rank
    → ((r : ℕ) → HasBit mask' r ↔ HasBit mask r ⊎ ((r ≡ rank) × IsLive (cell_at cells rank ∷ []) 0)) → LiveBelow cells mask' (rank + 1)
live-step cells mask mask' rank before step r = (
  λ h. ⊎_elim (λ old. let k = (before r).0 old in let lt = k.0 in (omega (arith, lt), k.1))
      (λ new. let e = new.0 in (omega (arith, e), subst (λ i. IsLive cells i) (sym e) new.1)) ((step r).0 h),
  λ h. ⊎_elim (λ lt. (step r).1 (inl ((before r).1 (lt, h.1))))
      (λ ge. let less = h.0 in let e : r ≡ rank = omega (arith, less, ge) in (step r).1 (inr (e, subst (λ i. IsLive cells i) e h.1))) (cases_lt r rank),
)

pub live-done : (cells : List Cell) (mask rank : ℕ) → length cells ≤ rank → LiveBelow cells mask rank → IsLiveMask cells mask
live-done cells mask rank le all r = (λ h. ((all r).0 h).1, λ live. (all r).1 (let lt = live_below cells r live.0 live.1 in omega (arith, lt, le), live))

abbrev BehindBelow : List Cell → ℕ → ℕ → ℕ → Type 0
BehindBelow cells mask behind rank = (a : ℕ) → HasBit behind a ↔ ((r : ℕ) × (r < rank) × HasBit mask r × ((cell_at cells r).«from» ≡ Some a))

pub behind-begin : (cells : List Cell) (mask : ℕ) → BehindBelow cells mask 0 0
behind-begin cells mask a = (λ h. absurd (no-bit a h), λ h. absurd (let lt = h.1 in omega (arith, lt)))

pub behind-step : (cells : List Cell) (mask behind behind' rank : ℕ) → BehindBelow cells mask behind rank
    → ((a : ℕ) → HasBit behind' a ↔ HasBit behind a ⊎ (HasBit mask rank × ((cell_at cells rank).«from» ≡ Some a))) → BehindBelow cells mask behind' (rank + 1)
behind-step cells mask behind behind' rank before step a = (
  λ h. ⊎_elim (λ old. let k = (before a).0 old in let lt = k.1 in (k.0, omega (arith, lt), k.2, k.3)) (λ new. (rank, omega arith, new.0, new.1)) ((step a).0 h),
  λ h. ⊎_elim (λ lt. (step a).1 (inl ((before a).1 (h.0, lt, h.2, h.3))))
      (λ ge. let less = h.1 in let e : h.0 ≡ rank = omega (arith, less, ge) in
      (step a).1 (inr (subst (λ i. HasBit mask i) e h.2, subst (λ i. (cell_at cells i).«from» ≡ Some a) e h.3))) (cases_lt h.0 rank),
)

pointer-below : (cells : List Cell) (r a : ℕ) → (cell_at cells r).«from» ≡ Some a → r < length cells
pointer-below cells r a e =
    ⊎_elim (λ lt. lt) (λ past. absurd (let z : (cell_at cells r).«from» ≡ None = ap (λ v. v.«from») (get_or_past cells r empty_cell past) in cc)) (cases_lt r (length cells))

pub behind-done : (cells : List Cell) (mask behind rank : ℕ) → length cells ≤ rank → BehindBelow cells mask behind rank → ArePreviousRanks cells mask behind
behind-done cells mask behind rank le all a = (
  λ h. let k = (all a).0 h in (k.0, k.2, k.3),
  λ h. (all a).1 (h.0, (let lt = pointer-below cells h.0 a h.2 in omega (arith, lt, le)), h.1, h.2),
)
