-- Numbers that tell where the rows of nodes stand.
use Rattle.std.proofs.Common.{◌≡◌, ◌≢◌, ◌⊎◌, ◌<◌, ◌+◌, ◌==◌, ℕ, zero, suc, List, length, get_or, set, replicate, inl, inr, refl, sym, ◌∙◌, ap, arith, get_or-set_other, get_or-set_same, ⊎_elim}
use Rattle.std.proofs.lemmas.Bool.{cases_lt}
use Rattle.std.proofs.lemmas.Bool.Decides.{nat_tests}
use Rattle.std.proofs.lemmas.List.{get_or_past, get_or-replicate}
use Rattle.std.proofs.lemmas.List.Folds.{list_any_at, list_any_none}
use Rattle.std.proofs.Math.ListN.{length-replicate}
use Rattle.bounded_table.specs.Table.{TableRow}
use Rattle.cert_checker.specs.inside.PlacedInside.{told_place}
use Rattle.cert_checker.specs.inside.RowPlaces.{FindsRow, IsRowPlace}
use Rattle.cert_checker.proofs.RightRows.{no_row}

-- the numbers tell the places of the first k rows
pub record TellPlaces (rows : List TableRow) (k : ℕ) (places : List ℕ) : Type 0 where
  pub some : (v p : ℕ) → get_or places v 0 ≡ suc p → IsRowPlace rows v p
  pub none : (v i : ℕ) (d : TableRow) → i < k → get_or places v 0 ≡ 0 → (get_or rows i d).origin ≡ v → ⊥

abbrev no_places : ℕ → List ℕ
no_places n = replicate n 0

zeros : (n v : ℕ) → get_or (no_places n) v 0 ≡ 0
zeros n v = elim (cases_lt v n) [
  | inl lt ↦ get_or-replicate n v 0 0 lt
  | inr past ↦ get_or_past (no_places n) v 0 (let e = length-replicate {A = ℕ} n 0 in omega (arith, e, past))
]

pub none_placed : (rows : List TableRow) (n : ℕ) → TellPlaces rows 0 (replicate n 0)
none_placed rows n = record {
  some = λ v p e. absurd (let z = zeros n v in omega (arith, z, e));
  none = λ v i d lt e is. absurd (omega (arith, lt));
}

same_or_not : (v o : ℕ) → (v ≡ o) ⊎ (v ≢ o)
same_or_not v o = elim (cases_lt v o) [
  | inl lt ↦ inr (λ e. omega (arith, lt, e))
  | inr ge ↦ elim (cases_lt o v) [ inl gt ↦ inr (λ e. omega (arith, gt, e)) | inr le ↦ inl (omega (arith, ge, le)) ]
]

-- and of one row more
pub one_placed : (rows : List TableRow) (places : List ℕ) (k o : ℕ) → TellPlaces rows k places → k < length rows → ((d : TableRow) → (get_or rows k d).origin ≡ o) → o < length places
    → TellPlaces rows (k + 1) (set places o (k + 1))
one_placed rows places k o told lt at inside =
    let here = λ (v : ℕ) (e : v ≡ o). ap (λ (w : ℕ). get_or (set places o (k + 1)) w 0) e ∙ get_or-set_same places o (k + 1) 0 inside in
    let there = λ (v : ℕ) (ne : v ≢ o). get_or-set_other places o v (k + 1) 0 ne in
    record {
      some = λ v p e. ⊎_elim
          (λ same. let q = here v same in let last : p ≡ k = omega (arith, q, e) in record {
            below = omega (arith, last, lt);
            origin = λ d. ap (λ (i : ℕ). (get_or rows i d).origin) last ∙ at d ∙ sym same;
          })
          (λ ne. told.some v p (sym (there v ne) ∙ e)) (same_or_not v o);
      none = λ v i d low e is. ⊎_elim
          (λ same. let q = here v same in omega (arith, q, e))
          (λ ne. ⊎_elim (λ before. told.none v i d before (sym (there v ne) ∙ e) is)
          (λ from. let last : i ≡ k = omega (arith, low, from) in ne (sym is ∙ ap (λ (j : ℕ). (get_or rows j d).origin) last ∙ at d)) (cases_lt i k)) (same_or_not v o);
    }

finds : (rows : List TableRow) (places : List ℕ) (v x : ℕ) → TellPlaces rows (length rows) places → get_or places v 0 ≡ x → FindsRow rows v (told_place x)
finds rows places v zero told e = record {
  has = sym (list_any_none (λ row. row.origin == v) rows (λ k d lt. let other = told.none v k d lt e in grind (arith, nat_tests, other)));
  at = tt;
}
finds rows places v (suc p) told e =
    let at = told.some v p e in
    let is = at.origin no_row in
    record {
      has = sym (list_any_at (λ row. row.origin == v) rows p no_row at.below (grind (arith, nat_tests)));
      at = at;
    }

-- where all rows are told, each is found
pub all_placed : (rows : List TableRow) (places : List ℕ) (v : ℕ) → TellPlaces rows (length rows) places → FindsRow rows v (told_place (get_or places v 0))
all_placed rows places v told = finds rows places v (get_or places v 0) told refl
