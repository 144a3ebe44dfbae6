-- A table of turns that is turned by rows into columns.
use Rattle.std.proofs.Common.{◌≡◌, ◌≢◌, ℕ, zero, suc, ◌+◌, ◌<◌, ◌≤◌, List, [], ◌∷◌, ◌++◌, length, length-append, length-set, set, replicate, get_or-set_other, get_or-set_same, refl, sym, ap, ◌∙◌, subst, inl, inr, arith}
use Rattle.std.specs.Prelude.{slice_index_or}
use Rattle.std.proofs.lemmas.Bool.{cases_eq}
use Rattle.std.proofs.lemmas.List.{map-append}
use Rattle.match_pool.specs.declared.turn.Turn.{Turn}
use Rattle.match_pool.specs.inside.Tables.{AddsTurns, AreColumnsOf}

-- the first turns of the row are added
pub record Adding (row : List Turn) (before : List (List Turn)) (place : ℕ) (after : List (List Turn)) : Type 0 where
  pub count : length after ≡ length before
  pub done : (k : ℕ) (d : Turn) → k < place → slice_index_or after k [] ≡ slice_index_or before k [] ++ slice_index_or row k d ∷ []
  pub rest : (k : ℕ) → place ≤ k → slice_index_or after k [] ≡ slice_index_or before k []

pub adding_none : (row : List Turn) (before : List (List Turn)) → Adding row before 0 before
adding_none row before = record {
  count = refl;
  done = λ k d low. absurd (omega arith);
  rest = λ k low. refl;
}

pub adding_more : (row : List Turn) (before after : List (List Turn)) (place : ℕ) (turn : Turn) → place < length before → ((d : Turn) → slice_index_or row place d ≡ turn) → Adding row before place after
    → Adding row before (place + 1) (set after place (slice_index_or after place [] ++ turn ∷ []))
adding_more row before after place turn low is a =
    let new = slice_index_or after place [] ++ turn ∷ [] in
    record {
      count = length-set after place new ∙ a.count;
      done = λ k d lt. elim (cases_eq k place) [
        | inl same ↦
            let inside : place < length after = (let l = a.count in omega arith) in
            subst (λ (m : ℕ). slice_index_or (set after place new) m [] ≡ slice_index_or before m [] ++ slice_index_or row m d ∷ []) (sym same)
            (get_or-set_same after place new [] inside
            ∙ ap (λ (l : List Turn). l ++ turn ∷ []) (a.rest place (omega arith))
            ∙ ap (λ (t : Turn). slice_index_or before place [] ++ t ∷ []) (sym (is d)))
        | inr apart ↦ get_or-set_other after place k new [] apart ∙ a.done k d (omega (arith, lt, apart))
      ];
      rest = λ k le. let apart : k ≢ place = omega (arith, le) in get_or-set_other after place k new [] apart ∙ a.rest k (omega arith);
    }

pub adding_all : (row : List Turn) (before after : List (List Turn)) (place : ℕ) → length before ≤ place → Adding row before place after → AddsTurns row before after
adding_all row before after place all a = record {
  count = a.count;
  each = λ k d low. a.done k d (omega arith);
}

no_lists : (n k : ℕ) → slice_index_or (replicate n ((λ (l : List Turn). l) [])) k [] ≡ []
no_lists zero k = refl
no_lists (suc n) zero = refl
no_lists (suc n) (suc k) = no_lists n k

no_lists_long : (n : ℕ) → length (replicate n ((λ (l : List Turn). l) [])) ≡ n
no_lists_long zero = refl
no_lists_long (suc n) = ap suc (no_lists_long n)

pub columns_none : (width : ℕ) → AreColumnsOf [] width (replicate width [])
columns_none width = record {
  count = no_lists_long width;
  long = λ k low. ap (λ (l : List Turn). length l) (no_lists width k);
  each = λ k d low. no_lists width k;
}

first_of_row : (row : List Turn) → 0 < length row → Turn
first_of_row [] some = absurd (omega arith)
first_of_row (t ∷ ts) some = t

pub columns_more : (rows : List (List Turn)) (row : List Turn) (width : ℕ) (before after : List (List Turn)) → AreColumnsOf rows width before → length row ≡ width → AddsTurns row before after → AreColumnsOf (rows ++ row ∷ []) width after
columns_more rows row width before after are wide adds = record {
  count = adds.count ∙ are.count;
  long = λ k low.
      let d = first_of_row row (omega (arith, wide, low)) in
      let inside : k < length before = (let l = are.count in omega arith) in
      let column = slice_index_or before k [] in
      ap (λ (l : List Turn). length l) (adds.each k d inside) ∙ length-append column (slice_index_or row k d ∷ []) ∙ (let one = are.long k low in let more = length-append rows (row ∷ []) in omega arith);
  each = λ k d low.
      let at : List Turn → Turn = λ r. slice_index_or r k d in
      adds.each k d (let l = are.count in omega arith) ∙ ap (λ (l : List Turn). l ++ at row ∷ []) (are.each k d low) ∙ sym (map-append at rows (row ∷ []));
}
