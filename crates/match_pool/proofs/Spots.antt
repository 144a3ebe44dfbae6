-- Spots of traces, and the partitions that they are put into.
use Rattle.std.proofs.Common.{◌≡◌, ℕ, zero, suc, ◌+◌, ◌<◌, List, [], ◌∷◌, ◌++◌, length, length-append, length-set, set, replicate, All, Any, Contains, refl, sym, ap, ◌∙◌, subst, inl, inr, arith}
use Rattle.std.specs.Prelude.{slice_index_or}
use Rattle.std.specs.List.{range_with_len, sum_by}
use Rattle.std.specs.List.Sorted.{IsPermutation}
use Rattle.std.proofs.lemmas.Bool.{cases_eq}
use Rattle.std.proofs.lemmas.List.Elements.{All-cons, All-nil, All-push, All-replicate, All-set, All-weaker, Contains-append_left, Contains-push}
use Rattle.std.proofs.lemmas.List.Folds.{sum_by-replicate}
use Rattle.std.proofs.lemmas.List.FromFn.{get_or-range_with_len, length-range_with_len}
use Rattle.std.proofs.lemmas.List.Quantifiers.{Any-push, any-set}
use Rattle.std.proofs.lemmas.List.Sorted.{All-permutation, Contains-permutation, length_permutation}
use Rattle.std.proofs.lemmas.List.Sums.{sum_by-cons, sum_by-set}
use Rattle.match_pool.specs.declared.partitions.Spot.{Spot}
use Rattle.match_pool.specs.inside.Partitions.{AreSpotsOf, ArePartitionsOf}
use Rattle.match_pool.proofs.Lists.{default_same}

any_left : {X : Type 0} (P : X → Type 0) (xs ys : List X) → Any P xs → Any P (xs ++ ys)
any_left P [] ys (k, x, lt, e, p) = absurd (omega arith)
any_left P (x ∷ xs) ys (zero, y, lt, e, p) = (zero, y, omega arith, e, p)
any_left P (x ∷ xs) ys (suc k, y, lt, e, p) = let r = any_left P xs ys (k, y, omega arith, e, p) in (suc r.0, r.1, (let l = r.2 in omega arith), r.3, r.4)

-- an item in the place of one that has no more
any_set_same : {X : Type 0} (P : X → Type 0) (xs : List X) (i : ℕ) (y : X) → i < length xs → (P (slice_index_or xs i y) → P y) → Any P xs → Any P (set xs i y)
any_set_same P [] i y low f any = absurd (omega arith)
any_set_same P (x ∷ xs) zero y low f (zero, z, lt, e, p) = (zero, y, omega arith, refl, f (subst P (sym e) p))
any_set_same P (x ∷ xs) zero y low f (suc k, z, lt, e, p) = (suc k, z, omega arith, e, p)
any_set_same P (x ∷ xs) (suc i) y low f (zero, z, lt, e, p) = (zero, z, omega arith, e, p)
any_set_same P (x ∷ xs) (suc i) y low f (suc k, z, lt, e, p) = let r = any_set_same P xs i y (omega arith) f (k, z, omega arith, e, p) in (suc r.0, r.1, (let l = r.2 in omega arith), r.3, r.4)

pub spots_none : AreSpotsOf 0 []
spots_none = record {
  inside = All-nil (λ (x : Spot). x.number < 0);
  long = refl;
  whole = λ k low. absurd (omega arith);
}

pub spots_more : (n : ℕ) (spots : List Spot) (s : Spot) → AreSpotsOf n spots → s.number ≡ n → AreSpotsOf (n + 1) (spots ++ s ∷ [])
spots_more n spots s are is = record {
  inside = All-push (λ (x : Spot). x.number < n + 1) spots s (All-weaker (λ (x : Spot). x.number < n) (λ (x : Spot). x.number < n + 1) (λ x low. omega arith) spots are.inside) (omega (arith, is));
  long = length-append spots (s ∷ []) ∙ (let l = are.long in omega arith);
  whole = λ k low. elim (cases_eq k n) [
    | inl same ↦ Any-push (λ (x : Spot). x.number ≡ k) spots s (is ∙ sym same)
    | inr apart ↦ any_left (λ (x : Spot). x.number ≡ k) spots (s ∷ []) (are.whole k (omega (arith, low, apart)))
  ];
}

pub spots_set : (n : ℕ) (spots : List Spot) (i : ℕ) (s d : Spot) → i < length spots → s.number ≡ (slice_index_or spots i d).number → AreSpotsOf n spots → AreSpotsOf n (set spots i s)
spots_set n spots i s d low is are =
    let same : s.number ≡ (slice_index_or spots i s).number = is ∙ ap (λ (x : Spot). x.number) (default_same spots i d s low) in
    record {
      inside = All-set (λ (x : Spot). x.number < n) spots i s (subst (λ (k : ℕ). k < n) (sym same) (are.inside i s low)) are.inside;
      long = length-set spots i s ∙ are.long;
      whole = λ k lt. any_set_same (λ (x : Spot). x.number ≡ k) spots i s low (λ p. same ∙ p) (are.whole k lt);
    }

pub spots_permuted : (n : ℕ) (old new : List Spot) → IsPermutation old new → AreSpotsOf n old → AreSpotsOf n new
spots_permuted n old new perm are = record {
  inside = All-permutation (λ (x : Spot). x.number < n) old new perm are.inside;
  long = length_permutation old new perm ∙ are.long;
  whole = λ k low.
      let a = are.whole k low in
      let c = Contains-permutation old new a.1 perm (a.0, a.2, a.3) in
      (c.0, a.1, c.1, c.2, a.4);
}

-- one partition of all numbers
all_below : (n : ℕ) → All (λ k. k < n) (range_with_len 0 n)
all_below n i d low =
    let lt : i < n = (let l = length-range_with_len 0 n in omega arith) in
    subst (λ (x : ℕ). x < n) (sym (get_or-range_with_len 0 n i d lt)) (omega arith)

pub one_partition : (n : ℕ) → ArePartitionsOf n (range_with_len 0 n ∷ [])
one_partition n = record {
  inside = All-cons (λ (l : List ℕ). All (λ k. k < n) l) (range_with_len 0 n) [] (all_below n) (All-nil (λ (l : List ℕ). All (λ k. k < n) l));
  whole = λ k low.
      let at : slice_index_or (range_with_len 0 n) k k ≡ k = get_or-range_with_len 0 n k k low ∙ omega arith in
      (0, range_with_len 0 n, omega arith, refl, (k, (let l = length-range_with_len 0 n in omega arith), at));
  once = (let all = sum_by-cons (λ (l : List ℕ). length l) (range_with_len 0 n) [] in let l = length-range_with_len 0 n in omega (arith, all, l));
}

-- the first spots are put into partitions
pub record Cutting (n : ℕ) (spots : List Spot) (rank : ℕ) (partitions : List (List ℕ)) : Type 0 where
  pub inside : All (λ (l : List ℕ). All (λ k. k < n) l) partitions
  pub count : sum_by (λ (l : List ℕ). length l) partitions ≡ rank
  pub placed : (i : ℕ) (d : Spot) → i < rank → Any (λ (l : List ℕ). Contains l (slice_index_or spots i d).number) partitions

pub cut_none : (n count : ℕ) (spots : List Spot) → Cutting n spots 0 (replicate count [])
cut_none n count spots = record {
  inside = All-replicate (λ (l : List ℕ). All (λ k. k < n) l) count [] (All-nil (λ k. k < n));
  count = (let none = sum_by-replicate (λ (l : List ℕ). length l) count [] in omega (arith, none));
  placed = λ i d low. absurd (omega arith);
}

pub cut_more : (n rank : ℕ) (spots : List Spot) (partitions : List (List ℕ)) (s x : ℕ) → s < length partitions → x < n → ((d : Spot) → (slice_index_or spots rank d).number ≡ x) → Cutting n spots rank partitions
    → Cutting n spots (rank + 1) (set partitions s (slice_index_or partitions s [] ++ x ∷ []))
cut_more n rank spots partitions s x low lt is cut =
    let old = slice_index_or partitions s [] in
    let new = old ++ x ∷ [] in
    record {
      inside = All-set (λ (l : List ℕ). All (λ k. k < n) l) partitions s new (All-push (λ k. k < n) old x (cut.inside s [] low) lt) cut.inside;
      count =
          let all = sum_by-set (λ (l : List ℕ). length l) partitions s new [] low in
          let long = length-append old (x ∷ []) in
          let was = cut.count in
          omega (arith, all, long, was);
      placed = λ i d before. elim (cases_eq i rank) [
        | inl same ↦ any-set (λ (l : List ℕ). Contains l (slice_index_or spots i d).number) partitions s new low
            (subst (λ (m : ℕ). Contains new m) (sym (ap (λ (j : ℕ). (slice_index_or spots j d).number) same ∙ is d)) (Contains-push old x))
        | inr apart ↦ any_set_same (λ (l : List ℕ). Contains l (slice_index_or spots i d).number) partitions s new low
            (λ c. Contains-append_left old (x ∷ []) (slice_index_or spots i d).number (subst (λ (l : List ℕ). Contains l (slice_index_or spots i d).number) (default_same partitions s new [] low) c))
            (cut.placed i d (omega (arith, before, apart)))
      ];
    }

pub cut_all : (n : ℕ) (spots : List Spot) (partitions : List (List ℕ)) → AreSpotsOf n spots → Cutting n spots (length spots) partitions → ArePartitionsOf n partitions
cut_all n spots partitions are cut = record {
  inside = cut.inside;
  whole = λ k low.
      let a = are.whole k low in
      subst (λ (m : ℕ). Any (λ (l : List ℕ). Contains l m) partitions) (ap (λ (s : Spot). s.number) a.3 ∙ a.4) (cut.placed a.0 a.1 a.2);
  once = cut.count ∙ are.long;
}

pub range_more : (a n : ℕ) → range_with_len a (n + 1) ≡ range_with_len a n ++ (a + n) ∷ []
range_more a zero = let last : a ≡ a + 0 = omega arith in ap (λ (x : ℕ). x ∷ []) last
range_more a (suc n) =
    let step : suc n + 1 ≡ suc (n + 1) = omega arith in
    let last : a + 1 + n ≡ a + suc n = omega arith in
    ap (range_with_len a) step ∙ ap (λ (l : List ℕ). a ∷ l) (range_more (a + 1) n) ∙ ap (λ (x : ℕ). a ∷ (range_with_len (a + 1) n ++ x ∷ [])) last

pub numbers_more : (n : ℕ) (numbers : List ℕ) → numbers ≡ range_with_len 0 n → numbers ++ n ∷ [] ≡ range_with_len 0 (n + 1)
numbers_more n numbers is =
    let zero_more : 0 + n ≡ n = omega arith in
    ap (λ (l : List ℕ). l ++ n ∷ []) is ∙ sym (range_more 0 n ∙ ap (λ (x : ℕ). range_with_len 0 n ++ x ∷ []) zero_more)

pub all_numbers : (n : ℕ) (numbers : List ℕ) → numbers ≡ range_with_len 0 n → All (λ k. k < n) numbers
all_numbers n numbers is = subst (All (λ k. k < n)) (sym is) (all_below n)
