-- What the tests of one cell tell, by the ways to it.
use Rattle.std.proofs.Common.{◌≡◌, ◌<◌, ◌≤◌, ℕ, ◌^◌, true, false, ltb, List, length, get_or, map, take, Option, Some, None, MatchOption, refl, sym, ◌∙◌, ap, subst, arith, ⊎_elim}
use Rattle.std.specs.Prelude.{◌==◌, ◌&&◌, not}
use Rattle.std.specs.Bool.{Decides}
use Rattle.std.specs.List.{list_all, list_any, range_with_len}
use Rattle.std.specs.Option.{option_eq}
use Rattle.std.proofs.lemmas.Bool.{cases_lt, eq-eqb, eqb-true, false≢true, not-true, not_from_false, false_from_ne_true, both_ways}
use Rattle.std.proofs.lemmas.Bool.Decides.{Decides-and, Decides-at, Decides-like, Decides-ltb}
use Rattle.std.proofs.lemmas.List.{get_or-take, get_or_past, length-take-le}
use Rattle.std.proofs.lemmas.List.Folds.{list_all-map}
use Rattle.std.proofs.lemmas.List.FromFn.{get_or-map-range_with_len, length-map-range_with_len}
use Rattle.trellis.specs.Offers.{is_at_most}
use Rattle.matching.specs.declared.parts.Cell.{Cell}
use Rattle.matching.specs.Cells.{cell_at, empty_cell}
use Rattle.matching.specs.Local.{IsLeastPointer, IsTightCost}
use Rattle.matching.proofs.Chosen.{live_below}
use Rattle.cert_checker.specs.Cells.{is_below, is_cost, is_first_cell, is_first_pointer, is_least_pointer, is_least_rank, is_relaxed, is_relaxed_by, is_tight, is_tight_by}
use Rattle.cert_checker.proofs.ListTests.{at_most, each_below_n, same_options, some_element}

-- the first n ways
abbrev pub listed : (ℕ → Option ℕ) → ℕ → List (Option ℕ)
listed ways n = map ways (range_with_len 0 n)

pub costs : (c : ℕ) (o : Option ℕ) → Decides (is_cost c o) (o ≡ Some c)
costs c None = (λ e. absurd (false≢true e), λ e. absurd (cc))
costs c (Some s) = (λ e. ap (λ v. let o : Option ℕ = Some v in o) (eqb-true s c e), λ e. let same : s ≡ c = cc in eq-eqb s c same)

-- ---- relaxed

bounded : (x : Option ℕ) (s : ℕ) → Decides (is_at_most x s) (MatchOption x ⊥ (λ b. b ≤ s))
bounded None s = (λ e. absurd (false≢true e), λ f. absurd f)
bounded (Some b) s = at_most b s

-- the way fits 64 bits, and the cost is at most that
abbrev pub IsBound : Option ℕ → ℕ → Type 0
IsBound x s = (s < 2 ^ 64) × MatchOption x ⊥ (λ b. b ≤ s)

relaxed_by : (x o : Option ℕ) → Decides (is_relaxed_by x o) ((s : ℕ) → o ≡ Some s → IsBound x s)
relaxed_by x None = (λ e s q. absurd (cc), λ f. refl)
relaxed_by x (Some s) =
    let d = Decides-and (ltb s (2 ^ 64)) (is_at_most x s) (Decides-ltb s (2 ^ 64)) (bounded x s) in
    (λ e v q. let same : s ≡ v = cc in subst (λ k. IsBound x k) same (d.0 e), λ f. d.1 (f s refl))

pub relaxed : (ways : ℕ → Option ℕ) (n : ℕ) (cell : Cell)
    → Decides (is_relaxed (listed ways n) cell) ((a : ℕ) → a < n → (s : ℕ) → ways a ≡ Some s → IsBound (cell.cost) s)
relaxed ways n cell =
    Decides-at (is_relaxed (listed ways n) cell) (list_all (λ a. is_relaxed_by (cell.cost) (ways a)) (range_with_len 0 n))
    (list_all-map (is_relaxed_by (cell.cost)) ways (range_with_len 0 n))
    (each_below_n (λ a. (s : ℕ) → ways a ≡ Some s → IsBound (cell.cost) s) (λ a. is_relaxed_by (cell.cost) (ways a)) n (λ a. relaxed_by (cell.cost) (ways a)))

-- ---- tight

listed_at : (ways : ℕ → Option ℕ) (n a c : ℕ) → get_or (listed ways n) a None ≡ Some c → (a < n) × (ways a ≡ Some c)
listed_at ways n a c e =
    ⊎_elim (λ lt. (lt, sym (get_or-map-range_with_len ways 0 n a a None lt (omega arith)) ∙ e))
    (λ past. let none : get_or (listed ways n) a None ≡ None = get_or_past (listed ways n) a None (omega (arith, length-map-range_with_len ways 0 n, past)) in absurd (cc))
    (cases_lt a n)

at_listed : (ways : ℕ → Option ℕ) (n a c : ℕ) → (a < n) × (ways a ≡ Some c) → get_or (listed ways n) a None ≡ Some c
at_listed ways n a c h = get_or-map-range_with_len ways 0 n a a None h.0 (omega arith) ∙ h.1

tight_by : (ways : ℕ → Option ℕ) (n : ℕ) (x y : Option ℕ) → Decides (is_tight_by (listed ways n) x y) (IsTightCost ways n x y)
tight_by ways n None y = (λ e. tt, λ f. refl)
tight_by ways n (Some c) None = (λ e. absurd (false≢true e), λ f. absurd f)
tight_by ways n (Some c) (Some a) =
    let d = costs c (get_or (listed ways n) a None) in
    (λ e. listed_at ways n a c (d.0 e), λ f. d.1 (at_listed ways n a c f))

pub tight : (ways : ℕ → Option ℕ) (n : ℕ) (cell : Cell) → Decides (is_tight (listed ways n) cell) (IsTightCost ways n (cell.cost) (cell.«from»))
tight ways n cell = tight_by ways n (cell.cost) (cell.«from»)

-- ---- the first pointer

none_before : (ways : ℕ → Option ℕ) (n a c : ℕ) → a < n → Decides (list_any (is_cost c) (take a (listed ways n))) ((b : ℕ) × (b < a) × (ways b ≡ Some c))
none_before ways n a c lt =
    let d = some_element (λ o. o ≡ Some c) (is_cost c) None (take a (listed ways n)) (costs c) in
    let len : length (take a (listed ways n)) ≡ a = length-take-le a (listed ways n) (omega (arith, lt, length-map-range_with_len ways 0 n)) in
    let at = λ (b : ℕ) (low : b < a). get_or-take a (listed ways n) b None low ∙ get_or-map-range_with_len ways 0 n b b None (omega (arith, low, lt)) (omega arith) in (
      λ e. let r = d.0 e in let below = r.1 in let low : r.0 < a = omega (arith, below, len) in (r.0, low, sym (at r.0 low) ∙ r.2),
      λ f. let below = f.1 in d.1 (f.0, omega (arith, below, len), at f.0 f.1 ∙ f.2),
    )

pointer_by : (ways : ℕ → Option ℕ) (n : ℕ) (x y : Option ℕ) → IsTightCost ways n x y → Decides (is_least_pointer (listed ways n) x y) (IsLeastPointer ways x y)
pointer_by ways n None None h = (λ e. refl, λ f. refl)
pointer_by ways n None (Some a) h = (λ e. absurd (false≢true e), λ f. absurd (cc))
pointer_by ways n (Some c) None h = (λ e. tt, λ f. refl)
pointer_by ways n (Some c) (Some a) h =
    let d = none_before ways n a c h.0 in
    let some = list_any (is_cost c) (take a (listed ways n)) in (
      λ e b low q. both_ways some (not-true some e) (d.1 (b, low, q)),
      λ f. not_from_false some (false_from_ne_true some (λ e. let r = d.0 e in f r.0 r.1 r.2)),
    )

-- where the cell is tight
pub pointer : (ways : ℕ → Option ℕ) (n : ℕ) (cell : Cell) → IsTightCost ways n (cell.cost) (cell.«from»)
    → Decides (is_first_pointer (listed ways n) cell) (IsLeastPointer ways (cell.cost) (cell.«from»))
pointer ways n cell h = pointer_by ways n (cell.cost) (cell.«from») h

-- ---- the first cells

cell_is : (e : ℕ) (x y : Option ℕ) → (x ≡ Some e) × (y ≡ None) → ◌≡◌ {A = Cell} (record { cost = x; «from» = y }) (record { cost = Some e; «from» = None })
cell_is e x y h i = record { cost = h.0 i; «from» = h.1 i }

pub first_cell : (e : ℕ) (cell : Cell) → Decides (is_first_cell e cell) (cell ≡ record { cost = Some e; «from» = None })
first_cell e cell =
    Decides-like (is_first_cell e cell) (λ h. cell_is e (cell.cost) (cell.«from») h) (λ q. (ap (λ (k : Cell). k.cost) q, ap (λ (k : Cell). k.«from») q))
    (Decides-and (is_cost e (cell.cost)) (option_eq (λ (a b : ℕ). a == b) (cell.«from») None) (costs e (cell.cost)) (same_options (cell.«from») None))

-- ---- the chosen rank of the last point

is_less : (c : ℕ) (o : Option ℕ) → Decides (is_below c o) ((d : ℕ) × (o ≡ Some d) × (d < c))
is_less c None = (λ e. absurd (false≢true e), λ f. absurd (let q = f.1 in cc))
is_less c (Some s) =
    let d = Decides-ltb s c in
    (λ e. (s, refl, d.0 e), λ f. let q = f.1 in let same : s ≡ f.0 = cc in let lt = f.2 in d.1 (omega (arith, same, lt)))

-- rank r is the least rank of least cost, and that cost is c
pub record IsLeastRank (cells : List Cell) (r c : ℕ) : Type 0 where
  pub cost-is : (cell_at cells r).cost ≡ Some c
  pub least : (k d : ℕ) → (cell_at cells k).cost ≡ Some d → c ≤ d
  pub first : (k : ℕ) → k < r → (cell_at cells k).cost ≡ Some c → ⊥

abbrev IsLess : ℕ → Cell → Type 0
IsLess c cell = (d : ℕ) × (cell.cost ≡ Some d) × (d < c)

least_told : (cells : List Cell) (c : ℕ) → list_any (λ (cell : Cell). is_below c (cell.cost)) cells ≡ false
    → (k d : ℕ) → (cell_at cells k).cost ≡ Some d → c ≤ d
least_told cells c none k d e =
    let t = some_element (IsLess c) (λ (cell : Cell). is_below c (cell.cost)) empty_cell cells (λ cell. is_less c (cell.cost)) in
    ⊎_elim (λ lt. absurd (both_ways (list_any (λ (cell : Cell). is_below c (cell.cost)) cells) none (t.1 (k, live_below cells k d e, (d, e, lt))))) (λ ge. ge) (cases_lt d c)

first_told : (cells : List Cell) (r c : ℕ) → r < length cells → Decides (list_any (λ (cell : Cell). is_cost c (cell.cost)) (take r cells)) ((k : ℕ) × (k < r) × ((cell_at cells k).cost ≡ Some c))
first_told cells r c lt =
    let t = some_element (λ (cell : Cell). cell.cost ≡ Some c) (λ (cell : Cell). is_cost c (cell.cost)) empty_cell (take r cells) (λ cell. costs c (cell.cost)) in
    let len : length (take r cells) ≡ r = length-take-le r cells (omega (arith, lt)) in
    let at = λ (k : ℕ) (low : k < r). get_or-take r cells k empty_cell low in (
      λ e. let s = t.0 e in let below = s.1 in let low : s.0 < r = omega (arith, below, len) in (s.0, low, subst (λ (cell : Cell). cell.cost ≡ Some c) (at s.0 low) s.2),
      λ f. let below = f.1 in t.1 (f.0, omega (arith, below, len), subst (λ (cell : Cell). cell.cost ≡ Some c) (sym (at f.0 f.1)) f.2),
    )

pub least_rank : (cells : List Cell) (r c : ℕ) → is_least_rank cells (Some r) c ≡ true → IsLeastRank cells r c
least_rank cells r c h =
    let less = list_any (λ (cell : Cell). is_below c (cell.cost)) cells in
    let same = list_any (λ (cell : Cell). is_cost c (cell.cost)) (take r cells) in
    let costs_c = is_cost c ((cell_at cells r).cost) in
    let all = Decides-and costs_c (not less && not same) (costs c ((cell_at cells r).cost)) (Decides-and (not less) (not same) (λ e. e, λ e. e) (λ e. e, λ e. e)) in
    let parts = all.0 h in
    let d = first_told cells r c (live_below cells r c parts.0) in
    record {
      cost-is = parts.0;
      least = least_told cells c (not-true less parts.1.0);
      first = λ k low e. both_ways same (not-true same parts.1.1) (d.1 (k, low, e));
    }

pub is_least : (cells : List Cell) (r c : ℕ) → IsLeastRank cells r c → is_least_rank cells (Some r) c ≡ true
is_least cells r c h =
    let less = list_any (λ (cell : Cell). is_below c (cell.cost)) cells in
    let same = list_any (λ (cell : Cell). is_cost c (cell.cost)) (take r cells) in
    let costs_c = is_cost c ((cell_at cells r).cost) in
    let all = Decides-and costs_c (not less && not same) (costs c ((cell_at cells r).cost)) (Decides-and (not less) (not same) (λ e. e, λ e. e) (λ e. e, λ e. e)) in
    let t = some_element (IsLess c) (λ (cell : Cell). is_below c (cell.cost)) empty_cell cells (λ cell. is_less c (cell.cost)) in
    let d = first_told cells r c (live_below cells r c h.cost-is) in
    all.1 (
      h.cost-is,
      (
        not_from_false less (false_from_ne_true less (λ e. let s = t.0 e in let lt = s.2.2 in let le = h.least s.0 s.2.0 s.2.1 in omega (arith, lt, le))),
        not_from_false same (false_from_ne_true same (λ e. let s = d.0 e in h.first s.0 s.1 s.2)),
      ),
    )
