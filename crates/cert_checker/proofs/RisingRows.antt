-- Rows that are right and rise, as a list.
use Rattle.std.proofs.Common.{◌≡◌, ◌<◌, ◌≤◌, ℕ, zero, suc, ◌+◌, ◌==◌, Bool, true, false, cond, leb, ltb, List, [], ◌∷◌, length, get_or, map, Option, Some, None, refl, sym, ◌∙◌, ap, subst, arith, ⊎_elim}
use Rattle.std.specs.Prelude.{slice_index}
use Rattle.std.specs.Bool.{Decides}
use Rattle.std.specs.List.{All, filter, range_with_len}
use Rattle.std.specs.List.Sorted.{IsStrictlyIncreasing}
use Rattle.std.proofs.lemmas.Bool.{cases_lt, eq-eqb, or_left, or_right}
use Rattle.std.proofs.lemmas.Bool.Decides.{Decides-and, Decides-ltb}
use Rattle.std.proofs.lemmas.List.{length-map}
use Rattle.std.proofs.lemmas.List.Elements.{All-filter, All-head, All-map, All-tail}
use Rattle.std.proofs.lemmas.List.FromFn.{get_or-range_with_len, length-range_with_len}
use Rattle.std.proofs.lemmas.List.Kept.{IsStrictlyIncreasing-filter}
use Rattle.bounded_table.proofs.RightRows.{has_right_entries, right_is}
use Rattle.bounded_table.specs.RightRow.{is_right_row}
use Rattle.bounded_table.specs.RowValue.{row_of, rows_where}
use Rattle.bounded_table.specs.Table.{TableRow}
use Rattle.matching.proofs.Lists.{all-cons}
use Rattle.road_network.specs.Net.{HasNode, Net}
use Rattle.cert_checker.specs.Case.{has_row}
use Rattle.cert_checker.specs.Laws.{AreRightRows}
use Rattle.cert_checker.specs.Rows.{bad_row_from, first_bad_row, is_next_row}
use Rattle.cert_checker.proofs.ListTests.{at_most}

abbrev IsRight : Net → ℕ → TableRow → Type 0
IsRight n bound row = HasNode n row.origin × (row ≡ row_of n bound row.origin)

abbrev IsNext : Net → ℕ → ℕ → TableRow → Type 0
IsNext n bound least row = (least ≤ row.origin) × IsRight n bound row

next_is : (n : Net) (bound least : ℕ) (row : TableRow) → Decides (is_next_row n bound least row) (IsNext n bound least row)
next_is n bound least row =
    Decides-and (leb least row.origin) (is_right_row n bound row) (at_most least row.origin)
    (Decides-and (ltb row.origin (length n.nodes)) (has_right_entries n bound row) (Decides-ltb row.origin (length n.nodes)) (right_is n bound row))

-- the rows are right and rise from an origin of at least `least`
abbrev RightFrom : Net → ℕ → ℕ → List TableRow → Type 0
RightFrom n bound least [] = Unit {0}
RightFrom n bound least (row ∷ rows) = IsNext n bound least row × RightFrom n bound (row.origin + 1) rows

kept : (b : Bool) (k : ℕ) (rest : Option ℕ) → cond b rest (Some k) ≡ None → (b ≡ true) × (rest ≡ None)
kept true k rest e = (refl, e)
kept false k rest e = absurd (cc)

from_told : (n : Net) (bound least k : ℕ) (rows : List TableRow) → bad_row_from n bound least k rows ≡ None → RightFrom n bound least rows
from_told n bound least k [] e = tt
from_told n bound least k (row ∷ rows) e =
    let parts = kept (is_next_row n bound least row) k (bad_row_from n bound (row.origin + 1) (k + 1) rows) e in
    ((next_is n bound least row).0 parts.0, from_told n bound (row.origin + 1) (k + 1) rows parts.1)

from_holds : (n : Net) (bound least k : ℕ) (rows : List TableRow) → RightFrom n bound least rows → bad_row_from n bound least k rows ≡ None
from_holds n bound least k [] h = refl
from_holds n bound least k (row ∷ rows) h =
    ap (λ v. cond v (bad_row_from n bound (row.origin + 1) (k + 1) rows) (Some k)) ((next_is n bound least row).1 h.0)
    ∙ from_holds n bound (row.origin + 1) (k + 1) rows h.1

abbrev origins : List TableRow → List ℕ
origins rows = map (λ row. row.origin) rows

each_right : (n : Net) (bound least : ℕ) (rows : List TableRow) → RightFrom n bound least rows → All (IsRight n bound) rows
each_right n bound least [] h = λ k d lt. absurd (omega (arith, lt))
each_right n bound least (row ∷ rows) h = all-cons (IsRight n bound) row rows h.0.1 (each_right n bound (row.origin + 1) rows h.1)

rising : (n : Net) (bound least : ℕ) (rows : List TableRow) → RightFrom n bound least rows → IsStrictlyIncreasing (origins rows)
rising n bound least [] h k lt = absurd (omega (arith, lt))
rising n bound least (row ∷ []) h k lt = absurd (omega (arith, lt))
rising n bound least (row ∷ next ∷ rows) h zero lt = let low = h.1.0.0 in omega (arith, low)
rising n bound least (row ∷ next ∷ rows) h (suc k) lt =
    let e : suc k + 1 ≡ suc (k + 1) = omega arith in
    subst (λ v. slice_index (origins (next ∷ rows)) k < slice_index (origins (row ∷ next ∷ rows)) v) (sym e)
    (rising n bound (row.origin + 1) (next ∷ rows) h.1 k (omega (arith, lt)))

increasing_tail : (x : ℕ) (xs : List ℕ) → IsStrictlyIncreasing (x ∷ xs) → IsStrictlyIncreasing xs
increasing_tail x xs h k lt =
    let e : suc k + 1 ≡ suc (k + 1) = omega arith in
    subst (λ v. slice_index xs k < slice_index (x ∷ xs) v) e (h (suc k) (omega (arith, lt)))

from_rising : (n : Net) (bound least : ℕ) (rows : List TableRow) → All (IsRight n bound) rows → IsStrictlyIncreasing (origins rows)
    → (0 < length rows → least ≤ slice_index (origins rows) 0) → RightFrom n bound least rows
from_rising n bound least [] each rise low = tt
from_rising n bound least (row ∷ rows) each rise low = (
  (low (omega arith), All-head (IsRight n bound) row rows each),
  from_rising n bound (row.origin + 1) rows (All-tail (IsRight n bound) row rows each) (increasing_tail row.origin (origins rows) rise)
      (λ some. let next = rise 0 (omega (arith, some, length-map rows (λ (r : TableRow). r.origin))) in omega (arith, next)),
)

-- no row is bad exactly where they are right and rise
pub rows_are_right : (n : Net) (bound : ℕ) (rows : List TableRow) → first_bad_row n bound rows ≡ None → AreRightRows n bound rows
rows_are_right n bound rows e =
    let h = from_told n bound 0 0 rows e in
    record { each = each_right n bound 0 rows h; rise = rising n bound 0 rows h }

pub right_rows_pass : (n : Net) (bound : ℕ) (rows : List TableRow) → AreRightRows n bound rows → first_bad_row n bound rows ≡ None
right_rows_pass n bound rows h = from_holds n bound 0 0 rows (from_rising n bound 0 rows h.each h.rise (λ some. omega arith))

-- ---- the rows of the nodes that pass a test

origins_of : (n : Net) (bound : ℕ) (nodes : List ℕ) → origins (map (row_of n bound) nodes) ≡ nodes
origins_of n bound [] = refl
origins_of n bound (v ∷ nodes) = ap (λ vs. v ∷ vs) (origins_of n bound nodes)

numbers_increase : (m : ℕ) → IsStrictlyIncreasing (range_with_len 0 m)
numbers_increase m k lt =
    let len = length-range_with_len 0 m in
    let here = get_or-range_with_len 0 m k 0 (omega (arith, lt, len)) in
    let next = get_or-range_with_len 0 m (k + 1) 0 (omega (arith, lt, len)) in
    omega (arith, here, next)

pub rows_where_right : (n : Net) (bound : ℕ) (test : ℕ → Bool) → AreRightRows n bound (rows_where n bound test)
rows_where_right n bound test =
    let nodes = range_with_len 0 (length n.nodes) in
    let P : ℕ → Type 0 = λ v. IsRight n bound (row_of n bound v) in
    record {
      each = All-map (IsRight n bound) (row_of n bound) (filter test nodes)
          (All-filter test P nodes
          (λ k d lt.
          let low : k < length n.nodes = omega (arith, lt, length-range_with_len 0 (length n.nodes)) in
          let e : get_or nodes k d ≡ 0 + k = get_or-range_with_len 0 (length n.nodes) k d low in
          (omega (arith, e, low), refl)));
      rise = subst IsStrictlyIncreasing (sym (origins_of n bound (filter test nodes))) (IsStrictlyIncreasing-filter test nodes (numbers_increase (length n.nodes)));
    }

abbrev rows_of : Net → ℕ → List ℕ → List TableRow
rows_of n bound nodes = map (row_of n bound) nodes

has_more : (n : Net) (bound v x : ℕ) (b : Bool) (nodes : List ℕ) → has_row (rows_of n bound nodes) v ≡ true → has_row (rows_of n bound (cond b (x ∷ nodes) nodes)) v ≡ true
has_more n bound v x true nodes h = or_right (x == v) (has_row (rows_of n bound nodes) v) h
has_more n bound v x false nodes h = h

has_first : (n : Net) (bound v x : ℕ) (b : Bool) (nodes : List ℕ) → b ≡ true → x ≡ v → has_row (rows_of n bound (cond b (x ∷ nodes) nodes)) v ≡ true
has_first n bound v x true nodes h e = or_left (x == v) (has_row (rows_of n bound nodes) v) (eq-eqb x v e)
has_first n bound v x false nodes h e = absurd (cc)

has_from : (n : Net) (bound v from m : ℕ) (test : ℕ → Bool) → test v ≡ true → from ≤ v → v < from + m → has_row (rows_of n bound (filter test (range_with_len from m))) v ≡ true
has_from n bound v from zero test h ge lt = absurd (omega (arith, ge, lt))
has_from n bound v from (suc m) test h ge lt =
    let rest = filter test (range_with_len (from + 1) m) in
    ⊎_elim
    (λ here. let same : from ≡ v = omega (arith, here, ge) in has_first n bound v from (test from) rest (ap test same ∙ h) same)
    (λ later. has_more n bound v from (test from) rest (has_from n bound v (from + 1) m test h later (omega (arith, lt))))
    (cases_lt v (from + 1))

pub rows_where_has : (n : Net) (bound v : ℕ) (test : ℕ → Bool) → test v ≡ true → HasNode n v → has_row (rows_where n bound test) v ≡ true
rows_where_has n bound v test h lt = has_from n bound v 0 (length n.nodes) test h (omega arith) (omega (arith, lt))
