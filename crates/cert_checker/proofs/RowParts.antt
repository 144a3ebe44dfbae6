-- Rows tried part by part: the first that is bad in a part is the first of all.
use Rattle.std.proofs.Common.{◌≡◌, ◌<◌, ◌≤◌, ℕ, zero, suc, ◌+◌, ◌-◌, Bool, true, false, cond, List, [], ◌∷◌, ◌++◌, length, map, take, drop, get_or, Option, Some, None, Result, Ok, Err, refl, sym, ◌∙◌, ap, subst, arith}
use Rattle.std.specs.Prelude.{IfOk, MatchResult}
use Rattle.std.specs.List.{AllZip}
use Rattle.std.specs.Option.{option_or}
use Rattle.std.proofs.lemmas.List.{drop_all, take-append-drop}
use Rattle.road_network.specs.Net.{Net}
use Rattle.bounded_table.specs.Table.{TableRow}
use Rattle.cert_checker.specs.inside.RowParts.{bad_in_part, first_place}
use Rattle.cert_checker.specs.Rows.{bad_row_from, first_bad_row, is_next_row}
use Rattle.cert_checker.specs.declared.row_part.RowPart.{RowPart}
use Rattle.cert_checker.proofs.BatchLists.{part_length}

-- the least origin of a row behind these
abbrev least_after : ℕ → List TableRow → ℕ
least_after least [] = least
least_after least (row ∷ rows) = least_after (row.origin + 1) rows

-- the first bad one of some rows and of those behind them
bad_append : (n : Net) (bound least k : ℕ) (rows more : List TableRow)
    → bad_row_from n bound least k (rows ++ more) ≡ option_or (bad_row_from n bound least k rows) (bad_row_from n bound (least_after least rows) (k + length rows) more)
bad_append n bound least k [] more = let z : k ≡ k + 0 = omega arith in ap (λ m. bad_row_from n bound least m more) z
bad_append n bound least k (row ∷ rows) more =
    let count : k + 1 + length rows ≡ k + suc (length rows) = omega arith in
    let first = bad_row_from n bound (row.origin + 1) (k + 1) rows in
    by_test _ (is_next_row n bound least row)
    (bad_append n bound (row.origin + 1) (k + 1) rows more ∙ ap (λ m. option_or first (bad_row_from n bound (least_after (row.origin + 1) rows) m more)) count)
  where
    by_test : (rest : Option ℕ) (good : Bool) → bad_row_from n bound (row.origin + 1) (k + 1) (rows ++ more) ≡ option_or (bad_row_from n bound (row.origin + 1) (k + 1) rows) rest
        → cond good (bad_row_from n bound (row.origin + 1) (k + 1) (rows ++ more)) (Some k) ≡ option_or (cond good (bad_row_from n bound (row.origin + 1) (k + 1) rows) (Some k)) rest
    by_test rest true e = e
    by_test rest false e = refl

-- behind the last of a part
behind_last : (least first count last : ℕ) (row : TableRow) (rows : List TableRow) → last ≡ first + count → last < length rows → get_or rows last row ≡ row
    → least_after least (take (suc count) (drop first rows)) ≡ row.origin + 1
behind_last least first count last row [] e lt is = absurd (omega (arith, lt))
behind_last least zero zero zero row (x ∷ rows) e lt is = ap (λ (r : TableRow). r.origin + 1) is
behind_last least zero zero (suc last) row (x ∷ rows) e lt is = absurd (omega (arith, e))
behind_last least zero (suc count) zero row (x ∷ rows) e lt is = absurd (omega (arith, e))
behind_last least zero (suc count) (suc last) row (x ∷ rows) e lt is = behind_last (x.origin + 1) zero count last row rows (omega (arith, e)) (omega (arith, lt)) is
behind_last least (suc first) count zero row (x ∷ rows) e lt is = absurd (omega (arith, e))
behind_last least (suc first) count (suc last) row (x ∷ rows) e lt is = behind_last least first count last row rows (omega (arith, e)) (omega (arith, lt)) is

drop_on : {X : Type 0} (first end : ℕ) (xs : List X) → first ≤ end → drop (end - first) (drop first xs) ≡ drop end xs
drop_on zero end xs le = let e : end - zero ≡ end = omega arith in ap (λ n. drop n xs) e
drop_on (suc first) zero xs le = absurd (omega (arith, le))
drop_on (suc first) (suc end) [] le = drop_all (suc end - suc first) [] (omega arith)
drop_on (suc first) (suc end) (x ∷ xs) le =
    let e : suc end - suc first ≡ end - first = omega arith in
    ap (λ n. drop n (drop first xs)) e ∙ drop_on first end xs (omega (arith, le))

-- the rows from one place to another, and those behind them
pub bad_split : (n : Net) (bound least first end : ℕ) (row : TableRow) (rows : List TableRow) → first < end → end ≤ length rows → get_or rows (end - 1) row ≡ row
    → bad_row_from n bound least first (drop first rows) ≡ option_or (bad_row_from n bound least first (take (end - first) (drop first rows))) (bad_row_from n bound (row.origin + 1) end (drop end rows))
bad_split n bound least first end row rows lt le is =
    let part = take (end - first) (drop first rows) in
    let whole : drop first rows ≡ part ++ drop end rows =
    sym (take-append-drop (end - first) (drop first rows)) ∙ ap (λ (l : List TableRow). part ++ l) (drop_on first end rows (omega (arith, lt))) in
    let count : suc (end - 1 - first) ≡ end - first = omega (arith, lt) in
    let behind : least_after least part ≡ row.origin + 1 =
    ap (λ c. least_after least (take c (drop first rows))) (sym count) ∙ behind_last least first (end - 1 - first) (end - 1) row rows (omega (arith, lt)) (omega (arith, lt, le)) is in
    let place = part_length first end rows (omega (arith, lt)) le in
    ap (bad_row_from n bound least first) whole
    ∙ bad_append n bound least first part (drop end rows)
    ∙ ap (λ m. option_or (bad_row_from n bound least first part) (bad_row_from n bound m (first + length part) (drop end rows))) behind
    ∙ ap (λ m. option_or (bad_row_from n bound least first part) (bad_row_from n bound (row.origin + 1) m (drop end rows))) place

or_none : (a : Option ℕ) → option_or a None ≡ a
or_none None = refl
or_none (Some k) = refl

or_assoc : (a b c : Option ℕ) → option_or (option_or a b) c ≡ option_or a (option_or b c)
or_assoc None b c = refl
or_assoc (Some k) b c = refl

-- with one more part
first_more : (numbers : List (Option ℕ)) (number rest : Option ℕ) → option_or (first_place (numbers ++ number ∷ [])) rest ≡ option_or (first_place numbers) (option_or number rest)
first_more [] number rest = ap (λ o. option_or o rest) (or_none number)
first_more (x ∷ numbers) number rest =
    or_assoc x (first_place (numbers ++ number ∷ [])) rest
    ∙ ap (option_or x) (first_more numbers number rest)
    ∙ sym (or_assoc x (first_place numbers) (option_or number rest))

map_more : {X Y : Type 0} (f : X → Y) (xs : List X) (x : X) → map f (xs ++ x ∷ []) ≡ map f xs ++ f x ∷ []
map_more f [] x = refl
map_more f (y ∷ xs) x = ap (λ l. f y ∷ l) (map_more f xs x)

-- the parts so far, and the rows behind them from place `first` on, have the first bad row of all
abbrev pub HaveFirst : List TableRow → List RowPart → (least first : ℕ) → Type 0
HaveFirst rows parts least first =
    (n : Net) → (bound : ℕ)
    → option_or (first_place (map (bad_in_part n bound) parts)) (bad_row_from n bound least first (drop first rows)) ≡ first_bad_row n bound rows

pub one_more_part : (rows : List TableRow) (parts more : List RowPart) (part : RowPart) (least first end next : ℕ) (row : TableRow) → first < end → end ≤ length rows → get_or rows (end - 1) row ≡ row
    → part.first ≡ first → part.least ≡ least → part.rows.now ≡ take (end - first) (drop first rows) → more ≡ parts ++ part ∷ [] → next ≡ row.origin + 1 → HaveFirst rows parts least first → HaveFirst rows more next end
one_more_part rows parts more part least first end next row lt le is first_is least_is rows_are more_are next_is so_far n bound =
    let rest = bad_row_from n bound (row.origin + 1) end (drop end rows) in
    let found = first_place (map (bad_in_part n bound) parts) in
    let own : bad_in_part n bound part ≡ bad_row_from n bound least first (take (end - first) (drop first rows)) = rw (first_is, least_is, rows_are) refl in
    ap (λ (ps : List RowPart). option_or (first_place (map (bad_in_part n bound) ps)) (bad_row_from n bound next end (drop end rows))) more_are
    ∙ ap (λ (m : ℕ). option_or (first_place (map (bad_in_part n bound) (parts ++ part ∷ []))) (bad_row_from n bound m end (drop end rows))) next_is
    ∙ ap (λ (numbers : List (Option ℕ)). option_or (first_place numbers) rest) (map_more (bad_in_part n bound) parts part)
    ∙ first_more (map (bad_in_part n bound) parts) (bad_in_part n bound part) rest
    ∙ ap (λ o. option_or found (option_or o rest)) own
    ∙ ap (option_or found) (sym (bad_split n bound least first end row rows lt le is))
    ∙ so_far n bound

pub all_parts : (rows : List TableRow) (parts : List RowPart) (least first : ℕ) → length rows ≤ first → HaveFirst rows parts least first → (n : Net) → (bound : ℕ)
    → first_place (map (bad_in_part n bound) parts) ≡ first_bad_row n bound rows
all_parts rows parts least first le so_far n bound =
    let found = first_place (map (bad_in_part n bound) parts) in
    sym (or_none found) ∙ ap (λ (l : List TableRow). option_or found (bad_row_from n bound least first l)) (sym (drop_all first rows le)) ∙ so_far n bound

-- ---- what is said of each part

all_ok : (E : Type 0) (f : RowPart → Option ℕ) (parts : List RowPart) (numbers : List (Option ℕ)) → AllZip {B = Result (Option ℕ) E} (λ part r. IfOk r (λ number. number ≡ f part)) parts (map (λ number. Ok number) numbers)
    → numbers ≡ map f parts
all_ok E f [] [] each = refl
all_ok E f [] (number ∷ numbers) each = absurd each
all_ok E f (part ∷ parts) [] each = absurd each
all_ok E f (part ∷ parts) (number ∷ numbers) each = λ i. each.0 i ∷ all_ok E f parts numbers each.1 i

-- where all answers are there
pub gathered : (V E : Type 0) (items : V → List (Option ℕ)) (f : RowPart → Option ℕ) (parts : List RowPart) (answers : List (Result (Option ℕ) E)) (found : Result V E) (Q : E → Type 0)
    → AllZip (λ part r. IfOk r (λ number. number ≡ f part)) parts answers
    → MatchResult found (λ v. (numbers : List (Option ℕ)) × (answers ≡ map (λ number. Ok number) numbers) × (items v ≡ numbers)) Q → IfOk found (λ v. items v ≡ map f parts)
gathered V E items f parts answers (Ok v) Q each is =
    is.2 ∙ all_ok E f parts is.0 (subst (λ rs. AllZip (λ part r. IfOk r (λ number. number ≡ f part)) parts rs) is.1 each)
gathered V E items f parts answers (Err e) Q each is = tt

-- ---- the first of the numbers

pub next_none : (numbers : List (Option ℕ)) (k : ℕ) (d : Option ℕ) → k < length numbers → get_or numbers k d ≡ None → first_place (drop (k + 1) numbers) ≡ first_place (drop k numbers)
next_none [] k d lt is = absurd (omega (arith, lt))
next_none (number ∷ numbers) zero d lt is = ap (λ o. option_or o (first_place numbers)) (sym is)
next_none (number ∷ numbers) (suc k) d lt is =
    let e : suc k + 1 ≡ suc (k + 1) = omega arith in
    ap (λ m. first_place (drop m (number ∷ numbers))) e ∙ next_none numbers k d (omega (arith, lt)) is

pub next_some : (numbers : List (Option ℕ)) (k number : ℕ) (d : Option ℕ) → k < length numbers → get_or numbers k d ≡ Some number → Some number ≡ first_place (drop k numbers)
next_some [] k number d lt is = absurd (omega (arith, lt))
next_some (x ∷ numbers) zero number d lt is = sym (ap (λ o. option_or o (first_place numbers)) is)
next_some (x ∷ numbers) (suc k) number d lt is = next_some numbers k number d (omega (arith, lt)) is
