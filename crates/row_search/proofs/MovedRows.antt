-- The rows of known nodes, taken out of their places one after the other.
use Rattle.std.proofs.Common.{◌≡◌, ℕ, suc, ◌+◌, ◌<◌, List, [], ◌∷◌, ◌++◌, map, length, Option, Some, None, refl, sym, ap, ◌∙◌, subst, append_assoc, append-nil, arith}
use Rattle.std.specs.Prelude.{slice_get}
use Rattle.std.proofs.lemmas.List.{map-append}
use Rattle.road_network.specs.Net.{HasNode, IsLawful}
use Rattle.bounded_table.specs.Known.{known_from, known_nodes}
use Rattle.row_search.specs.inside.OwnInside.{HoldsRows}
use Rattle.bounded_table.specs.RowValue.{row_of}
use Rattle.bounded_table.specs.Table.{BoundedTable, TableRow}
use Rattle.bounded_table.proofs.KnownNodes.{inside}
use Rattle.bounded_table.proofs.RowValues.{row_values}

known_push : (i : ℕ) (places : List (Option TableRow)) (o : Option TableRow) → known_from i (places ++ o ∷ []) ≡ known_from i places ++ known_from (i + length places) (o ∷ [])
known_push i [] o = ap (λ (k : ℕ). known_from k (o ∷ [])) (let e : i ≡ i + 0 = omega arith in e)
known_push i (None ∷ places) o =
    let next : suc i + length places ≡ i + suc (length places) = omega arith in
    known_push (suc i) places o ∙ ap (λ (k : ℕ). known_from (suc i) places ++ known_from k (o ∷ [])) next
known_push i (Some row ∷ places) o =
    let next : suc i + length places ≡ i + suc (length places) = omega arith in
    ap (λ (nodes : List ℕ). i ∷ nodes) (known_push (suc i) places o ∙ ap (λ (k : ℕ). known_from (suc i) places ++ known_from k (o ∷ [])) next)

get_behind : {A : Type 0} (before rest : List A) (x : A) → slice_get (before ++ x ∷ rest) (length before) ≡ Some x
get_behind [] rest x = refl
get_behind (y ∷ before) rest x = get_behind before rest x

-- the next place holds nothing
pub moves_none : (f : ℕ → TableRow) (before : List (Option TableRow)) → map f (known_nodes before) ≡ map f (known_nodes (before ++ None ∷ []))
moves_none f before = sym (ap (map f) (known_push 0 before None ∙ append-nil (known_nodes before)))

-- the next place holds a row
pub moves_row : (table : BoundedTable) (whole before rest : List (Option TableRow)) (row : TableRow) → IsLawful table.network → HoldsRows table whole → before ++ Some row ∷ rest ≡ whole
    → map (row_of table.network table.bound) (known_nodes before) ++ row ∷ [] ≡ map (row_of table.network table.bound) (known_nodes (before ++ Some row ∷ []))
moves_row table whole before rest row lawful holds parts =
    let f = row_of table.network table.bound in
    let k = length before in
    let at : slice_get whole k ≡ Some (Some row) = subst (λ (l : List (Option TableRow)). slice_get l k ≡ Some (Some row)) parts (get_behind before rest (Some row)) in
    let low : k < length whole = inside whole k (Some row) at in
    let node : HasNode table.network k = omega (arith, low, holds.places_count) in
    let value : row ≡ f k = (row_values table.network table.bound k row lawful node).0 (holds.rows k row at) in
    let zero_less : 0 + k ≡ k = omega arith in
    let nodes : known_nodes (before ++ Some row ∷ []) ≡ known_nodes before ++ k ∷ [] =
    known_push 0 before (Some row) ∙ ap (λ (v : ℕ). known_nodes before ++ v ∷ []) zero_less in
    ap (λ (r : TableRow). map f (known_nodes before) ++ r ∷ []) value ∙ sym (ap (map f) nodes ∙ map-append f (known_nodes before) (k ∷ []))

-- the places that are left behind the next one
pub moves_on : {A : Type 0} (before left rest all : List A) (x : A) → before ++ left ≡ all → left ≡ x ∷ rest → (before ++ x ∷ []) ++ rest ≡ all
moves_on before left rest all x whole step = append_assoc before (x ∷ []) rest ∙ subst (λ (l : List _). before ++ l ≡ all) step whole

pub moved_all : {A : Type 0} (before left all : List A) → before ++ left ≡ all → length left ≡ 0 → before ≡ all
moved_all before [] all whole none = sym (append-nil before) ∙ whole
moved_all before (x ∷ left) all whole none = absurd (omega arith)
