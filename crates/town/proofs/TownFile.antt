-- The network file of a town: its text is that of its records, and they are read back.
use Rattle.std.proofs.Common.{◌≡◌, ◌⊎◌, ℕ, zero, suc, ◌+◌, ◌*◌, ◌/◌, ◌%◌, ◌<◌, ◌≤◌, ◌^◌, List, [], ◌∷◌, ◌++◌, All, length, Ok, map, codes, refl, sym, ap, ap₂, ◌∙◌, subst, inl, inr, arith, add-one, append_assoc, length-append, mul-le-mul, div-le_self}
use Rattle.std.specs.List.{fold}
use Rattle.std.proofs.lemmas.Bool.{cases_Bool}
use Rattle.std.proofs.lemmas.List.Elements.{All-append, All-cons, All-head, All-nil, All-tail}
use Rattle.csv.specs.Reading.{default_config, records, records_from}
use Rattle.csv.specs.Writing.{default_writer, read_back, row_text}
use Rattle.csv.specs.declared.parser.State.TheVariants as st
use Rattle.decimal_text.specs.Number.{decimal}
use Rattle.decimal_text.proofs.Laws.{length-decimal}
use Rattle.road_network.specs.declared.limits.NetworkLimits.TheVariants.{Standard}
use Rattle.road_network.specs.NetworkFile.{header, network_of, network_of_records, no_net, with_row}
use Rattle.town.specs.declared.corner.Corner.{Corner}
use Rattle.town.specs.declared.corner.Heading.{Heading}
use Rattle.town.specs.declared.corner.Heading.TheVariants.{East, North}
use Rattle.town.specs.Corners.{corner_at, is_border, next_corner, node_id}
use Rattle.town.specs.Laws.{NetworkIsLawful}
use Rattle.town.specs.Network.{Street, edge_line, line_text, place_text, street_lines, street_rows, street_to, streets, streets_below, streets_from}
use Rattle.road_network.proofs.Adding.{file-short}
use Rattle.listed_files.proofs.Networks.{header-is, mark-free, of-records}
use Rattle.listed_files.proofs.Records.{records-back, text_of_records}
use Rattle.town.proofs.Fields.{IsNear, edge-row_text, edge_fields}
use Rattle.town.proofs.Lines.{few_to, streets_more}
use Rattle.town.proofs.Near.{joined_east, joined_north}
use Rattle.town.proofs.TownNet.{IsAt, IsStreet, records_added, street_records}

-- the records of streets are their lines
text-is : (streets : List Street) (n edge : ℕ) → All (IsStreet n) streets → edge + 2 * length streets ≤ 100_000 → text_of_records (street_records n edge streets) ≡ street_lines n edge streets
unfolding text_of_records street_records street_lines
text-is [] n edge all few = refl
text-is (s ∷ rest) n edge all few =
    let street = All-head (IsStreet n) s rest all in
    let a = edge_line n edge s.one s.other in
    let b = edge_line n (edge + 1) s.other s.one in
    let there = edge-row_text n edge s.one s.other (omega (arith, few)) street.from_fits street.to_fits street.joined.first street.joined.second in
    let back = edge-row_text n (edge + 1) s.other s.one (omega (arith, few)) street.to_fits street.from_fits street.joined.second street.joined.first in
    let later = text-is rest n (edge + 2) (All-tail (IsStreet n) s rest all) (omega (arith, few)) in
    ap (λ t. t ++ (row_text default_writer (edge_fields n (edge + 1) s.other s.one) ++ text_of_records (street_records n (edge + 2) rest))) there
    ∙ ap (λ t. a ++ (t ++ text_of_records (street_records n (edge + 2) rest))) back
    ∙ ap (λ t. a ++ (b ++ t)) later
    ∙ sym (append_assoc a b (street_lines n (edge + 2) rest))

back-same : (streets : List Street) (n edge : ℕ) → map read_back (street_records n edge streets) ≡ street_records n edge streets
unfolding street_records
back-same [] n edge = refl
back-same (s ∷ rest) n edge = ap (λ t. edge_fields n edge s.one s.other ∷ edge_fields n (edge + 1) s.other s.one ∷ t) (back-same rest n (edge + 2))

count_is : (streets : List Street) (n edge : ℕ) → length (street_records n edge streets) ≡ 2 * length streets
unfolding street_records
count_is [] n edge = refl
count_is (s ∷ rest) n edge = let more = count_is rest n (edge + 2) in omega (arith, more)

-- how long a line is
place-length : (c : Corner) → IsNear c → length (place_text c) ≤ 41
place-length c near =
    let x = (length-decimal (10_000 * c.column) (omega (arith, near.column_low))).1 in
    let y = (length-decimal (10_000 * c.row) (omega (arith, near.row_low))).1 in
    omega (arith, x, y, length-append (decimal (10_000 * c.column) ++ codes " ") (decimal (10_000 * c.row)), length-append (decimal (10_000 * c.column)) (codes " "))

line-length : (a b : Corner) → IsNear a → IsNear b → length (line_text a b) ≤ 83
line-length a b near_a near_b =
    omega (arith, place-length a near_a, place-length b near_b, length-append (place_text a ++ codes ";") (place_text b), length-append (place_text a) (codes ";"))

edge-length : (n edge : ℕ) (a b : Corner) → edge < 2 ^ 64 → node_id n a < 2 ^ 64 → node_id n b < 2 ^ 64 → IsNear a → IsNear b → (1 ≤ length (edge_line n edge a b)) × (length (edge_line n edge a b) ≤ 150)
edge-length n edge a b small from to near_a near_b =
    let e = (length-decimal edge small).1 in
    let f = (length-decimal (node_id n a) from).1 in
    let t = (length-decimal (node_id n b) to).1 in
    let l = line-length a b near_a near_b in
    let all : length (edge_line n edge a b) ≡ length (decimal edge) + 1 + length (decimal (node_id n a)) + 1 + length (decimal (node_id n b)) + 1 + length (line_text a b) + 1 = simp length-append in
    (omega (arith, all), omega (arith, all, e, f, t, l))

lines-length : (streets : List Street) (n edge : ℕ) → All (IsStreet n) streets → edge + 2 * length streets ≤ 100_000
    → (2 * length streets ≤ length (street_lines n edge streets)) × (length (street_lines n edge streets) ≤ 300 * length streets)
unfolding street_lines
lines-length [] n edge all few = (omega arith, omega arith)
lines-length (s ∷ rest) n edge all few =
    let street = All-head (IsStreet n) s rest all in
    let a = edge_line n edge s.one s.other in
    let b = edge_line n (edge + 1) s.other s.one in
    let there = edge-length n edge s.one s.other (omega (arith, few)) street.from_fits street.to_fits street.joined.first street.joined.second in
    let back = edge-length n (edge + 1) s.other s.one (omega (arith, few)) street.to_fits street.from_fits street.joined.second street.joined.first in
    let later = lines-length rest n (edge + 2) (All-tail (IsStreet n) s rest all) (omega (arith, few)) in
    let sum : length (a ++ b ++ street_lines n (edge + 2) rest) ≡ length a + length b + length (street_lines n (edge + 2) rest) = simp length-append in
    (omega (arith, sum, there.0, back.0, later.0), omega (arith, sum, there.1, back.1, later.1))

-- the network of a text of lawful streets
empty-is : IsAt no_net 0 0
empty-is = record { edges_are = refl; names = All-nil (λ e. e.name < 0); nodes_are = omega arith; points_are = refl }

text-read : (n : ℕ) (list : List Street) → All (IsStreet n) list → length list ≤ 20_000
    → network_of Standard (codes "edge,from,to,line\n" ++ street_lines n 0 list) ≡ Ok (fold with_row no_net (street_rows n 0 list))
unfolding text_of_records
text-read n list all few =
    let lines = street_lines n 0 list in
    let text = codes "edge,from,to,line\n" ++ lines in
    let rows = street_records n 0 list in
    let size = lines-length list n 0 all (omega (arith, few)) in
    let whole : length text ≡ 18 + length lines = length-append (codes "edge,from,to,line\n") lines in
    let same : text_of_records (header ∷ rows) ≡ text = ap₂ (λ a b. a ++ b) header-is (text-is list n 0 all (omega (arith, few))) in
    let turns : length (header ∷ rows) ≤ length text + 1 = omega (arith, whole, size.0, count_is list n 0) in
    file-short Standard text (omega (arith, whole, size.1, few))
    ∙ ap (λ t. network_of_records Standard (records default_config t)) (mark-free lines)
    ∙ ap (λ t. network_of_records Standard (records_from default_config (length text + 1) st.StartRecord t)) (sym same)
    ∙ ap (network_of_records Standard) (records-back (header ∷ rows) (length text + 1) turns)
    ∙ ap (λ rs. network_of_records Standard (header ∷ rs)) (back-same list n 0)
    ∙ of-records rows
    ∙ records_added list no_net n 0 0 empty-is all (omega (arith, few)) (omega (arith, few))

-- the streets of a town
id-fits : (n : ℕ) (c : Corner) → n ≤ 100 → c.row ≤ 10_000 → c.column ≤ 10_000 → node_id n c < 2 ^ 64
id-fits n c few row column =
    let product : c.row * n ≤ 10_000 * 100 = mul-le-mul row few in
    omega (arith, product, column)

street-lawful : (n : ℕ) (c d : Corner) → n ≤ 100 → c.row ≤ 9_999 → c.column ≤ 9_999 → ((d.row ≡ c.row) × (d.column ≡ c.column + 1)) ⊎ ((d.row ≡ c.row + 1) × (d.column ≡ c.column)) → IsStreet n (record { one = c; other = d })
street-lawful n c d few row column (inl east) = record { joined = joined_east c d row column east.0 east.1; from_fits = id-fits n c few (omega (arith, row)) (omega (arith, column)); to_fits = id-fits n d few (omega (arith, row, east.0)) (omega (arith, column, east.1)) }
street-lawful n c d few row column (inr north) = record { joined = joined_north c d row column north.0 north.1; from_fits = id-fits n c few (omega (arith, row)) (omega (arith, column)); to_fits = id-fits n d few (omega (arith, row, north.0)) (omega (arith, column, north.1)) }

to-lawful : (n : ℕ) (c : Corner) (way : Heading) → IsStreet n (record { one = c; other = next_corner c way }) → All (IsStreet n) (street_to n c way)
to-lawful n c way street = elim (cases_Bool (is_border n c way)) [
  | inl t ↦ rw t (All-nil (IsStreet n))
  | inr f ↦ rw f (All-cons (IsStreet n) _ [] street (All-nil (IsStreet n)))
]

from-lawful : (n : ℕ) (c : Corner) → n ≤ 100 → c.row ≤ 9_999 → c.column ≤ 9_999 → All (IsStreet n) (streets_from n c)
from-lawful n c few row column =
    All-append (IsStreet n) (street_to n c East) (street_to n c North)
    (to-lawful n c East (street-lawful n c (next_corner c East) few row column (inl (refl, refl))))
    (to-lawful n c North (street-lawful n c (next_corner c North) few row column (inr (refl, refl))))

below-lawful : (n k : ℕ) → 2 ≤ n → n ≤ 100 → k ≤ 10_000 → All (IsStreet n) (streets_below n k)
below-lawful n zero two few low = All-nil (IsStreet n)
below-lawful n (suc k) two few low =
    let row : k / n ≤ 9_999 = omega (arith, low, div-le_self k n) in
    let column : k % n ≤ 9_999 = omega (arith, two, few) in
    let more : streets_below n (suc k) ≡ streets_below n k ++ streets_from n (corner_at n k) = ap (streets_below n) (sym (add-one k)) ∙ streets_more n k in
    subst (All (IsStreet n)) (sym more) (All-append (IsStreet n) (streets_below n k) (streets_from n (corner_at n k)) (below-lawful n k two few (omega (arith, low))) (from-lawful n (corner_at n k) few row column))

few-below : (n k : ℕ) → length (streets_below n k) ≤ 2 * k
few-below n zero = omega arith
few-below n (suc k) =
    let c = corner_at n k in
    let more : length (streets_below n (suc k)) ≡ length (streets_below n k) + length (street_to n c East ++ street_to n c North) = ap length (ap (streets_below n) (sym (add-one k)) ∙ streets_more n k) ∙ length-append (streets_below n k) (streets_from n c) in
    let before = few-below n k in
    omega (arith, more, before, length-append (street_to n c East) (street_to n c North), few_to n c East, few_to n c North)

pub network_is_lawful : NetworkIsLawful
network_is_lawful n two few =
    let corners : n * n ≤ 100 * 100 = mul-le-mul few few in
    text-read n (streets n) (below-lawful n (n * n) two few (omega (arith, corners))) (omega (arith, corners, few-below n (n * n)))
