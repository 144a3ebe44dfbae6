-- What `csv` and the network reader make of the fields of an edge.
use Rattle.std.proofs.Common.{◌≡◌, ℕ, ◌*◌, ◌<◌, ◌≤◌, ◌^◌, ◌==◌, false, List, [], ◌∷◌, ◌++◌, All, pos, Ok, codes, refl, ap, ◌∙◌, inl, inr, arith, append_assoc}
use Rattle.std.specs.List.{slice_split}
use Rattle.std.proofs.lemmas.Bool.{ne_eqb}
use Rattle.std.proofs.lemmas.List.Elements.{All-append, All-cons, All-nil, All-weaker}
use Rattle.std.proofs.lemmas.List.Splits.{slice_split_at, slice_split_none}
use Rattle.csv.specs.Writing.{default_writer, row_text}
use Rattle.decimal_text.specs.Number.{decimal}
use Rattle.road_network.specs.NetworkFile.{line_of, point_of, points_of}
use Rattle.town.specs.declared.corner.Corner.{Corner}
use Rattle.town.specs.Network.{edge_line, line_text, place_of, place_text}
use Rattle.town.specs.Corners.{node_id}
use Rattle.listed_files.proofs.Numerals.{IsNumeralByte, in-decimal}
use Rattle.listed_files.proofs.Points.{IsLineByte, numeral-bytes, plain-field, plain-number, two-read}
use Rattle.listed_files.proofs.Records.{four-plain}

-- a corner whose coordinates are in range
pub record IsNear (c : Corner) : Type 0 where
  pub row_low : c.row ≤ 10_000
  pub column_low : c.column ≤ 10_000

number-bytes : (n : ℕ) → n < 2 ^ 64 → All IsLineByte (decimal n)
number-bytes n h = numeral-bytes (decimal n) (in-decimal n h)

place-bytes : (c : Corner) → IsNear c → All IsLineByte (place_text c)
place-bytes c near =
    All-append IsLineByte (decimal (10_000 * c.column) ++ codes " ") (decimal (10_000 * c.row))
    (All-append IsLineByte (decimal (10_000 * c.column)) (codes " ") (number-bytes (10_000 * c.column) (omega (arith, near.column_low))) (All-cons IsLineByte 32 [] (inr (inl refl)) (All-nil IsLineByte)))
    (number-bytes (10_000 * c.row) (omega (arith, near.row_low)))

line-bytes : (a b : Corner) → IsNear a → IsNear b → All IsLineByte (line_text a b)
line-bytes a b near_a near_b =
    All-append IsLineByte (place_text a ++ codes ";") (place_text b)
    (All-append IsLineByte (place_text a) (codes ";") (place-bytes a near_a) (All-cons IsLineByte 59 [] (inr (inr refl)) (All-nil IsLineByte)))
    (place-bytes b near_b)

-- the fields of an edge from corner a to corner b
abbrev pub edge_fields : ℕ → ℕ → Corner → Corner → List (List ℕ)
edge_fields n edge a b = decimal edge ∷ decimal (node_id n a) ∷ decimal (node_id n b) ∷ line_text a b ∷ []

pub edge-row_text : (n edge : ℕ) (a b : Corner) → edge < 2 ^ 32 → node_id n a < 2 ^ 64 → node_id n b < 2 ^ 64 → IsNear a → IsNear b
    → row_text default_writer (edge_fields n edge a b) ≡ edge_line n edge a b
edge-row_text n edge a b small from to near_a near_b =
    four-plain (decimal edge) (decimal (node_id n a)) (decimal (node_id n b)) (line_text a b)
    (plain-number edge (omega (arith, small))) (plain-number (node_id n a) from) (plain-number (node_id n b) to) (plain-field (line_text a b) (line-bytes a b near_a near_b))

-- the point of a corner
two-numbers : (x y : ℕ) → decimal x ++ codes " " ++ decimal y ≡ decimal x ++ 32 ∷ decimal y
two-numbers x y = append_assoc (decimal x) (codes " ") (decimal y)

place-read : (c : Corner) → IsNear c → point_of (place_text c) ≡ Ok (place_of c)
place-read c near =
    ap point_of (two-numbers (10_000 * c.column) (10_000 * c.row))
    ∙ two-read (pos (10_000 * c.column)) (pos (10_000 * c.row)) (omega (arith, near.column_low)) (omega (arith, near.row_low))

-- no semicolon stands in a place
no-semicolon : (c : Corner) → IsNear c → All (λ b. (b == 59) ≡ false) (place_text c)
no-semicolon c near =
    let number = λ (k : ℕ) (small : k ≤ 10_000). All-weaker IsNumeralByte (λ b. (b == 59) ≡ false) (λ b in_range. ne_eqb b 59 (λ e. omega (arith, in_range.1, e))) (decimal (10_000 * k)) (in-decimal (10_000 * k) (omega (arith, small))) in
    All-append (λ b. (b == 59) ≡ false) (decimal (10_000 * c.column) ++ codes " ") (decimal (10_000 * c.row))
    (All-append (λ b. (b == 59) ≡ false) (decimal (10_000 * c.column)) (codes " ") (number c.column near.column_low) (All-cons (λ b. (b == 59) ≡ false) 32 [] refl (All-nil (λ b. (b == 59) ≡ false))))
    (number c.row near.row_low)

pub line-read : (a b : Corner) → IsNear a → IsNear b → line_of (line_text a b) ≡ Ok (place_of a ∷ place_of b ∷ [])
unfolding line_of
line-read a b near_a near_b =
    let parts : slice_split (λ c. c == 59) (line_text a b) ≡ place_text a ∷ place_text b ∷ [] =
    ap (slice_split (λ c. c == 59)) (append_assoc (place_text a) (codes ";") (place_text b))
    ∙ slice_split_at (λ c. c == 59) (place_text a) 59 (place_text b) (no-semicolon a near_a) refl
    ∙ ap (λ t. place_text a ∷ t) (slice_split_none (λ c. c == 59) (place_text b) (no-semicolon b near_b)) in
    ap points_of parts ∙ rw (place-read a near_a, place-read b near_b) refl
