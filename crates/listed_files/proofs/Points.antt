-- The line of an edge is read back from its text.
use Rattle.std.proofs.Common.{◌≡◌, ◌⊎◌, ℕ, ◌*◌, ◌<◌, ◌≤◌, ◌^◌, ◌==◌, false, List, [], ◌∷◌, ◌++◌, All, length, ℤ, nat_abs, Ok, map, codes, refl, ap, ap₂, ◌∙◌, inl, inr, ⊎_elim, arith, append_assoc, length-append}
use Rattle.std.specs.List.{flat_map, slice_split, before_first, after_first}
use Rattle.std.proofs.lemmas.Bool.{ne_eqb}
use Rattle.std.proofs.lemmas.List.{append-nil}
use Rattle.std.proofs.lemmas.List.Elements.{All-append, All-cons, All-head, All-nil, All-tail, All-weaker}
use Rattle.std.proofs.lemmas.List.Folds.{list_any_none}
use Rattle.std.proofs.lemmas.List.Splits.{slice_split_at, slice_split_none}
use Rattle.csv.specs.Writing.{default_writer, needs_byte}
use Rattle.decimal_text.specs.Blank.{is_blank, trim}
use Rattle.decimal_text.specs.Number.{decimal, signed_decimal, signed_within}
use Rattle.decimal_text.proofs.Laws.{signed_within-signed_decimal}
use Rattle.polyline_geometry.specs.declared.plane.Point.{Point}
use Rattle.polyline_geometry.specs.Plane.{InRange}
use Rattle.road_network.specs.NetworkFile.{both, line_of, make_point, point_of, points_of}
use Rattle.listed_files.specs.NetworkText.{line_text, next_point, point_text}
use Rattle.listed_files.proofs.Numerals.{IsNumeralByte, after-blank, before-blank, in-decimal, in-signed, length-signed, trim-number, trim-two}
use Rattle.listed_files.proofs.Records.{IsPlainField}

-- the bytes of a line: those of numbers, blanks and semicolons
abbrev pub IsLineByte : ℕ → Type 0
IsLineByte b = IsNumeralByte b ⊎ ((b ≡ 32) ⊎ (b ≡ 59))

plain : (b : ℕ) → IsLineByte b → needs_byte default_writer b ≡ false
plain b of_line =
    let off = λ (mark : ℕ) (low : mark < 32 ⊎ (32 < mark) × (mark < 45)). ne_eqb b mark (λ e. ⊎_elim (λ number. ⊎_elim (λ l. omega (arith, number.0, l, e)) (λ m. omega (arith, number.0, m.1, e)) low) (λ other. ⊎_elim (λ is. ⊎_elim (λ l. omega (arith, is, l, e)) (λ m. omega (arith, is, m.0, e)) low) (λ is. ⊎_elim (λ l. omega (arith, is, l, e)) (λ m. omega (arith, is, m.1, e)) low) other) of_line) in
    rw (off 44 (inr (omega arith, omega arith)), off 34 (inr (omega arith, omega arith)), off 13 (inl (omega arith)), off 10 (inl (omega arith))) refl

pub plain-field : (field : List ℕ) → All IsLineByte field → IsPlainField field
plain-field field all = list_any_none (needs_byte default_writer) field (All-weaker IsLineByte (λ b. needs_byte default_writer b ≡ false) plain field all)

pub numeral-bytes : (field : List ℕ) → All IsNumeralByte field → All IsLineByte field
numeral-bytes field all = All-weaker IsNumeralByte IsLineByte (λ b in_range. inl in_range) field all

pub plain-number : (n : ℕ) → n < 2 ^ 64 → IsPlainField (decimal n)
plain-number n small = plain-field (decimal n) (numeral-bytes (decimal n) (in-decimal n small))

-- ---- a point

-- a number that fits into a coordinate
abbrev pub IsSmall : ℤ → Type 0
IsSmall z = nat_abs z ≤ 1_000_000_000

bytes-of : (z : ℤ) → IsSmall z → All IsNumeralByte (signed_decimal z)
bytes-of z small = in-signed z (omega (arith, small))

some-of : (z : ℤ) → IsSmall z → 1 ≤ length (signed_decimal z)
some-of z small = (length-signed z (omega (arith, small))).0

point-bytes : (p : Point) → InRange p → All IsLineByte (point_text p)
point-bytes p within =
    All-append IsLineByte (signed_decimal p.x ++ codes " ") (signed_decimal p.y)
    (All-append IsLineByte (signed_decimal p.x) (codes " ") (numeral-bytes (signed_decimal p.x) (bytes-of p.x within.x_abs)) (All-cons IsLineByte 32 [] (inr (inl refl)) (All-nil IsLineByte)))
    (numeral-bytes (signed_decimal p.y) (bytes-of p.y within.y_abs))

no-semicolon : (p : Point) → InRange p → All (λ b. (b == 59) ≡ false) (point_text p)
no-semicolon p within =
    let P = λ (b : ℕ). (b == 59) ≡ false in
    let number = λ (z : ℤ) (small : IsSmall z). All-weaker IsNumeralByte P (λ b in_range. ne_eqb b 59 (λ e. omega (arith, in_range.1, e))) (signed_decimal z) (bytes-of z small) in
    All-append P (signed_decimal p.x ++ codes " ") (signed_decimal p.y)
    (All-append P (signed_decimal p.x) (codes " ") (number p.x within.x_abs) (All-cons P 32 [] refl (All-nil P)))
    (number p.y within.y_abs)

point-apart : (p : Point) → point_text p ≡ signed_decimal p.x ++ 32 ∷ signed_decimal p.y
point-apart p = append_assoc (signed_decimal p.x) (codes " ") (signed_decimal p.y)

pub two-read : (x y : ℤ) → IsSmall x → IsSmall y → point_of (signed_decimal x ++ 32 ∷ signed_decimal y) ≡ Ok (record { x = x; y = y })
two-read x y small_x small_y =
    let read = signed_within 1_000_000_000 in
    let whole = signed_decimal x ++ 32 ∷ signed_decimal y in
    ap (λ t. both make_point (read (before_first is_blank t)) (read (trim (after_first is_blank t)))) (trim-two (signed_decimal x) (signed_decimal y) (bytes-of x small_x) (some-of x small_x) (bytes-of y small_y) (some-of y small_y))
    ∙ ap (λ t. both make_point (read t) (read (trim (after_first is_blank whole)))) (before-blank (signed_decimal x) (signed_decimal y) (bytes-of x small_x))
    ∙ ap (λ t. both make_point (read (signed_decimal x)) (read (trim t))) (after-blank (signed_decimal x) (signed_decimal y) (bytes-of x small_x))
    ∙ ap (λ t. both make_point (read (signed_decimal x)) (read t)) (trim-number (signed_decimal y) (bytes-of y small_y) (some-of y small_y))
    ∙ ap (λ r. both make_point r (read (signed_decimal y))) (signed_within-signed_decimal 1_000_000_000 x small_x (omega arith))
    ∙ ap (λ r. both make_point (Ok x) r) (signed_within-signed_decimal 1_000_000_000 y small_y (omega arith))

point-read : (p : Point) → InRange p → point_of (point_text p) ≡ Ok p
point-read p within = ap point_of (point-apart p) ∙ two-read p.x p.y within.x_abs within.y_abs

point-short : (p : Point) → InRange p → length (point_text p) ≤ 43
point-short p within =
    let x = within.x_abs in
    let y = within.y_abs in
    let a = (length-signed p.x (omega (arith, x))).1 in
    let b = (length-signed p.y (omega (arith, y))).1 in
    omega (arith, a, b, length-append (signed_decimal p.x ++ codes " ") (signed_decimal p.y), length-append (signed_decimal p.x) (codes " "))

-- ---- a line

parts-are : (line : List Point) (p : Point) → All InRange (p ∷ line) → slice_split (λ c. c == 59) (point_text p ++ flat_map next_point line) ≡ point_text p ∷ map point_text line
parts-are [] p all =
    ap (slice_split (λ c. c == 59)) (append-nil (point_text p))
    ∙ slice_split_none (λ c. c == 59) (point_text p) (no-semicolon p (All-head InRange p [] all))
parts-are (q ∷ line) p all =
    slice_split_at (λ c. c == 59) (point_text p) 59 (point_text q ++ flat_map next_point line) (no-semicolon p (All-head InRange p (q ∷ line) all)) refl
    ∙ ap (λ parts. point_text p ∷ parts) (parts-are line q (All-tail InRange p (q ∷ line) all))

points-read : (line : List Point) → All InRange line → points_of (map point_text line) ≡ Ok line
points-read [] all = refl
points-read (p ∷ line) all =
    ap₂ (λ a b. both (λ first rest. first ∷ rest) a b) (point-read p (All-head InRange p line all)) (points-read line (All-tail InRange p line all))

pub line-read : (line : List Point) → 1 ≤ length line → All InRange line → line_of (line_text line) ≡ Ok line
unfolding line_of
line-read [] some all = absurd (omega (arith, some))
line-read (p ∷ line) some all = ap points_of (parts-are line p all) ∙ points-read (p ∷ line) all

rest-bytes : (line : List Point) → All InRange line → All IsLineByte (flat_map next_point line)
rest-bytes [] all = All-nil IsLineByte
rest-bytes (p ∷ line) all =
    All-append IsLineByte (next_point p) (flat_map next_point line)
    (All-cons IsLineByte 59 (point_text p) (inr (inr refl)) (point-bytes p (All-head InRange p line all)))
    (rest-bytes line (All-tail InRange p line all))

line-bytes : (line : List Point) → All InRange line → All IsLineByte (line_text line)
line-bytes [] all = All-nil IsLineByte
line-bytes (p ∷ line) all =
    All-append IsLineByte (point_text p) (flat_map next_point line) (point-bytes p (All-head InRange p line all)) (rest-bytes line (All-tail InRange p line all))

pub plain-line : (line : List Point) → All InRange line → IsPlainField (line_text line)
plain-line line all = plain-field (line_text line) (line-bytes line all)

rest-short : (line : List Point) → All InRange line → length (flat_map next_point line) ≤ 44 * length line
rest-short [] all = omega arith
rest-short (p ∷ line) all =
    let here = point-short p (All-head InRange p line all) in
    let later = rest-short line (All-tail InRange p line all) in
    omega (arith, here, later, length-append (next_point p) (flat_map next_point line))

pub line-short : (line : List Point) → All InRange line → length (line_text line) ≤ 44 * length line
line-short [] all = omega arith
line-short (p ∷ line) all =
    let here = point-short p (All-head InRange p line all) in
    let later = rest-short line (All-tail InRange p line all) in
    omega (arith, here, later, length-append (point_text p) (flat_map next_point line))
