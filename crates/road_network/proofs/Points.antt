-- The points of a line, part by part.
use Rattle.std.proofs.Common.{◌≡◌, ℕ, suc, ◌+◌, ◌<◌, ◌≤◌, ◌==◌, ◌++◌, Bool, true, false, not, List, [], ◌∷◌, length, take, drop, get_or, ℤ, Result, Ok, Err, All, to_z, of_z, w32, refl, sym, ap, subst, ◌∙◌, arith}
use Rattle.std.specs.List.{list_all, position_or_len, slice_split}
use Rattle.std.specs.Char.{is_ascii_digit}
use Rattle.std.specs.Result.{IfOk}
use Rattle.std.proofs.Math.Seq.{take-add, take-append_seam, drop-append-add}
use Rattle.std.proofs.lemmas.Int.{ints}
use Rattle.std.specs.Int.RustNames.{unsigned_abs}
use Rattle.std.proofs.lemmas.List.{append-nil, append_assoc, drop_more, get_or-take, length-take, take-append-drop}
use Rattle.std.proofs.lemmas.List.Elements.{All-from_get_or}
use Rattle.std.proofs.lemmas.List.Folds.{list_all-append}
use Rattle.std.proofs.lemmas.List.Splits.{slice_split_at, slice_split_none}
use Rattle.std.proofs.lemmas.List.Sums.{AllPass-from_list_all}
use Rattle.decimal_text.specs.declared.number.NumberFault.{NumberFault}
use Rattle.decimal_text.specs.declared.number.NumberFault.TheVariants.{Misspelt, OutOfRange}
use Rattle.decimal_text.specs.Blank.{is_blank, trim}
use Rattle.decimal_text.specs.Number.{signed_within}
use Rattle.decimal_text.proofs.AtFront.{bytes-signed}
use Rattle.decimal_text.proofs.Trimmed.{and_both, and_of, digit-solid, solid, trim-ends, trim-solid}
use Rattle.polyline_geometry.specs.declared.plane.Point.{Point}
use Rattle.polyline_geometry.specs.Plane.{InRange}
use Rattle.road_network.specs.NetworkFile.{both, line_of, make_point, point_of, points_of}
use Rattle.road_network.specs.inside.Rows.{is_within_part, onto_end, with_point}
use Rattle.road_network.proofs.Readings.{abs-signed, point-within}

-- ---- parts

not-true : (b : Bool) → not b ≡ true → b ≡ false
not-true true h = absurd cc
not-true false h = refl

pub none-within : (part : List ℕ) → list_all is_within_part part ≡ true → All (λ c. (c == 59) ≡ false) part
none-within part h = let all = AllPass-from_list_all is_within_part part h in λ k d below. not-true _ (all k d below)

-- a line of one part
pub line-whole : (text : List ℕ) → All (λ c. (c == 59) ≡ false) text → line_of text ≡ with_point (point_of text) (Ok [])
unfolding line_of
line-whole text none = ap points_of (slice_split_none (λ c. c == 59) text none)

-- a line whose first part ends with a semicolon
pub line-cut : (text : List ℕ) (place : ℕ) → place < length text → All (λ c. (c == 59) ≡ false) (take place text) → get_or text place 0 ≡ 59
    → line_of text ≡ with_point (point_of (take place text)) (line_of (drop (place + 1) text))
unfolding line_of
line-cut text place inside none here =
    let is : take place text ++ 59 ∷ drop (place + 1) text ≡ text =
    ap (λ c. take place text ++ c ∷ drop (place + 1) text) (sym here) ∙ ap (λ rest. take place text ++ rest) (sym (drop_more text place 0 inside)) ∙ take-append-drop place text in
    ap points_of (ap (λ t. slice_split (λ c. c == 59) t) (sym is) ∙ slice_split_at (λ c. c == 59) (take place text) 59 (drop (place + 1) text) none refl)

pub whole-none : (text : List ℕ) → ((k : ℕ) → k < length text → (get_or text k 0 == 59) ≡ false) → All (λ c. (c == 59) ≡ false) text
whole-none text none = All-from_get_or (λ c. (c == 59) ≡ false) text 0 none

pub before-none : (text : List ℕ) (place : ℕ) → ((k : ℕ) → k < place → (get_or text k 0 == 59) ≡ false) → All (λ c. (c == 59) ≡ false) (take place text)
before-none text place none = All-from_get_or (λ c. (c == 59) ≡ false) (take place text) 0 (λ k below.
    let k-below : k < place = omega (arith, length-take place text, below) in
    subst (λ c. (c == 59) ≡ false) (sym (get_or-take place text k 0 k-below)) (none k k-below))

-- ---- two short numbers with a space between them

digit-within : (c : ℕ) → is_ascii_digit c ≡ true → is_within_part c ≡ true
digit-within c h = grind arith

blank-behind : (x y : List ℕ) → list_all solid x ≡ true → position_or_len is_blank (x ++ 32 ∷ y) ≡ length x
blank-behind [] y h = refl
blank-behind (c ∷ cs) y h =
    let parts = and_both (solid c) (list_all solid cs) h in
    let more = blank-behind cs y parts.1 in
    rw parts.0 (omega (arith, more))

-- the two coordinates of a text without blanks at its ends
abbrev halves : List ℕ → Result Point NumberFault
halves text =
    both make_point
    (signed_within 1_000_000_000 (take (position_or_len is_blank text) text))
    (signed_within 1_000_000_000 (trim (drop (position_or_len is_blank text + 1) text)))

module _ (x y : List ℕ) (a b : ℤ) (first : signed_within 1_000_000_000 x ≡ Ok a) (second : signed_within 1_000_000_000 y ≡ Ok b) where
  plain-halves : halves (x ++ 32 ∷ y) ≡ Ok (make_point a b)
  plain-halves =
      let left = bytes-signed solid digit-solid refl 1_000_000_000 a x first in
      let right = bytes-signed solid digit-solid refl 1_000_000_000 b y second in
      let before : take (length x) (x ++ 32 ∷ y) ≡ x = take-append_seam x (32 ∷ y) in
      let behind : drop (length x + 1) (x ++ 32 ∷ y) ≡ y = drop-append-add x (32 ∷ y) 1 in
      rw (blank-behind x y left.0, before, behind, trim-solid y right.1 right.0, first, second) refl

  point-plain : point_of (x ++ 32 ∷ y) ≡ Ok (make_point a b)
  point-plain =
      let left = bytes-signed solid digit-solid refl 1_000_000_000 a x first in
      let right = bytes-signed solid digit-solid refl 1_000_000_000 b y second in
      let text = x ++ 32 ∷ y in
      let trimmed : trim text ≡ text = trim-ends text x (32 ∷ y) (x ++ 32 ∷ []) y refl (sym (append_assoc x (32 ∷ []) y)) left.1 right.1 left.0 right.0 in
      ap halves trimmed ∙ plain-halves

  part-plain : list_all is_within_part (x ++ 32 ∷ y) ≡ true
  part-plain =
      let left = bytes-signed is_within_part digit-within refl 1_000_000_000 a x first in
      let right = bytes-signed is_within_part digit-within refl 1_000_000_000 b y second in
      list_all-append is_within_part x (32 ∷ y) ∙ and_of (list_all is_within_part x) (list_all is_within_part (32 ∷ y)) left.0 (and_of true (list_all is_within_part y) refl right.0)

joined : (text : List ℕ) (n m : ℕ) → n < length text → get_or text n 0 ≡ 32 → take (n + 1 + m) text ≡ take n text ++ 32 ∷ take m (drop (n + 1) text)
joined text n m inside blank =
    let count : n + 1 + m ≡ n + suc m = omega arith in
    let rest : drop n text ≡ 32 ∷ drop (n + 1) text = drop_more text n 0 inside ∙ ap (λ c. c ∷ drop (n + 1) text) blank in
    ap (λ k. take k text) count ∙ take-add n (suc m) text ∙ ap (λ r. take n text ++ take (suc m) r) rest

-- the bytes n of the first number, a blank, and m of the second
pub record IsPlain (text : List ℕ) (n m : ℕ) (a b : ℤ) : Type 0 where
  pub inside : n < length text
  pub first : signed_within 1_000_000_000 (take n text) ≡ Ok a
  pub blank : get_or text n 0 ≡ 32
  pub second : signed_within 1_000_000_000 (take m (drop (n + 1) text)) ≡ Ok b

pub plain-of : (text rest : List ℕ) (n m : ℕ) (a b : ℤ) → n < length text → signed_within 1_000_000_000 (take n text) ≡ Ok a → get_or text n 0 ≡ 32 → rest ≡ drop (n + 1) text
    → signed_within 1_000_000_000 (take m rest) ≡ Ok b → IsPlain text n m a b
plain-of text rest n m a b inside first blank is second =
    record { inside = inside; first = first; blank = blank; second = subst (λ t. signed_within 1_000_000_000 (take m t) ≡ Ok b) is second }

held : (text : List ℕ) (z : ℤ) → signed_within 1_000_000_000 text ≡ Ok z → z ≡ to_z w32 (of_z w32 z)
held text z read =
    let small : unsigned_abs z ≤ 1_000_000_000 = abs-signed text z read in
    grind (arith, ints)

pub point-held : (text : List ℕ) (n m : ℕ) (a b : ℤ) → IsPlain text n m a b → make_point a b ≡ make_point (to_z w32 (of_z w32 a)) (to_z w32 (of_z w32 b))
point-held text n m a b is = λ i. make_point (held (take n text) a is.first i) (held (take m (drop (n + 1) text)) b is.second i)

pub plain-value : (text : List ℕ) (n m : ℕ) (a b : ℤ) → IsPlain text n m a b → point_of (take (n + 1 + m) text) ≡ Ok (make_point a b)
plain-value text n m a b is = rw (joined text n m is.inside is.blank) (point-plain (take n text) (take m (drop (n + 1) text)) a b is.first is.second)

pub plain-part : (text : List ℕ) (n m : ℕ) (a b : ℤ) → IsPlain text n m a b → list_all is_within_part (take (n + 1 + m) text) ≡ true
plain-part text n m a b is = rw (joined text n m is.inside is.blank) (part-plain (take n text) (take m (drop (n + 1) text)) a b is.first is.second)

within-of : (read : Result Point NumberFault) (p : Point) → read ≡ Ok p → IfOk read InRange → InRange p
within-of (Ok q) p e h = let same : q ≡ p = cc in subst InRange same h
within-of (Err fault) p e h = absurd (cc e)

pub plain-within : (part : List ℕ) (p : Point) → point_of part ≡ Ok p → InRange p
plain-within part p read = within-of (point_of part) p read (point-within _ _)

-- ---- point by point

abbrev pub LineResult : Type 0
LineResult = Result (List Point) NumberFault

abbrev pub joined_lines : LineResult → LineResult → LineResult
joined_lines = both (λ a b. a ++ b)

lines-end : (before : LineResult) → joined_lines before (Ok []) ≡ before
lines-end (Ok line) = ap Ok (append-nil line)
lines-end (Err Misspelt) = refl
lines-end (Err OutOfRange) = refl

lines-more : (before : LineResult) (point : Result Point NumberFault) (rest : LineResult) → joined_lines before (with_point point rest) ≡ joined_lines (both onto_end before point) rest
lines-more (Ok line) (Ok p) (Ok rest) = ap Ok (sym (append_assoc line (p ∷ []) rest))
lines-more (Ok line) (Ok p) (Err fault) = refl
lines-more (Ok line) (Err Misspelt) rest = refl
lines-more (Ok line) (Err OutOfRange) (Ok rest) = refl
lines-more (Ok line) (Err OutOfRange) (Err fault) = refl
lines-more (Err Misspelt) point rest = refl
lines-more (Err OutOfRange) (Ok p) (Ok rest) = refl
lines-more (Err OutOfRange) (Ok p) (Err Misspelt) = refl
lines-more (Err OutOfRange) (Ok p) (Err OutOfRange) = refl
lines-more (Err OutOfRange) (Err Misspelt) rest = refl
lines-more (Err OutOfRange) (Err OutOfRange) (Ok rest) = refl
lines-more (Err OutOfRange) (Err OutOfRange) (Err fault) = refl

pub point-more : (field text rest : List ℕ) (before after : LineResult) (point : Result Point NumberFault) → line_of field ≡ joined_lines before (line_of text) → line_of text ≡ with_point point (line_of rest)
    → both onto_end before point ≡ after → line_of field ≡ joined_lines after (line_of rest)
point-more field text rest before after point so_far first put =
    so_far ∙ ap (joined_lines before) first ∙ lines-more before point (line_of rest) ∙ ap (λ b. joined_lines b (line_of rest)) put

pub point-last : (field text : List ℕ) (before after : LineResult) (point : Result Point NumberFault) → line_of field ≡ joined_lines before (line_of text) → line_of text ≡ with_point point (Ok [])
    → both onto_end before point ≡ after → line_of field ≡ after
point-last field text before after point so_far first put =
    so_far ∙ ap (joined_lines before) first ∙ lines-more before point (Ok []) ∙ lines-end (both onto_end before point) ∙ put
