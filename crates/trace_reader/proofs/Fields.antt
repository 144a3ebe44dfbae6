-- The fields of a line.
use Rattle.std.proofs.Common.{◌≡◌, ℕ, ℤ, ◌+◌, ◌<◌, ◌==◌, List, [], ◌∷◌, length, take, drop, count_by, Result, Ok, Err, refl, ap, ◌∙◌, arith}
use Rattle.std.specs.Result.{result_err}
use Rattle.std.specs.List.{position_or_len}
use Rattle.std.proofs.lemmas.Bool.{false_from_ne_true}
use Rattle.trace_reader.specs.inside.FirstField.{first_of}
use Rattle.std.proofs.lemmas.List.Splits.{slice_split_first, length-slice_split}
use Rattle.memchr.specs.Find.{NoneBefore, Nowhere, Passes, is_byte}
use Rattle.trace_reader.specs.Row.{fields_of, row_of, row_fault, numbers_of, u32_of, coordinate_of}
use Rattle.decimal_text.specs.declared.number.NumberFault.{NumberFault}
use Rattle.trace_reader.specs.declared.row.Header.{Header}
use Rattle.trace_reader.specs.declared.row.Header.TheVariants.{Untimed, Timed}
use Rattle.trace_reader.specs.declared.row.Row.{Row}
use Rattle.trace_reader.specs.declared.fault.TraceFault.{TraceFault}
use Rattle.trace_reader.specs.declared.fault.TraceFault.TheVariants.{FieldCount}
use Rattle.trace_reader.proofs.Places.{position_is}
use Rattle.trace_reader.proofs.Plain.{first_whole, fields_whole}

pub first-place : (text : List ℕ) (place : ℕ) → NoneBefore (Passes (is_byte 44) text) 0 (length text) place → Passes (is_byte 44) text place → first_of text ≡ take place text
first-place text place none here = ap (λ n. take n text) (position_is 44 text place none here)

pub fields-place : (text : List ℕ) (place : ℕ) → NoneBefore (Passes (is_byte 44) text) 0 (length text) place → Passes (is_byte 44) text place
    → fields_of text ≡ first_of text ∷ fields_of (drop (place + 1) text)
fields-place text place none here =
    let at = position_is 44 text place none here in
    let low : position_or_len (λ b. b == 44) text < length text = omega (arith, at, none.high) in
    slice_split_first (λ b. b == 44) text 0 low ∙ ap (λ n. first_of text ∷ fields_of (drop (n + 1) text)) at

pub first-whole : (text : List ℕ) → Nowhere (Passes (is_byte 44) text) 0 (length text) → first_of text ≡ text
first-whole text none = first_whole text (λ k below. false_from_ne_true _ (none k (omega arith) below))

pub fields-whole : (text : List ℕ) → Nowhere (Passes (is_byte 44) text) 0 (length text) → fields_of text ≡ first_of text ∷ []
fields-whole text none = fields_whole text (λ k below. false_from_ne_true _ (none k (omega arith) below))

nonempty : (fields : List (List ℕ)) (n : ℕ) → length fields ≡ n + 1 → (field : List ℕ) × (rest : List (List ℕ)) × (fields ≡ field ∷ rest)
nonempty [] n e = absurd (omega arith)
nonempty (field ∷ rest) n e = (field, rest, refl)

some_field : (text : List ℕ) → (field : List ℕ) × (rest : List (List ℕ)) × (fields_of text ≡ field ∷ rest)
some_field text = nonempty (fields_of text) (count_by (λ b. b == 44) text) (length-slice_split (λ b. b == 44) text)

-- rows of one field, of two, of three, and of four and more
row_of-one : (header : Header) (line : ℕ) (a : List ℕ) → Err (FieldCount line) ≡ row_of header line (a ∷ [])
unfolding row_of
row_of-one Untimed line a = refl
row_of-one Timed line a = refl

row_of-two : (header : Header) (line : ℕ) (a b : List ℕ) → Err (FieldCount line) ≡ row_of header line (a ∷ b ∷ [])
unfolding row_of
row_of-two Untimed line a b = refl
row_of-two Timed line a b = refl

row_of-four : (line : ℕ) (a b c d : List ℕ) (rest : List (List ℕ)) → Err (FieldCount line) ≡ row_of Untimed line (a ∷ b ∷ c ∷ d ∷ rest)
unfolding row_of
row_of-four line a b c d rest = refl

row_of-timed_three : (line : ℕ) (a b c : List ℕ) → Err (FieldCount line) ≡ row_of Timed line (a ∷ b ∷ c ∷ [])
unfolding row_of
row_of-timed_three line a b c = refl

row_of-five : (line : ℕ) (a b c d e : List ℕ) (rest : List (List ℕ)) → Err (FieldCount line) ≡ row_of Timed line (a ∷ b ∷ c ∷ d ∷ e ∷ rest)
unfolding row_of
row_of-five line a b c d e rest = refl

pub too_few-one : (header : Header) (line : ℕ) (text a : List ℕ) → fields_of text ≡ a ∷ [] → Err (FieldCount line) ≡ row_of header line (fields_of text)
too_few-one header line text a e = rw e (row_of-one header line a)

pub too_few-two : (header : Header) (line : ℕ) (text a r b : List ℕ) → fields_of text ≡ a ∷ fields_of r → fields_of r ≡ b ∷ [] → Err (FieldCount line) ≡ row_of header line (fields_of text)
too_few-two header line text a r b e f = rw (e, f) (row_of-two header line a b)

pub untimed_row : (line : ℕ) (text a r b s c : List ℕ) (result : Result Row TraceFault) → fields_of text ≡ a ∷ fields_of r → fields_of r ≡ b ∷ fields_of s → fields_of s ≡ c ∷ []
    → result ≡ numbers_of line (u32_of a) (coordinate_of b) (coordinate_of c) (Ok 0) → result ≡ row_of Untimed line (fields_of text)
unfolding row_of
untimed_row line text a r b s c result e f g h = rw (e, f, g) h

pub untimed_too_many : (line : ℕ) (text a r b s c t : List ℕ) → fields_of text ≡ a ∷ fields_of r → fields_of r ≡ b ∷ fields_of s → fields_of s ≡ c ∷ fields_of t
    → Err (FieldCount line) ≡ row_of Untimed line (fields_of text)
untimed_too_many line text a r b s c t e f g = let more = some_field t in rw (e, f, g, more.2) (row_of-four line a b c more.0 more.1)

pub timed_too_few : (line : ℕ) (text a r b s c : List ℕ) → fields_of text ≡ a ∷ fields_of r → fields_of r ≡ b ∷ fields_of s → fields_of s ≡ c ∷ []
    → Err (FieldCount line) ≡ row_of Timed line (fields_of text)
timed_too_few line text a r b s c e f g = rw (e, f, g) (row_of-timed_three line a b c)

pub timed_row : (line : ℕ) (text a r b s c t d : List ℕ) (result : Result Row TraceFault) → fields_of text ≡ a ∷ fields_of r → fields_of r ≡ b ∷ fields_of s → fields_of s ≡ c ∷ fields_of t → fields_of t ≡ d ∷ []
    → result ≡ numbers_of line (u32_of a) (coordinate_of b) (coordinate_of c) (u32_of d) → result ≡ row_of Timed line (fields_of text)
unfolding row_of
timed_row line text a r b s c t d result e f g h i = rw (e, f, g, h) i

pub timed_too_many : (line : ℕ) (text a r b s c t d u : List ℕ) → fields_of text ≡ a ∷ fields_of r → fields_of r ≡ b ∷ fields_of s → fields_of s ≡ c ∷ fields_of t → fields_of t ≡ d ∷ fields_of u
    → Err (FieldCount line) ≡ row_of Timed line (fields_of text)
timed_too_many line text a r b s c t d u e f g h = let more = some_field u in rw (e, f, g, h, more.2) (row_of-five line a b c d more.0 more.1)

-- numbers of which one is faulty
pub numbers_of-faulty : (line : ℕ) (id : Result ℕ NumberFault) (x y : Result ℤ NumberFault) (time : Result ℕ NumberFault)
    → ((a : ℕ) (b c : ℤ) (d : ℕ) → id ≡ Ok a → x ≡ Ok b → y ≡ Ok c → time ≡ Ok d → ⊥)
    → Err (row_fault line (result_err id ∷ result_err x ∷ result_err y ∷ result_err time ∷ [])) ≡ numbers_of line id x y time
numbers_of-faulty line (Err e) x y time faulty = refl
numbers_of-faulty line (Ok a) (Err e) y time faulty = refl
numbers_of-faulty line (Ok a) (Ok b) (Err e) time faulty = refl
numbers_of-faulty line (Ok a) (Ok b) (Ok c) (Err e) faulty = refl
numbers_of-faulty line (Ok a) (Ok b) (Ok c) (Ok d) faulty = absurd (faulty a b c d refl refl refl refl)
