-- The row that four readings make.
use Rattle.std.proofs.Common.{◌≡◌, ℕ, zero, suc, ◌+◌, ◌<◌, ◌≤◌, List, [], ◌∷◌, true, false, Option, None, Some, Result, Ok, Err, inl, inr, refl, ◌∙◌, arith, length, get_or}
use Rattle.std.specs.Result.{result_err, result_unwrap_or}
use Rattle.std.specs.Prelude.{option_map, IsSome}
use Rattle.std.specs.List.{position_or_len}
use Rattle.std.proofs.lemmas.Bool.{cases_lt}
use Rattle.std.proofs.lemmas.List.Sums.{fails_before_first, position_or_len_is}
use Rattle.csv.specs.Records.{field_at}
use Rattle.decimal_text.specs.declared.number.NumberFault.{NumberFault}
use Rattle.decimal_text.specs.declared.number.NumberFault.TheVariants.{Misspelt, OutOfRange}
use Rattle.decimal_text.specs.Number.{unsigned_within}
use Rattle.polyline_geometry.specs.declared.plane.Point.{Point}
use Rattle.road_network.specs.declared.fault.NetworkFault.{NetworkFault}
use Rattle.road_network.specs.declared.fault.NetworkFault.TheVariants as fault
use Rattle.road_network.specs.NetworkFile.{field_faults, field_with, first_fault, is_fault, line_of, row_of, row_from, unless}
use Rattle.road_network.proofs.Places.{lt-true}

abbrev Reading : Type 0
Reading = Option NumberFault

-- the first reading with a fault
pub found-with : (kind : NumberFault) (readings : List Reading) (i : ℕ) (d : Reading) → i < length readings → ((k : ℕ) → k < i → is_fault kind (get_or readings k d) ≡ false)
    → is_fault kind (get_or readings i d) ≡ true → Some (i + 1) ≡ field_with kind readings
found-with kind readings i d lt before here =
    let at : position_or_len (is_fault kind) readings ≡ i = position_or_len_is (is_fault kind) readings i d (omega (arith, lt)) before (λ _. here) in
    rw (at, lt-true i (length readings) lt) refl

-- where no reading has the fault, none of the fields is named
none-with : (kind : NumberFault) (readings : List Reading) → field_with kind readings ≡ None → length readings ≤ position_or_len (is_fault kind) readings
none-with kind readings h =
    elim (cases_lt (position_or_len (is_fault kind) readings) (length readings)) [
      | inl lt ↦ let no : Some (position_or_len (is_fault kind) readings + 1) ≡ None = rw (lt-true (position_or_len (is_fault kind) readings) (length readings) lt) at h in cc
      | inr le ↦ le
    ]

-- then the last of four has none
last-free : (kind : NumberFault) (p q r s : Reading) → field_with kind (p ∷ q ∷ r ∷ s ∷ []) ≡ None → is_fault kind s ≡ false
last-free kind p q r s h =
    let le : 4 ≤ position_or_len (is_fault kind) (p ∷ q ∷ r ∷ s ∷ []) = none-with kind (p ∷ q ∷ r ∷ s ∷ []) h in
    fails_before_first (is_fault kind) (p ∷ q ∷ r ∷ s ∷ []) 3 None (omega (arith, le))

no-fault : (s : Reading) → is_fault Misspelt s ≡ false → is_fault OutOfRange s ≡ false → s ≡ None
no-fault None a b = refl
no-fault (Some Misspelt) a b = cc
no-fault (Some OutOfRange) a b = cc

none-first : (f : ℕ → NetworkFault) (o : Option ℕ) (faults : List (Option NetworkFault)) → first_fault (option_map f o ∷ faults) ≡ None → (o ≡ None) × (first_fault faults ≡ None)
none-first f None faults h = (refl, h)
none-first f (Some x) faults h = cc

line-free : (rec : ℕ) (p q r s : Reading) → first_fault (field_faults rec (p ∷ q ∷ r ∷ s ∷ [])) ≡ None → s ≡ None
line-free rec p q r s h =
    let one = none-first (λ i. fault.BadNumber rec i) (field_with Misspelt (p ∷ q ∷ r ∷ s ∷ [])) (option_map (λ i. fault.OutOfRange rec i) (field_with OutOfRange (p ∷ q ∷ r ∷ s ∷ [])) ∷ []) h in
    let two = none-first (λ i. fault.OutOfRange rec i) (field_with OutOfRange (p ∷ q ∷ r ∷ s ∷ [])) [] one.1 in
    no-fault s (last-free Misspelt p q r s one.0) (last-free OutOfRange p q r s two.0)

err-of : (fault : Reading) (line : List Point) → result_err (unless fault line) ≡ fault
err-of None line = refl
err-of (Some e) line = refl

-- the readings of the four fields
pub record AreReadings (a b c d : List ℕ) (x y z : Result ℕ NumberFault) (fault : Reading) (line : List Point) : Type 0 where
  pub name : x ≡ unsigned_within 4_294_967_295 a
  pub start : y ≡ unsigned_within 18_446_744_073_709_551_615 b
  pub stop : z ≡ unsigned_within 18_446_744_073_709_551_615 c
  pub points : line_of d ≡ unless fault line

abbrev pub readings : Result ℕ NumberFault → Result ℕ NumberFault → Result ℕ NumberFault → Reading → List Reading
readings x y z fault = result_err x ∷ result_err y ∷ result_err z ∷ fault ∷ []

row-is : (rec : ℕ) (a b c d : List ℕ) (x y z : Result ℕ NumberFault) (fault : Reading) (line : List Point) → AreReadings a b c d x y z fault line
    → row_of rec (a ∷ b ∷ c ∷ d ∷ []) ≡ row_from rec x y z (unless fault line)
unfolding row_of
row-is rec a b c d x y z fault line h = rw (h.name, h.start, h.stop, h.points) refl

pub row-refused : (rec : ℕ) (a b c d : List ℕ) (x y z : Result ℕ NumberFault) (fault : Reading) (line : List Point) (e : NetworkFault) → AreReadings a b c d x y z fault line
    → first_fault (field_faults rec (readings x y z fault)) ≡ Some e → row_of rec (a ∷ b ∷ c ∷ d ∷ []) ≡ Err e
row-refused rec a b c d x y z fault line e h first = row-is rec a b c d x y z fault line h ∙ rw (err-of fault line, first) refl

pub row-read : (rec : ℕ) (a b c d : List ℕ) (x y z : Result ℕ NumberFault) (fault : Reading) (line : List Point) → AreReadings a b c d x y z fault line
    → first_fault (field_faults rec (readings x y z fault)) ≡ None
    → row_of rec (a ∷ b ∷ c ∷ d ∷ []) ≡ Ok (record { name = result_unwrap_or x 0; «from» = result_unwrap_or y 0; to = result_unwrap_or z 0; line = line })
row-read rec a b c d x y z fault line h first =
    let free : fault ≡ None = line-free rec (result_err x) (result_err y) (result_err z) fault first in
    let none = rw free at first in
    row-is rec a b c d x y z fault line h ∙ rw (free, none) refl

-- a record of another number of fields
pub row-uneven : (rec : ℕ) (fields : List (List ℕ)) → (length fields ≡ 4 → ⊥) → row_of rec fields ≡ Err (fault.FieldCount rec)
unfolding row_of
row-uneven rec [] h = refl
row-uneven rec (a ∷ []) h = refl
row-uneven rec (a ∷ b ∷ []) h = refl
row-uneven rec (a ∷ b ∷ c ∷ []) h = refl
row-uneven rec (a ∷ b ∷ c ∷ d ∷ []) h = absurd (h (omega arith))
row-uneven rec (a ∷ b ∷ c ∷ d ∷ e ∷ fields) h = refl

-- a field that is there
pub field-there : {X : Type 0} (f : X → List ℕ) (fields : List (List ℕ)) (i : ℕ) (o : Option X) → option_map f o ≡ field_at fields i → i < length fields → IsSome o
unfolding field_at
field-there f fields i (Some x) e lt = refl
field-there f [] i None e lt = absurd (omega (arith, lt))
field-there f (x ∷ fields) zero None e lt = cc
field-there f (x ∷ fields) (suc i) None e lt = field-there f fields i None e (omega (arith, lt))

-- the four fields of a record
pub record AreFour (fields : List (List ℕ)) (a b c d : List ℕ) : Type 0 where
  pub count : length fields ≡ 4
  pub first : field_at fields 0 ≡ Some a
  pub second : field_at fields 1 ≡ Some b
  pub third : field_at fields 2 ≡ Some c
  pub fourth : field_at fields 3 ≡ Some d

pub four-are : (fields : List (List ℕ)) (a b c d : List ℕ) → AreFour fields a b c d → fields ≡ a ∷ b ∷ c ∷ d ∷ []
unfolding field_at
four-are [] a b c d h = absurd (omega (arith, h.count))
four-are (p ∷ []) a b c d h = absurd (omega (arith, h.count))
four-are (p ∷ q ∷ []) a b c d h = absurd (omega (arith, h.count))
four-are (p ∷ q ∷ r ∷ []) a b c d h = absurd (omega (arith, h.count))
four-are (p ∷ q ∷ r ∷ s ∷ []) a b c d h = cc (h.first, h.second, h.third, h.fourth)
four-are (p ∷ q ∷ r ∷ s ∷ t ∷ fields) a b c d h = absurd (omega (arith, h.count))
