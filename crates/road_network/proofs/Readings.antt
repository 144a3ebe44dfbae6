-- What the fields of a record say.
use Rattle.std.proofs.Common.{◌≡◌, ℕ, zero, suc, inl, inr, ◌≤◌, List, Result, Ok, Err, refl, subst, arith, drop, ℤ, pos}
use Rattle.std.specs.Result.{IfOk, result_map_both}
use Rattle.std.specs.Prelude.{neg_ℤ}
use Rattle.std.specs.Int.RustNames.{unsigned_abs}
use Rattle.std.specs.Str.Parse.{starts_with_minus}
use Rattle.std.proofs.lemmas.Bool.{cases_Bool}
use Rattle.decimal_text.specs.declared.number.NumberFault.{NumberFault}
use Rattle.decimal_text.specs.declared.number.NumberFault.TheVariants.{Misspelt, OutOfRange}
use Rattle.decimal_text.specs.Number.{signed_within, unsigned_within}
use Rattle.decimal_text.proofs.Laws.{Spells-unsigned_within}
use Rattle.polyline_geometry.specs.Plane.{InRange}
use Rattle.road_network.specs.NetworkFile.{both, make_point}

-- a number that was read is in its range
signed-map : (most : ℕ) (r : Result ℕ NumberFault) → ((n : ℕ) → r ≡ Ok n → n ≤ most) → (f : ℕ → ℤ) → ((n : ℕ) → unsigned_abs (f n) ≤ n)
    → IfOk (result_map_both f (λ (e : NumberFault). e) r) (λ z. unsigned_abs z ≤ most)
signed-map most (Ok n) small f abs = let h : n ≤ most = small n refl in omega (arith, abs n)
signed-map most (Err e) small f abs = tt

neg-abs : (n : ℕ) → unsigned_abs (neg_ℤ (pos n)) ≤ n
neg-abs zero = omega arith
neg-abs (suc n) = omega arith

signed-small : (most : ℕ) (text : List ℕ) → IfOk (signed_within most text) (λ z. unsigned_abs z ≤ most)
unfolding signed_within
signed-small most text =
    elim (cases_Bool (starts_with_minus text)) [
      | inl t ↦ rw t (signed-map most (unsigned_within most (drop 1 text)) (λ n h. (Spells-unsigned_within most n (drop 1 text) h).small) (λ n. neg_ℤ (pos n)) neg-abs)
      | inr f ↦ rw f (signed-map most (unsigned_within most text) (λ n h. (Spells-unsigned_within most n text h).small) (λ n. pos n) (λ n. omega arith))
    ]

abs-of : (most : ℕ) (read : Result ℤ NumberFault) (z : ℤ) → read ≡ Ok z → IfOk read (λ x. unsigned_abs x ≤ most) → unsigned_abs z ≤ most
abs-of most (Ok x) z e h = let same : x ≡ z = cc in subst (λ y. unsigned_abs y ≤ most) same h
abs-of most (Err fault) z e h = absurd (cc e)

pub abs-signed : (text : List ℕ) (z : ℤ) → signed_within 1_000_000_000 text ≡ Ok z → unsigned_abs z ≤ 1_000_000_000
abs-signed text z read = abs-of 1_000_000_000 (signed_within 1_000_000_000 text) z read (signed-small 1_000_000_000 text)

pair-small : (x y : Result ℤ NumberFault) → IfOk x (λ z. unsigned_abs z ≤ 1_000_000_000) → IfOk y (λ z. unsigned_abs z ≤ 1_000_000_000) → IfOk (both make_point x y) InRange
pair-small (Ok x) (Ok y) hx hy = record { x_abs = hx; y_abs = hy }
pair-small (Ok x) (Err e) hx hy = tt
pair-small (Err Misspelt) y hx hy = tt
pair-small (Err OutOfRange) (Ok y) hx hy = tt
pair-small (Err OutOfRange) (Err e) hx hy = tt

pub point-within : (x y : List ℕ) → IfOk (both make_point (signed_within 1_000_000_000 x) (signed_within 1_000_000_000 y)) InRange
point-within x y = pair-small (signed_within 1_000_000_000 x) (signed_within 1_000_000_000 y) (signed-small 1_000_000_000 x) (signed-small 1_000_000_000 y)
