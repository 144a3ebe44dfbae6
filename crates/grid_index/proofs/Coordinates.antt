-- Coordinates of points are read back as they were written.
use Rattle.std.proofs.Common.{◌≡◌, ℤ, ◌≤◌, ◌≤ℤ◌, ◌∙◌, ap, arith, of_z, subst, sym, to_z, w32}
use Rattle.std.proofs.lemmas.Int.{fits_signed_from_abs, to_z-of_z}
use Rattle.std.specs.Int.RustNames.{unsigned_abs}
use Rattle.grid_index.specs.Cells.{shifted}
use Rattle.grid_index.specs.NearestCell.{nearest_between}

abbrev pub back : ℤ → ℤ
back z = to_z w32 (of_z w32 z)

abbrev pub IsSmall : ℤ → Type 0
IsSmall z = unsigned_abs z ≤ 1_000_000_000

pub read_back : (z : ℤ) → IsSmall z → back z ≡ z
read_back z small = to_z-of_z w32 z (fits_signed_from_abs w32 z (omega (arith, small)))

pub small_back : (z : ℤ) → IsSmall z → IsSmall (back z)
small_back z small = subst IsSmall (sym (read_back z small)) small

pub below_back : (z a : ℤ) → IsSmall z → IsSmall a → z ≤ℤ back a → back z ≤ℤ a
below_back z a h k le = subst (λ v. v ≤ℤ a) (sym (read_back z h)) (subst (λ v. z ≤ℤ v) (read_back a k) le)

pub above_back : (z a : ℤ) → IsSmall z → IsSmall a → back a ≤ℤ z → a ≤ℤ back z
above_back z a h k le = subst (λ v. a ≤ℤ v) (sym (read_back z h)) (subst (λ v. v ≤ℤ z) (read_back a k) le)

pub shifted_back : (z : ℤ) → IsSmall z → shifted (back z) ≡ shifted z
shifted_back z small = ap shifted (read_back z small)

pub nearest_back : (low high z : ℤ) → IsSmall low → IsSmall high → IsSmall z → nearest_between (back low) (back high) (back z) ≡ nearest_between low high z
nearest_back low high z l h k =
    ap (λ v. nearest_between v (back high) (back z)) (read_back low l)
    ∙ ap (λ v. nearest_between low v (back z)) (read_back high h)
    ∙ ap (λ v. nearest_between low high v) (read_back z k)
