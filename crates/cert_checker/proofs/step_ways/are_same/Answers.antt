use Rattle.std.proofs.Common.{◌≡◌, Bool, true, false, refl, Option, ℕ, ap}
use Rattle.std.specs.Prelude.{◌==◌, ◌&&◌}
use Rattle.std.specs.Bool.{Decides, OnTrue}
use Rattle.std.specs.Option.{option_eq}
use Rattle.std.proofs.lemmas.Bool.Decides.{Decides-and, Decides-like}
use Rattle.std.proofs.lemmas.Slice.Eq.{slice_eq-Decides}
use Rattle.matching.specs.declared.parts.Cell.{Cell}
use Rattle.cert_checker.proofs.ListTests.{same_options}
use Rattle.cert_checker.proofs.step_ways.are_same.Goals as goal

abbrev same_numbers : Option ℕ → Option ℕ → Bool
same_numbers x y = option_eq (λ (a b : ℕ). a == b) x y

cell_is : (x y : Cell) → (x.cost ≡ y.cost) × (x.«from» ≡ y.«from») → x ≡ y
cell_is x y h i = record { cost = h.0 i; «from» = h.1 i }

same_cell : (x y : Cell) → Decides (same_numbers (x.cost) (y.cost) && same_numbers (x.«from») (y.«from»)) (x ≡ y)
same_cell x y =
    Decides-like (same_numbers (x.cost) (y.cost) && same_numbers (x.«from») (y.«from»)) (cell_is x y) (λ e. (ap (λ (k : Cell). k.cost) e, ap (λ (k : Cell). k.«from») e))
    (Decides-and (same_numbers (x.cost) (y.cost)) (same_numbers (x.«from») (y.«from»)) (same_options (x.cost) (y.cost)) (same_options (x.«from») (y.«from»)))

on_true : {P : Type 0} (b : Bool) → Decides b P → OnTrue b P
on_true true d = d.0 refl
on_true false d = tt

pub returns : goal.returns
returns c = on_true c.eq.result (slice_eq-Decides same_cell c.args.cells.now c.args.others.now c.eq.result c.eq.ensures)
