use Rattle.std.proofs.Common.{◌≡◌, ◌<◌, ◌∙◌, ℕ, List, Option, Some, None, replicate, sym, subst, arith, rules}
use Rattle.std.specs.Prelude.{slice_get}
use Rattle.std.proofs.lemmas.List.{get_or-replicate, length-replicate}
use Rattle.std.proofs.lemmas.Option.{get_or_from_slice_get, slice_get_within}
use Rattle.trellis.specs.declared.pairs.Told.{Told}
use Rattle.trellis.proofs.pairs.PairMemory.make_room.Goals as goal

none_filled : (n k : ℕ) (told : Told) → slice_get (replicate n None) k ≡ Some (Some told) → ⊥
none_filled n k told e =
    let places : List (Option Told) = replicate n None in
    let lt : k < n = omega (arith, slice_get_within places k (Some told) e, length-replicate n (let o : Option Told = None in o)) in
    let is : None ≡ Some told = sym (get_or-replicate n k None None lt) ∙ get_or_from_slice_get places k (Some told) None e in
    absurd cc

pub invariant_of-self : goal.invariant_of-self
invariant_of-self c =
    let none : c.in_ok-self-inside.field-0.items ≡ replicate 2_048 None = c.in_ok-self-inside.ensures.items_if_clones_equal (λ y h. search rules) in
    record { each = λ k told e. absurd (none_filled 2_048 k told (subst (λ (places : List (Option Told)). slice_get places k ≡ Some (Some told)) none e)) }
