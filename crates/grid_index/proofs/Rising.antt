-- A sorted list without repeats is rising.
use Rattle.std.proofs.Common.{◌≡◌, ℕ, ◌<◌, Bool, true, false, cond, eqb, ltb, List, get_or, refl, ap, subst, arith}
use Rattle.std.specs.Ordering.{nat_cmp}
use Rattle.std.specs.List.{Contains, dedup}
use Rattle.std.specs.List.Sorted.{IsSorted}
use Rattle.std.proofs.lemmas.Bool.Decides.{nat_tests}
use Rattle.std.proofs.lemmas.Cmp.{nat_cmp_total, nat_eq_equiv, on_equiv, on_total}
use Rattle.std.specs.Cmp.{unsigned_ties}
use Rattle.std.proofs.lemmas.List.Kept.{Contains-dedup, IsStrictlySortedBy-dedup}
use Rattle.std.proofs.lemmas.Map.Keys.{Less-from_sorted}
use Rattle.std.specs.declared.cmp.Ordering.{Ordering}
use Rattle.std.specs.declared.cmp.Ordering.TheVariants.{Less, Equal, Greater}
use Rattle.road_network.specs.declared.EdgeId.{EdgeId}
use Rattle.grid_index.specs.Rising.{AreRising}

abbrev pub number : EdgeId → ℕ
number e = e.0

abbrev pub order : EdgeId → EdgeId → Ordering
order e f = nat_cmp e.0 f.0

abbrev pub same : EdgeId → EdgeId → Bool
same e f = eqb e.0 f.0

not_less : (b : Bool) {P : Type 0} → cond b Equal Greater ≡ Less → P
not_less true h = absurd (cc)
not_less false h = absurd (cc)

is_less : (x y : ℕ) → nat_cmp x y ≡ Less → x < y
is_less x y h =
    let both : (b : Bool) → ltb x y ≡ b → x < y = λ b.
    elim b as (λ v. ltb x y ≡ v → x < y) [
      | true ↦ λ e. grind (arith, nat_tests)
      | false ↦ λ e. let k : cond false Less (cond (eqb x y) Equal Greater) ≡ Less = subst (λ v. cond v Less (cond (eqb x y) Equal Greater) ≡ Less) e h in not_less (eqb x y) k
    ]
    in both (ltb x y) refl

pub rising_dedup : (edges : List EdgeId) → IsSorted order edges → AreRising (dedup same edges)
rising_dedup edges h = λ i j d lt under.
    is_less (get_or (dedup same edges) i d).0 (get_or (dedup same edges) j d).0
    (Less-from_sorted order (dedup same edges) i j d (IsStrictlySortedBy-dedup (on_total number nat_cmp_total) (λ x y. unsigned_ties x.0 y.0) edges h) lt under)

pub kept_dedup : (edges : List EdgeId) (e : EdgeId) → Contains edges e → Contains (dedup same edges) e
kept_dedup edges e there = Contains-dedup (on_equiv number nat_eq_equiv) (λ x y h. let n : x.0 ≡ y.0 = grind (arith, nat_tests) in ap (λ v. let f : EdgeId = record { 0 = v } in f) n) edges e there
