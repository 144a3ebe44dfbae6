-- Where each cell of a point has the least way, all three tests pass.
use Rattle.std.proofs.Common.{◌≡◌, ◌<◌, ◌≤◌, ℕ, ◌-◌, ◌^◌, Bool, true, List, length, Option, Some, None, MatchOption, is_some, refl, sym, ◌∙◌, ap, subst, arith}
use Rattle.std.specs.Bool.{one_answer}
use Rattle.std.specs.List.{list_any}
use Rattle.polyline_geometry.specs.Plane.{straight}
use Rattle.road_network.specs.Net.{IsLawful}
use Rattle.route_rebuild.specs.Routes.{no_layer}
use Rattle.trellis.specs.Offers.{IsStep}
use Rattle.matching.specs.declared.parts.Cell.{Cell}
use Rattle.matching.specs.declared.parts.Layer.{Layer}
use Rattle.matching.specs.Cells.{cell_at, empty_cell}
use Rattle.matching.specs.Growth.{CostAtMost}
use Rattle.matching.specs.Layers.{AreNeighbours, trellis}
use Rattle.matching.specs.Local.{AreNext, IsTightCost}
use Rattle.matching.proofs.Costs.{added-parts}
use Rattle.matching.proofs.Growth.{emission_le, transition_le}
use Rattle.cert_checker.specs.Case.{Case, has_way, layer, table, way, ways, width}
use Rattle.cert_checker.specs.inside.CaseSeen.{IsPositionReady}
use Rattle.cert_checker.specs.Cells.{is_first_pointer, is_relaxed, is_tight}
use Rattle.cert_checker.specs.inside.Columns.{AreWaysOf, each_cell}
use Rattle.cert_checker.proofs.CellTests.{IsBound, pointer, relaxed, tight}
use Rattle.cert_checker.proofs.ReadyPoints.{cells_before, neighbours}
use Rattle.cert_checker.proofs.ListTests.{IsThere, each_below_n, itself, some_below_n, some_element, some_way, there}

-- the parts of a step are those of the case
pub record AreParts (c : Case) (i : ℕ) (m : Layer) (before : List Cell) (l : Layer) : Type 0 where
  pub m-is : m ≡ layer c (i - 1)
  pub before-is : before ≡ table c (i - 1)
  pub l-is : l ≡ layer c i

-- the cells of the point are those of a step from the point before
abbrev pub AreStepped : Case → ℕ → Type 0
AreStepped c i = AreNext (trellis c.net c.params) (layer c (i - 1)) (table c (i - 1)) (layer c i) (table c i)

-- some cell of the point is live
abbrev pub has_live : Case → ℕ → Bool
has_live c i = list_any (λ (cell : Cell). is_some (cell.cost)) (table c i)

bound_there : (x : Option ℕ) (s : ℕ) → MatchOption x ⊥ (λ b. b ≤ s) → IsThere x
bound_there None s h = absurd h
bound_there (Some b) s h = (b, refl)

tight_there : (f : ℕ → Option ℕ) (n : ℕ) (x y : Option ℕ) → IsTightCost f n x y → IsThere x → (a : ℕ) × (a < n) × IsThere (f a)
tight_there f n None y h e = absurd (let q = e.1 in cc)
tight_there f n (Some c) None h e = absurd h
tight_there f n (Some c) (Some a) h e = (a, h.0, (c, h.1))

module _ (c : Case) (i : ℕ) (ready : IsPositionReady c i) (lawful : IsLawful c.net) (small : CostAtMost (2 ^ 64 - 2 ^ 43) (table c (i - 1))) (stepped : AreStepped c i) where
  fits : (a j s : ℕ) → a < width c (i - 1) → j < width c i → way c i a j ≡ Some s → s < 2 ^ 64
  fits a j s a_in j_in e =
      let t = trellis c.net c.params in
      let pair = neighbours c i ready in
      let p = added-parts ((cell_at (table c (i - 1)) a).cost) (t.transition (layer c (i - 1)) a (layer c i) j) (t.emission (layer c i) j) s e in
      let first = small a p.first p.first_is in
      let second = transition_le c.net c.params (layer c (i - 1)) (layer c i) a j p.second lawful pair a_in j_in p.second-is in
      let own = emission_le c.net c.params (layer c i) j pair.options pair.layer j_in in
      omega (arith, p.sum-is, first, second, own)

  each_relaxed : each_cell is_relaxed c i (width c i) ≡ true
  each_relaxed =
      (each_below_n (λ j. (a : ℕ) → a < width c (i - 1) → (s : ℕ) → way c i a j ≡ Some s → IsBound ((cell_at (table c i) j).cost) s)
      (λ j. is_relaxed (ways c i j) (cell_at (table c i) j)) (width c i)
      (λ j. relaxed (λ a. way c i a j) (width c (i - 1)) (cell_at (table c i) j))).1
      (λ j j_in a a_in s e. (fits a j s a_in j_in e, (stepped.each j j_in).relaxed a s a_in e))

  each_tight : each_cell is_tight c i (width c i) ≡ true
  each_tight =
      (each_below_n (λ j. IsTightCost (λ a. way c i a j) (width c (i - 1)) ((cell_at (table c i) j).cost) ((cell_at (table c i) j).«from»))
      (λ j. is_tight (ways c i j) (cell_at (table c i) j)) (width c i)
      (λ j. tight (λ a. way c i a j) (width c (i - 1)) (cell_at (table c i) j))).1
      (λ j j_in. (stepped.each j j_in).tight)

  each_least : each_cell is_first_pointer c i (width c i) ≡ true
  each_least =
      (each_below_n (λ j. is_first_pointer (ways c i j) (cell_at (table c i) j) ≡ true) (λ j. is_first_pointer (ways c i j) (cell_at (table c i) j)) (width c i)
      (λ j. itself (is_first_pointer (ways c i j) (cell_at (table c i) j)))).1
      (λ j j_in. let least = stepped.each j j_in in (pointer (λ a. way c i a j) (width c (i - 1)) (cell_at (table c i) j) least.tight).1 least.pointer)

  abbrev IsReached : ℕ → Type 0
  IsReached j = (a : ℕ) × (a < width c (i - 1)) × IsThere (way c i a j)

  any_live : has_live c i ≡ has_way c i
  any_live =
      let live = some_element (λ (cell : Cell). IsThere (cell.cost)) (λ (cell : Cell). is_some (cell.cost)) empty_cell (table c i) (λ cell. there (cell.cost)) in
      let reached = some_below_n IsReached (λ j. list_any is_some (ways c i j)) (width c i) (λ j. some_way (λ a. way c i a j) (width c (i - 1))) in
      one_answer {P = (j : ℕ) × (j < width c i) × IsReached j} (has_live c i) (has_way c i) (
        λ e. let l = live.0 e in let j_in : l.0 < width c i = let lt = l.1 in let count = stepped.count in omega (arith, lt, count) in
            (l.0, j_in, tight_there (λ a. way c i a l.0) (width c (i - 1)) ((cell_at (table c i) l.0).cost) ((cell_at (table c i) l.0).«from») (stepped.each l.0 j_in).tight l.2),
        λ r. let j_in = r.1 in let count = stepped.count in let one = r.2 in
            live.1 (r.0, omega (arith, j_in, count), bound_there ((cell_at (table c i) r.0).cost) one.2.0 ((stepped.each r.0 j_in).relaxed one.0 one.2.0 one.1 one.2.1)),
      )
      reached

  pub step_ways : AreWaysOf c i (width c i) (record { any = has_live c i; relaxed = true; tight = true; least = true })
  step_ways = record {
    any = any_live;
    relaxed = sym each_relaxed;
    tight = sym each_tight;
    least = sym each_least;
  }

-- such a step can be taken
pub can_step : (c : Case) (i : ℕ) (m : Layer) (before : List Cell) (l : Layer) (apart : ℕ) → IsPositionReady c i → AreParts c i m before l
    → CostAtMost (2 ^ 64 - 2 ^ 43) before → apart ≡ straight m.point l.point → IsStep c.net c.params m before l apart
can_step c i m before l apart ready parts small far =
    let width_is : length m.candidates ≡ width c (i - 1) = ap (λ (v : Layer). length v.candidates) parts.m-is in
    let count : length before ≡ width c (i - 1) = ap (λ (cells : List Cell). length cells) parts.before-is ∙ cells_before c i ready in
    let low : i - 1 < length c.layers = let below = ready.below in omega (arith, below) in
    let narrow : width c (i - 1) ≤ 32 = ready.checkable.narrow (i - 1) no_layer low in
    record {
      layers = subst (λ v. AreNeighbours c.net c.params v l) (sym parts.m-is)
          (subst (λ w. AreNeighbours c.net c.params (layer c (i - 1)) w) (sym parts.l-is) (neighbours c i ready));
      costs = record {
        count = count ∙ sym width_is;
        few = omega (arith, count, narrow);
        small = small;
      };
      apart_is = far;
    }

-- and its cells are the least
pub stepped_of : (c : Case) (i : ℕ) (m : Layer) (before : List Cell) (l : Layer) (cells : List Cell) → AreParts c i m before l → cells ≡ table c i
    → AreNext (trellis c.net c.params) m before l cells → AreStepped c i
stepped_of c i m before l cells parts same next =
    let t = trellis c.net c.params in
    subst (λ v. AreNext t v (table c (i - 1)) (layer c i) (table c i)) parts.m-is
    (subst (λ v. AreNext t m v (layer c i) (table c i)) parts.before-is
    (subst (λ v. AreNext t m before v (table c i)) parts.l-is
    (subst (λ v. AreNext t m before l v) same next)))
