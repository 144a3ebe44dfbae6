-- The route over the first points of a piece, and how it goes on.
use Rattle.std.proofs.Common.{◌≡◌, ℕ, suc, ◌+◌, ◌-◌, ◌^◌, ◌<◌, ◌≤◌, ◌++◌, List, [], ◌∷◌, ◌⊎◌, Result, reverse, refl, sym, ap, subst, ◌∙◌, inl, inr, ⊎_elim, arith, append_assoc, length}
use native.Mathlib.Decide.{ℕ_discrete}
use mathlib.Core.Logic.{dite}
use Rattle.std.proofs.lemmas.List.{append-nil, reverse-reverse}
use Rattle.bounded_table.specs.Rows.{RowsState, AsksFor}
use Rattle.bounded_table.proofs.Asking.{asks_by}
use Rattle.road_network.specs.declared.Candidate.{Candidate}
use Rattle.road_network.specs.declared.EdgeId.{EdgeId}
use Rattle.road_network.specs.Net.{Net, HasEdge, IsLawful, source, target}
use Rattle.road_network.specs.Walk.{IsLeastWalk, walk_length}
use Rattle.matching.specs.Routes.{Route, Direct, Over, IsRoute, IsTheRoute}
use Rattle.matching.specs.Layers.{no_candidate}
use Rattle.matching.proofs.Routes.{direct_route, over_route}
use Rattle.route_rebuild.specs.Numbers.{numbers}
use Rattle.route_rebuild.specs.Routes.{AreLegs, edges_of}
use Rattle.route_rebuild.specs.inside.Runs.{HasWalk, IsDirectLeg, IsLegAdded, IsRouteOfRun, IsWalkStartAt, IsWalkStartOf, chosen_in_run, last_in}
use Rattle.route_rebuild.specs.declared.run.Run.{Run}
use Rattle.route_rebuild.proofs.RouteValue.{route_found}

-- es is the route over the points from the run's first to i; with the legs from there it is the route over the run
pub record IsSoFar (run : Run) (i : ℕ) (es : List ℕ) : Type 0 where
  pub tail : List ℕ
  pub begins : es ≡ (chosen_in_run run 0).edge.0 ∷ tail
  pub legs : (rest : List ℕ) → AreLegs run.net.now run.params.now.bound run.params.now.back (chosen_in_run run) i (last_in run - i) rest
      → AreLegs run.net.now run.params.now.bound run.params.now.back (chosen_in_run run) 0 (last_in run - 0) (tail ++ rest)

pub so_far_more : (run : Run) (i : ℕ) (es more : List ℕ) → i < last_in run → IsSoFar run i es → IsLegAdded run i es more → IsSoFar run (i + 1) more
so_far_more run i es more lt far leg =
    let n = run.net.now in
    let bound = run.params.now.bound in
    let back = run.params.now.back in
    let first : ℕ = 0 in
    let last = last_in run in
    let edges : List ℕ = edges_of (chosen_in_run run (i + 1)) leg.route in
    let count : suc (last - (i + 1)) ≡ last - i = omega (arith, lt) in
    record {
      tail = far.tail ++ edges;
      begins = leg.added ∙ ap (λ (k : List ℕ). k ++ edges) far.begins;
      legs = λ rest h.
          subst (λ (k : List ℕ). AreLegs n bound back (chosen_in_run run) first (last - first) k) (sym (append_assoc far.tail edges rest))
          (far.legs (edges ++ rest) (subst (λ (k : ℕ). AreLegs n bound back (chosen_in_run run) i k (edges ++ rest)) count (leg.route, rest, leg.is, refl, h)));
    }

pub so_far_end : (run : Run) (i : ℕ) (es : List ℕ) → i ≡ last_in run → IsSoFar run i es → IsRouteOfRun run es
so_far_end run i es at far =
    let n = run.net.now in
    let bound = run.params.now.bound in
    let back = run.params.now.back in
    let first : ℕ = 0 in
    let last = last_in run in
    let none : 0 ≡ last - i = omega (arith, at) in
    let all : last - 0 ≡ length run.chosen.now - 1 = omega arith in
    record {
      rest = far.tail;
      begins = far.begins;
      legs_are = subst (λ (k : ℕ). AreLegs n bound back (chosen_in_run run) 0 k far.tail) all
          (subst (λ (k : List ℕ). AreLegs n bound back (chosen_in_run run) first (last - first) k) (append-nil far.tail)
          (far.legs [] (subst (λ (k : ℕ). AreLegs n bound back (chosen_in_run run) i k []) none refl)));
    }

-- where no route is direct, there is a walk within the bound
walk_of : (n : Net) (bound back : ℕ) (a b : Candidate) (r : Route) → IsRoute n bound back a b r → (IsRoute n bound back a b Direct → ⊥) → HasWalk n bound a.edge.0 b.edge.0
walk_of n bound back a b Direct is none = absurd (none is)
walk_of n bound back a b (Over w) is none = (w, is.0, is.1)

-- and the route is over the least
least_route : (n : Net) (bound back : ℕ) (a b : Candidate) (w : List ℕ) → HasWalk n bound a.edge.0 b.edge.0 → (IsRoute n bound back a b Direct → ⊥) → IsLeastWalk n (target n a.edge.0) w (source n b.edge.0) → IsTheRoute n bound back a b (Over w)
least_route n bound back a b w found none least =
    let within : walk_length n w ≤ bound = elim (least.least found.0 found.1) [ inl lt ↦ omega (arith, lt, found.2) | inr p ↦ omega (arith, p.0, found.2) ] in
    over_route n bound back a b w none least within

-- v is the node where the walk of a leg before point i starts
abbrev pub IsWalkStartBefore : Run → ℕ → ℕ → Type 0
IsWalkStartBefore run i v = (k : ℕ) × (k < i) × IsWalkStartAt run k v

pub start_more : (run : Run) (i v : ℕ) → IsWalkStartBefore run i v ⊎ IsWalkStartAt run i v → IsWalkStartBefore run (i + 1) v
start_more run i v h = ⊎_elim
    (λ (before : IsWalkStartBefore run i v). (before.0, omega (arith, before.1), before.2))
    (λ (here : IsWalkStartAt run i v). (i, omega arith, here)) h

pub start_split : (run : Run) (i v : ℕ) → IsWalkStartBefore run (i + 1) v → IsWalkStartBefore run i v ⊎ IsWalkStartAt run i v
start_split run i v (k, less, at) = dite (ℕ_discrete k i)
    (λ (same : k ≡ i). inr (subst (λ j. IsWalkStartAt run j v) same at))
    (λ ne. inl (k, omega (arith, less, ne), at))

pub start_of : (run : Run) (i v : ℕ) → i ≤ last_in run → IsWalkStartBefore run i v → IsWalkStartOf run v
start_of run i v le (k, less, at) = (k, omega (arith, less, le), at.0, at.1)

pub start_all : (run : Run) (i v : ℕ) → i ≡ last_in run → IsWalkStartOf run v → IsWalkStartBefore run i v
start_all run i v at (k, less, none, here) = (k, omega (arith, less, at), (none, here))

-- asking for the row of the node where the first edge ends is asking for where this leg's walk starts
pub asks_walk : {A E : Type 0} {s0 s1 : RowsState} {result : Result A E} (run : Run) (i v : ℕ) (a b : Candidate) → a ≡ chosen_in_run run i → b ≡ chosen_in_run run (i + 1)
    → (IsRoute run.net.now run.params.now.bound run.params.now.back a b Direct → ⊥) → v ≡ target run.net.now a.edge.0 → AsksFor s0 (λ w. w ≡ v) result s1 → AsksFor s0 (IsWalkStartAt run i) result s1
asks_walk run i v a b a_is b_is none is asks =
    let long : IsDirectLeg run i → ⊥ = rw (a_is, b_is) at none in
    let start : v ≡ target run.net.now (chosen_in_run run i).edge.0 = rw a_is at is in
    asks_by asks (λ w same. (long, same ∙ start)) (λ w walk. walk.1 ∙ sym start)

numbers_append : (xs ys : List EdgeId) → numbers (xs ++ ys) ≡ numbers xs ++ numbers ys
numbers_append [] ys = refl
numbers_append (x ∷ xs) ys = ap (λ (k : List ℕ). x.0 ∷ k) (numbers_append xs ys)

appended : (b : Candidate) (edges walk after : List EdgeId) → after ≡ (edges ++ walk) ++ b.edge ∷ [] → numbers after ≡ numbers edges ++ edges_of b (Over (reverse (numbers walk)))
appended b edges walk after is =
    ap numbers is ∙ (numbers_append (edges ++ walk) (b.edge ∷ [])
    ∙ (ap (λ (k : List ℕ). k ++ b.edge.0 ∷ []) (numbers_append edges walk)
    ∙ (append_assoc (numbers edges) (numbers walk) (b.edge.0 ∷ [])
    ∙ ap (λ (k : List ℕ). numbers edges ++ (k ++ b.edge.0 ∷ [])) (sym (reverse-reverse (numbers walk))))))

pub direct_leg : (run : Run) (i : ℕ) (es : List ℕ) → IsDirectLeg run i → IsLegAdded run i es es
direct_leg run i es is = record {
  route = Direct;
  is = direct_route run.net.now run.params.now.bound run.params.now.back (chosen_in_run run i) (chosen_in_run run (i + 1)) is;
  added = sym (append-nil es);
}

-- the two ends of a leg have edges of the network
pub leg_edges : (run : Run) (i : ℕ) → i + 1 < length run.chosen.now → HasEdge run.net.now (chosen_in_run run i).edge.0 × HasEdge run.net.now (chosen_in_run run (i + 1)).edge.0
leg_edges run i lt = ((run.is.candidates i no_candidate (omega (arith, lt))).edge, (run.is.candidates (i + 1) no_candidate lt).edge)

-- and what is added to the offset of its second one fits 32 bits
pub offset_fits : (run : Run) (i : ℕ) → IsLawful run.net.now → i + 1 < length run.chosen.now → (chosen_in_run run (i + 1)).offset + run.params.now.back < 2 ^ 32
offset_fits run i lawful lt =
    let b = run.is.candidates (i + 1) no_candidate lt in
    omega (arith, b.offset, lawful.not_long (chosen_in_run run (i + 1)).edge.0 b.edge, run.is.options.back)

-- where there is none, there is a walk from point i to the next
pub leg_walk : (run : Run) (i : ℕ) → IsLawful run.net.now → i + 1 < length run.chosen.now → (IsDirectLeg run i → ⊥) → HasWalk run.net.now run.params.now.bound (chosen_in_run run i).edge.0 (chosen_in_run run (i + 1)).edge.0
leg_walk run i lawful lt none =
    let n = run.net.now in
    let bound = run.params.now.bound in
    let back = run.params.now.back in
    let found = route_found n bound back (chosen_in_run run i) (chosen_in_run run (i + 1)) lawful (run.is.routes i lt) in
    walk_of n bound back (chosen_in_run run i) (chosen_in_run run (i + 1)) found.0 found.2.route none

-- the walk and the next edge, as they are appended
pub walk_leg : (run : Run) (i : ℕ) (edges walk after : List EdgeId) → HasWalk run.net.now run.params.now.bound (chosen_in_run run i).edge.0 (chosen_in_run run (i + 1)).edge.0 → (IsDirectLeg run i → ⊥)
    → IsLeastWalk run.net.now (target run.net.now (chosen_in_run run i).edge.0) (reverse (numbers walk)) (source run.net.now (chosen_in_run run (i + 1)).edge.0)
    → after ≡ (edges ++ walk) ++ (chosen_in_run run (i + 1)).edge ∷ [] → IsLegAdded run i (numbers edges) (numbers after)
walk_leg run i edges walk after found none least added =
    let b = chosen_in_run run (i + 1) in
    record {
      route = Over (reverse (numbers walk));
      is = least_route run.net.now run.params.now.bound run.params.now.back (chosen_in_run run i) b (reverse (numbers walk)) found none least;
      added = appended b edges walk after added;
    }
