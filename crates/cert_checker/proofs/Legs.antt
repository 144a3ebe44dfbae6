-- The edges of a leg, and what is left of a route behind them.
use Rattle.std.proofs.Common.{◌≡◌, ◌<◌, ◌≤◌, ℕ, zero, suc, ◌+◌, ◌-◌, List, [], ◌∷◌, ◌++◌, length, take, drop, reverse, get_or, Option, Some, None, All, refl, sym, ◌∙◌, ap, subst, arith, append_assoc, inl, inr}
use Rattle.std.specs.Prelude.{◌&&◌, slice_get}
use Rattle.std.specs.Option.{IsSome, option_map}
use Rattle.std.proofs.lemmas.Bool.{eq-eqb, ne_eqb}
use Rattle.std.proofs.lemmas.List.{take_all, length-drop, reverse-reverse}
use Rattle.std.proofs.lemmas.List.Elements.{All-cons, All-nil}
use Rattle.std.proofs.lemmas.Option.{same_Some}
use Rattle.road_network.specs.Net.{Net, HasEdge, IsLawful, edge_name, source, target}
use Rattle.road_network.specs.Walk.{IsLeastWalk, IsWalk, Leads, walk_length}
use Rattle.road_network.specs.declared.Candidate.{Candidate}
use Rattle.road_network.specs.declared.EdgeId.{EdgeId}
use Rattle.road_network.proofs.Travel.{leads_from_walk}
use Rattle.bounded_table.specs.declared.table_row.Entry.{Entry}
use Rattle.bounded_table.specs.Table.{IsRow, TableRow, entry_in, label_of}
use Rattle.matching.specs.Routes.{Route, Direct, Over, HasNoRoute, IsRoute}
use Rattle.matching.specs.RouteBetween.{route_between}
use Rattle.matching.proofs.RouteBetweens.{route_between-is}
use Rattle.matching.proofs.Routes.{direct_route, over_route}
use Rattle.route_rebuild.specs.Numbers.{numbers}
use Rattle.route_rebuild.specs.Routes.{edges_to}
use Rattle.route_rebuild.proofs.RouteValue.{route_found}
use Rattle.cert_checker.specs.inside.Legs.{IsLeftAfter, are_names}

-- no id is left where one is wanted
pub none_after : (n : Net) (names : List ℕ) (e : ℕ) → None ≡ slice_get names 0 → IsLeftAfter n names (e ∷ []) None
none_after n [] e is rest = refl
none_after n (x ∷ names) e is rest = absurd (cc)

pub other_after : (n : Net) (names : List ℕ) (e x : ℕ) → Some x ≡ slice_get names 0 → (x ≡ edge_name n e → ⊥) → IsLeftAfter n names (e ∷ []) None
other_after n [] e x is ne rest = refl
other_after n (y ∷ names) e x is ne rest =
    ap (λ v. v && are_names n names rest) (ne_eqb y (edge_name n e) (λ same. ne (same_Some x y is ∙ same)))

same_after : (n : Net) (names : List ℕ) (e x : ℕ) → Some x ≡ slice_get names 0 → x ≡ edge_name n e → IsLeftAfter n names (e ∷ []) (Some (drop 1 names))
same_after n [] e x is same rest = absurd (cc)
same_after n (y ∷ names) e x is same rest =
    ap (λ v. v && are_names n names rest) (eq-eqb y (edge_name n e) (sym (same_Some x y is) ∙ same))

pub after_first : (n : Net) (names : List ℕ) (e x : ℕ) → Some x ≡ slice_get names 0 → x ≡ edge_name n e → IsLeftAfter n names (e ∷ []) (Some (take (length names - 1) (drop 1 names)))
after_first n names e x is same =
    let whole : take (length names - 1) (drop 1 names) ≡ drop 1 names = take_all (length names - 1) (drop 1 names) (omega (arith, length-drop 1 names)) in
    subst (λ l. IsLeftAfter n names (e ∷ []) (Some l)) (sym whole) (same_after n names e x is same)

-- more edges behind the first
pub after_more : (n : Net) (names left : List ℕ) (es : List ℕ) (fs : List ℕ) (o : Option (List ℕ)) → IsLeftAfter n names es (Some left) → IsLeftAfter n left fs o → IsLeftAfter n names (es ++ fs) o
after_more n names left es fs o first more rest =
    ap (are_names n names) (append_assoc es fs rest) ∙ first (fs ++ rest) ∙ more rest

-- where the first edges are others, so are more
pub after_none : (n : Net) (names es fs : List ℕ) → IsLeftAfter n names es None → IsLeftAfter n names (es ++ fs) None
after_none n names es fs first rest = ap (are_names n names) (append_assoc es fs rest) ∙ first (fs ++ rest)

-- a direct leg has no edges
pub direct_leg : (n : Net) (bound back : ℕ) (a b : Candidate) → IsLawful n → IsRoute n bound back a b Direct → edges_to b (route_between n bound back a b) ≡ []
direct_leg n bound back a b lawful direct = ap (edges_to b) (route_between-is n bound back a b Direct lawful (direct_route n bound back a b direct))

pub record HasWalkWithin (n : Net) (bound s v : ℕ) : Type 0 where
  pub walk : List ℕ
  pub is : IsWalk n s walk v
  pub within : walk_length n walk ≤ bound

walk_in : (n : Net) (bound back : ℕ) (a b : Candidate) (r : Route) → IsRoute n bound back a b r → (IsRoute n bound back a b Direct → ⊥) → HasWalkWithin n bound (target n a.edge.0) (source n b.edge.0)
walk_in n bound back a b Direct is none = absurd (none is)
walk_in n bound back a b (Over w) is none = record { walk = w; is = is.0; within = is.1 }

-- where there is a route and none is direct, there is a walk
pub leg_walk : (n : Net) (bound back : ℕ) (a b : Candidate) → IsLawful n → (HasNoRoute n bound back a b → ⊥) → (IsRoute n bound back a b Direct → ⊥) → HasWalkWithin n bound (target n a.edge.0) (source n b.edge.0)
leg_walk n bound back a b lawful some none =
    let found = route_found n bound back a b lawful some in
    walk_in n bound back a b found.0 found.2.route none

-- and the leg has the edges of the least, and the next edge
pub walked_leg : (n : Net) (bound back : ℕ) (a b : Candidate) (es : List ℕ) → IsLawful n → (IsRoute n bound back a b Direct → ⊥)
    → HasWalkWithin n bound (target n a.edge.0) (source n b.edge.0) → IsLeastWalk n (target n a.edge.0) (reverse es) (source n b.edge.0)
    → edges_to b (route_between n bound back a b) ≡ es ++ b.edge.0 ∷ []
walked_leg n bound back a b es lawful none found least =
    let within : walk_length n (reverse es) ≤ bound = elim (least.least found.walk found.is) [ inl lt ↦ let le = found.within in omega (arith, lt, le) | inr p ↦ let le = found.within in omega (arith, p.0, le) ] in
    ap (edges_to b) (route_between-is n bound back a b (Over (reverse es)) lawful (over_route n bound back a b (reverse es) none least within))
    ∙ ap (λ x. x ++ b.edge.0 ∷ []) (reverse-reverse es)

some_entry : (o : Option Entry) → IsSome (option_map label_of o) → IsSome o
some_entry None h = h
some_entry (Some x) h = h

-- the row of a walk's origin lists its end
pub is_listed : (n : Net) (bound s v : ℕ) (row : TableRow) → IsRow n bound s row → HasWalkWithin n bound s v → IsSome (entry_in row.entries v)
is_listed n bound s v row is found = some_entry (entry_in row.entries v) (is.table.reached v found.walk found.is found.within)

leads_over : (n : Net) (u v : ℕ) (es : List EdgeId) → Leads n u (numbers es) v → All (λ (e : EdgeId). HasEdge n e.0) es
leads_over n u v [] h = All-nil (λ (e : EdgeId). HasEdge n e.0)
leads_over n u v (e ∷ es) h = All-cons (λ (x : EdgeId). HasEdge n x.0) e es h.0 (leads_over n (target n e.0) v es h.2)

-- a walk goes over edges of the network
pub walk_edges : (n : Net) (s v : ℕ) (es : List EdgeId) → IsLeastWalk n s (reverse (numbers es)) v → All (λ (e : EdgeId). HasEdge n e.0) es
walk_edges n s v es least =
    leads_over n s v es (subst (λ x. Leads n s x v) (reverse-reverse (numbers es)) (leads_from_walk n s v (reverse (numbers es)) least.walk))

-- the numbers of the first edges and of one more
pub numbers_more : (es : List EdgeId) (k : ℕ) (d : EdgeId) → k < length es → numbers (take (k + 1) es) ≡ numbers (take k es) ++ (get_or es k d).0 ∷ []
numbers_more [] k d lt = absurd (omega (arith, lt))
numbers_more (e ∷ es) zero d lt = refl
numbers_more (e ∷ es) (suc k) d lt =
    let count : suc k + 1 ≡ suc (k + 1) = omega arith in
    ap (λ j. numbers (take j (e ∷ es))) count ∙ ap (λ (x : List ℕ). e.0 ∷ x) (numbers_more es k d (omega (arith, lt)))

pub numbers_split : (es : List EdgeId) (k : ℕ) (d : EdgeId) → k < length es → numbers es ≡ (numbers (take k es) ++ (get_or es k d).0 ∷ []) ++ numbers (drop (k + 1) es)
numbers_split [] k d lt = absurd (omega (arith, lt))
numbers_split (e ∷ es) zero d lt = refl
numbers_split (e ∷ es) (suc k) d lt =
    let count : suc (k + 1) ≡ suc k + 1 = omega arith in
    ap (λ (x : List ℕ). e.0 ∷ x) (numbers_split es k d (omega (arith, lt)))
    ∙ ap (λ j. (numbers (take (suc k) (e ∷ es)) ++ (get_or es k d).0 ∷ []) ++ numbers (drop j (e ∷ es))) count
