-- The route of a piece as its first edge and its legs.
use Rattle.std.proofs.Common.{◌≡◌, ◌<◌, ◌≤◌, ℕ, suc, ◌+◌, ◌-◌, Bool, false, List, [], ◌∷◌, ◌++◌, Some, None, refl, sym, ◌∙◌, ap, arith}
use Rattle.match_text.specs.declared.matched.Routed.{Routed}
use Rattle.route_rebuild.specs.Routes.{legs, route_of}
use Rattle.cert_checker.specs.Case.{Case}
use Rattle.cert_checker.specs.inside.Legs.{IsLeftAfter, are_names, chosen_in_case, leg}
use Rattle.cert_checker.specs.Verdicts.{has_route}

-- the legs from point i to the piece's last
abbrev pub legs_from : Case → Routed → ℕ → List ℕ
legs_from k q i = legs k.net k.params.bound k.params.back (chosen_in_case k) i (q.last - i)

-- the ids of the route are those of its first edge and of its legs
pub by_legs : (k : Case) (q : Routed) → are_names k.net q.route ((chosen_in_case k q.first).edge.0 ∷ legs_from k q q.first) ≡ has_route k q
unfolding route_of
by_legs k q = refl

pub begins_otherwise : (k : Case) (q : Routed) → IsLeftAfter k.net q.route ((chosen_in_case k q.first).edge.0 ∷ []) None → false ≡ has_route k q
begins_otherwise k q other = sym (other (legs_from k q q.first)) ∙ by_legs k q

pub first_left : (k : Case) (q : Routed) (left : List ℕ) → IsLeftAfter k.net q.route ((chosen_in_case k q.first).edge.0 ∷ []) (Some left)
    → are_names k.net left (legs_from k q q.first) ≡ has_route k q
first_left k q left first = sym (first (legs_from k q q.first)) ∙ by_legs k q

-- the legs from a point before the last are its leg and those from the next
next_legs : (k : Case) (q : Routed) (i : ℕ) → i < q.last → legs_from k q i ≡ leg k i ++ legs_from k q (i + 1)
next_legs k q i lt =
    let count : q.last - i ≡ suc (q.last - (i + 1)) = omega (arith, lt) in
    ap (legs k.net k.params.bound k.params.back (chosen_in_case k) i) count

pub leg_differs : (k : Case) (q : Routed) (left : List ℕ) (i : ℕ) → i < q.last → IsLeftAfter k.net left (leg k i) None
    → are_names k.net left (legs_from k q i) ≡ has_route k q → false ≡ has_route k q
leg_differs k q left i lt other so_far = sym (ap (are_names k.net left) (next_legs k q i lt) ∙ other (legs_from k q (i + 1))) ∙ so_far

pub legs_left : (k : Case) (q : Routed) (left rest : List ℕ) (i : ℕ) → i < q.last → IsLeftAfter k.net left (leg k i) (Some rest)
    → are_names k.net left (legs_from k q i) ≡ has_route k q → are_names k.net rest (legs_from k q (i + 1)) ≡ has_route k q
legs_left k q left rest i lt more so_far = sym (ap (are_names k.net left) (next_legs k q i lt) ∙ more (legs_from k q (i + 1))) ∙ so_far

-- behind the last leg nothing may be left
pub none_left : (k : Case) (q : Routed) (left : List ℕ) (i : ℕ) (empty : Bool) → q.last ≤ i → empty ≡ are_names k.net left []
    → are_names k.net left (legs_from k q i) ≡ has_route k q → empty ≡ has_route k q
none_left k q left i empty le is so_far =
    let count : 0 ≡ q.last - i = omega (arith, le) in
    is ∙ ap (λ j. are_names k.net left (legs k.net k.params.bound k.params.back (chosen_in_case k) i j)) count ∙ so_far
