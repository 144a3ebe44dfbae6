use Rattle.std.proofs.Common.{◌≡◌, ◌≤◌, ◌+◌, ◌∷◌, [], None, Some, List, All, reverse, sym, ap, subst, ◌∙◌, arith, option_copied}
use Rattle.std.proofs.lemmas.Bool.Decides.{nat_tests}
use Rattle.std.specs.Option.{IsSome}
use Rattle.road_network.specs.Net.{HasEdge, source, target}
use Rattle.road_network.specs.Walk.{IsLeastWalk}
use Rattle.road_network.specs.declared.Candidate.{Candidate}
use Rattle.road_network.specs.declared.EdgeId.{EdgeId}
use Rattle.bounded_table.specs.Table.{IsRow, TableRow, entry_in}
use Rattle.matching.specs.Routes.{Direct, IsRoute}
use Rattle.route_rebuild.specs.Numbers.{numbers}
use Rattle.cert_checker.specs.inside.CaseSeen.{case_seen}
use Rattle.cert_checker.specs.inside.Legs.{IsLeftAfter, chosen_in_case}
use Rattle.cert_checker.proofs.Legs.{is_listed, walk_edges}
use Rattle.cert_checker.proofs.LegRows.{IsDirectLeg, differs_walk, follows_walk, leg_found, leg_row, stays_direct}
use Rattle.cert_checker.proofs.routes.after_leg.Goals as goal
use Rattle.cert_checker.proofs.routes.after_leg.Goals.{else-eq-via-then-eq+else-a-b, else-eq-via-else-eq}

pub returns-then-a-b : goal.returns-then-a-b
returns-then-a-b c =
    let k = case_seen c.args.case.now in
    let i = c.args.i in
    let same : c.chosen-a.result.edge.0 ≡ c.chosen-b.result.edge.0 = grind (arith, nat_tests) in
    let le : c.chosen-a.result.offset ≤ c.chosen-b.result.offset + k.params.back = omega arith in
    let direct : IsDirectLeg k i = rw (← c.chosen-a.ensures, ← c.chosen-b.ensures) (same, le) in
    stays_direct k i c.args.names.now c.invariants.ensures direct

pub walk-requires-clause-row : goal.walk-requires-clause-row
walk-requires-clause-row c =
    let k = case_seen c.args.case.now in
    let i = c.args.i in
    let lawful = c.invariants.ensures in
    let d : TableRow = c.at.result.now in
    let end : c.to.result.0 ≡ target k.net (chosen_in_case k i).edge.0 = c.to.ensures ∙ ap (λ (x : Candidate). target k.net x.edge.0) c.chosen-a.ensures in
    let row = subst (λ (r : TableRow). IsRow k.net k.params.bound (target k.net (chosen_in_case k i).edge.0) r) (c.at.ensures d) (leg_row k i c.in-Some.place c.to.result.0 d lawful c.requires end c.in-Some.ensures.at) in
    (k.params.bound, subst (λ s. IsRow k.net k.params.bound s d) (sym row.origin) row)

pub walk-requires-clause-listed : goal.walk-requires-clause-listed
walk-requires-clause-listed c =
    let k = case_seen c.args.case.now in
    let i = c.args.i in
    let lawful = c.invariants.ensures in
    let none : IsDirectLeg k i → ⊥ = λ direct.
    let is : IsRoute k.net k.params.bound k.params.back c.chosen-a.result c.chosen-b.result Direct = rw (c.chosen-a.ensures, c.chosen-b.ensures) direct in
    elim c.else-eq.branch [ else-eq-via-then-eq+else-a-b w ↦ omega (arith, is.1) | else-eq-via-else-eq w ↦ let same = is.0 in grind (arith, nat_tests) ] in
    let d : TableRow = c.at.result.now in
    let end : c.to.result.0 ≡ target k.net (chosen_in_case k i).edge.0 = c.to.ensures ∙ ap (λ (x : Candidate). target k.net x.edge.0) c.chosen-a.ensures in
    let row = subst (λ (r : TableRow). IsRow k.net k.params.bound (target k.net (chosen_in_case k i).edge.0) r) (c.at.ensures d) (leg_row k i c.in-Some.place c.to.result.0 d lawful c.requires end c.in-Some.ensures.at) in
    let start : c.from.result.0 ≡ source k.net (chosen_in_case k (i + 1)).edge.0 = c.from.ensures ∙ ap (λ (x : Candidate). source k.net x.edge.0) c.chosen-b.ensures in
    subst (λ v. IsSome (entry_in d.entries v)) (sym start)
    (is_listed k.net k.params.bound (target k.net (chosen_in_case k i).edge.0) (source k.net (chosen_in_case k (i + 1)).edge.0) d row (leg_found k i lawful c.requires none))

pub after_edges-requires : goal.after_edges-requires
after_edges-requires c =
    let k = case_seen c.args.case.now in
    let i = c.args.i in
    let lawful = c.invariants.ensures in
    let d : TableRow = c.at.result.now in
    let end : c.to.result.0 ≡ target k.net (chosen_in_case k i).edge.0 = c.to.ensures ∙ ap (λ (x : Candidate). target k.net x.edge.0) c.chosen-a.ensures in
    let row = subst (λ (r : TableRow). IsRow k.net k.params.bound (target k.net (chosen_in_case k i).edge.0) r) (c.at.ensures d) (leg_row k i c.in-Some.place c.to.result.0 d lawful c.requires end c.in-Some.ensures.at) in
    let start : c.from.result.0 ≡ source k.net (chosen_in_case k (i + 1)).edge.0 = c.from.ensures ∙ ap (λ (x : Candidate). source k.net x.edge.0) c.chosen-b.ensures in
    let least : IsLeastWalk k.net (target k.net (chosen_in_case k i).edge.0) (reverse (numbers c.in_ok-edges.edges)) (source k.net (chosen_in_case k (i + 1)).edge.0) =
    subst (λ v. IsLeastWalk k.net (target k.net (chosen_in_case k i).edge.0) (reverse (numbers c.in_ok-edges.edges)) v) start
    (subst (λ s. IsLeastWalk k.net s (reverse (numbers c.in_ok-edges.edges)) c.from.result.0) row.origin c.in_ok-edges.ensures) in
    subst (λ (es : List EdgeId). All (λ (e : EdgeId). HasEdge k.net e.0) es) (sym c.as_slice.ensures)
    (walk_edges k.net (target k.net (chosen_in_case k i).edge.0) (source k.net (chosen_in_case k (i + 1)).edge.0) c.in_ok-edges.edges least)

pub returns-in_default-after_edges : goal.returns-in_default-after_edges
returns-in_default-after_edges c =
    let k = case_seen c.args.case.now in
    let i = c.args.i in
    let lawful = c.invariants.ensures in
    let none : IsDirectLeg k i → ⊥ = λ direct.
    let is : IsRoute k.net k.params.bound k.params.back c.chosen-a.result c.chosen-b.result Direct = rw (c.chosen-a.ensures, c.chosen-b.ensures) direct in
    elim c.else-eq.branch [ else-eq-via-then-eq+else-a-b w ↦ omega (arith, is.1) | else-eq-via-else-eq w ↦ let same = is.0 in grind (arith, nat_tests) ] in
    let d : TableRow = c.at.result.now in
    let end : c.to.result.0 ≡ target k.net (chosen_in_case k i).edge.0 = c.to.ensures ∙ ap (λ (x : Candidate). target k.net x.edge.0) c.chosen-a.ensures in
    let row = subst (λ (r : TableRow). IsRow k.net k.params.bound (target k.net (chosen_in_case k i).edge.0) r) (c.at.ensures d) (leg_row k i c.in-Some.place c.to.result.0 d lawful c.requires end c.in-Some.ensures.at) in
    let start : c.from.result.0 ≡ source k.net (chosen_in_case k (i + 1)).edge.0 = c.from.ensures ∙ ap (λ (x : Candidate). source k.net x.edge.0) c.chosen-b.ensures in
    let least : IsLeastWalk k.net (target k.net (chosen_in_case k i).edge.0) (reverse (numbers c.in_ok-edges.edges)) (source k.net (chosen_in_case k (i + 1)).edge.0) =
    subst (λ v. IsLeastWalk k.net (target k.net (chosen_in_case k i).edge.0) (reverse (numbers c.in_ok-edges.edges)) v) start
    (subst (λ s. IsLeastWalk k.net s (reverse (numbers c.in_ok-edges.edges)) c.from.result.0) row.origin c.in_ok-edges.ensures) in
    differs_walk k i c.args.names.now c.in_ok-edges.edges lawful c.requires none least
    (subst (λ (es : List EdgeId). IsLeftAfter k.net c.args.names.now (numbers es) None) c.as_slice.ensures c.in_default-after_edges.ensures)

pub returns : goal.returns
returns c =
    let k = case_seen c.args.case.now in
    let i = c.args.i in
    let lawful = c.invariants.ensures in
    let none : IsDirectLeg k i → ⊥ = λ direct.
    let is : IsRoute k.net k.params.bound k.params.back c.chosen-a.result c.chosen-b.result Direct = rw (c.chosen-a.ensures, c.chosen-b.ensures) direct in
    elim c.else-eq.branch [ else-eq-via-then-eq+else-a-b w ↦ omega (arith, is.1) | else-eq-via-else-eq w ↦ let same = is.0 in grind (arith, nat_tests) ] in
    let d : TableRow = c.at.result.now in
    let end : c.to.result.0 ≡ target k.net (chosen_in_case k i).edge.0 = c.to.ensures ∙ ap (λ (x : Candidate). target k.net x.edge.0) c.chosen-a.ensures in
    let row = subst (λ (r : TableRow). IsRow k.net k.params.bound (target k.net (chosen_in_case k i).edge.0) r) (c.at.ensures d) (leg_row k i c.in-Some.place c.to.result.0 d lawful c.requires end c.in-Some.ensures.at) in
    let start : c.from.result.0 ≡ source k.net (chosen_in_case k (i + 1)).edge.0 = c.from.ensures ∙ ap (λ (x : Candidate). source k.net x.edge.0) c.chosen-b.ensures in
    let least : IsLeastWalk k.net (target k.net (chosen_in_case k i).edge.0) (reverse (numbers c.in_ok-edges.edges)) (source k.net (chosen_in_case k (i + 1)).edge.0) =
    subst (λ v. IsLeastWalk k.net (target k.net (chosen_in_case k i).edge.0) (reverse (numbers c.in_ok-edges.edges)) v) start
    (subst (λ s. IsLeastWalk k.net s (reverse (numbers c.in_ok-edges.edges)) c.from.result.0) row.origin c.in_ok-edges.ensures) in
    follows_walk k i c.args.names.now c.in-Some-after_edges.left.now c.in_ok-edges.edges (option_copied c.after_edge.result) lawful c.requires none least
    (subst (λ (es : List EdgeId). IsLeftAfter k.net c.args.names.now (numbers es) (Some c.in-Some-after_edges.left.now)) c.as_slice.ensures c.in-Some-after_edges.ensures)
    (subst (λ (x : Candidate). IsLeftAfter k.net c.in-Some-after_edges.left.now (x.edge.0 ∷ []) (option_copied c.after_edge.result)) c.chosen-b.ensures c.after_edge.ensures)
