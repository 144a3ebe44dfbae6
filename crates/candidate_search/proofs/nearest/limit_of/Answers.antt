use Rattle.std.proofs.Common.{◌≡◌, ◌*◌, length, inl, inr, arith, ⊎_elim}
use Rattle.std.proofs.lemmas.Bool.{cases_lt}
use Rattle.road_network.specs.declared.Candidate.{Candidate}
use Rattle.candidate_search.proofs.Found.{last_farthest}
use Rattle.candidate_search.proofs.nearest.limit_of.Goals as goal

pub returns-else-found-search-clause-far : goal.returns-else-found-search-clause-far
returns-else-found-search-clause-far c = λ d2 le.
    let found = c.args.found.now in
    let k = c.args.search.k in
    let none : Candidate = record { edge = record { 0 = 0 }; d2 = 0; offset = 0 } in
    let full : length found ≡ k = omega (arith, c.requires.few, c.if-found-search.false) in
    ⊎_elim
    (λ beyond. inl beyond)
    (λ near. inr (
      full,
      λ i d lt.
          let far = last_farthest found k none c.requires.sorted full c.args.search.k_some i d lt in
          omega (arith, far, near, le, c.min.ensures),
    ))
    (cases_lt (c.args.search.radius * c.args.search.radius) d2)
