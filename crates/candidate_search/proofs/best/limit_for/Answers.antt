use Rattle.std.proofs.Common.{◌≡◌, ◌+◌, ◌-◌, get_or, length, arith}
use Rattle.std.proofs.lemmas.List.{get_or_default}
use Rattle.candidate_search.proofs.LastFound.{limit_full, no_edge}
use Rattle.candidate_search.proofs.best.limit_for.Goals as goal

pub returns-else-found-search : goal.returns-else-found-search
returns-else-found-search c =
    let found = c.args.found.now in
    let search = c.args.search in
    let full : length found ≡ search.k = omega (arith, c.requires.few, c.if-found-search.false) in
    let last = get_or found (search.k - 1) no_edge in
    let is = get_or_default found (search.k - 1) last no_edge (omega (arith, full, search.k_some)) in
    limit_full search found last (c.min.result + 1) full search.k_some c.requires.apart is (omega (arith, c.min.ensures))
    (λ d2 le near. omega (arith, c.min.ensures, le, near))
