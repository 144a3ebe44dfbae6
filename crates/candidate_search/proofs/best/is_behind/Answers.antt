use Rattle.std.proofs.Common.{◌≡◌, ◌-◌, get_or, length, arith}
use Rattle.std.proofs.lemmas.Bool.{lt-ltb, ltb-true}
use Rattle.std.proofs.lemmas.List.{get_or_default}
use Rattle.candidate_search.proofs.LastFound.{after_last, behind_last, no_edge}
use Rattle.candidate_search.proofs.best.is_behind.Goals as goal

pub returns-then-last-d2 : goal.returns-then-last-d2
returns-then-last-d2 c =
    let found = c.args.found.now in
    let search = c.args.search in
    let full : length found ≡ search.k = omega (arith, c.requires.few, c.if-found-search.false) in
    let last = get_or found (search.k - 1) no_edge in
    let is = get_or_default found (search.k - 1) last no_edge (omega (arith, full, search.k_some)) in
    let near = c.if-last-d2.true in (
      λ _. behind_last search.k found c.args.d2 c.args.edge.0 last search.k_some full c.requires.apart is (record { near = omega (arith, near); tie = λ le. absurd (omega (arith, le, near)) }),
      λ _. lt-ltb last.d2 c.args.d2 near,
    )

pub returns-then-last-d2-2 : goal.returns-then-last-d2-2
returns-then-last-d2-2 c =
    let found = c.args.found.now in
    let search = c.args.search in
    let full : length found ≡ search.k = omega (arith, c.requires.few, c.if-found-search.false) in
    let last = get_or found (search.k - 1) no_edge in
    let is = get_or_default found (search.k - 1) last no_edge (omega (arith, full, search.k_some)) in
    let same = c.if-last-d2-2.true in (
      λ lower. behind_last search.k found c.args.d2 c.args.edge.0 last search.k_some full c.requires.apart is (record { near = omega (arith, same); tie = λ le. ltb-true last.edge.0 c.args.edge.0 lower }),
      λ behind. lt-ltb last.edge.0 c.args.edge.0 ((after_last search.k found c.args.d2 c.args.edge.0 search.k_some behind).tie (omega (arith, same))),
    )
