-- The last of the nearest edges so far: what comes behind it, and what stands before a place.
use Rattle.std.proofs.Common.{◌≡◌, ℕ, ◌+◌, ◌-◌, ◌*◌, ◌<◌, ◌≤◌, List, length, get_or, All, sym, ap, ◌∙◌, subst, inr, arith, ⊎_elim}
use Rattle.std.proofs.lemmas.Bool.{cases_lt}
use Rattle.std.proofs.lemmas.List.{get_or_default}
use Rattle.candidate_search.specs.declared.best.NearEdge.{NearEdge}
use Rattle.candidate_search.specs.declared.wanted.Search.{Search}
use Rattle.candidate_search.specs.inside.Best.{AreApart, ComesBefore, IsBehind, IsLimit, IsNoLater, IsPlaceOf, Precedes}
use Rattle.candidate_search.proofs.BestLists.{precedes_twice}

abbrev pub no_edge : NearEdge
no_edge = record { edge = record { 0 = 0 }; segment = 0; d2 = 0 }

-- where k are found, what comes behind the last comes behind all of them
pub behind_last : (k : ℕ) (found : List NearEdge) (d2 e : ℕ) (last : NearEdge) → 1 ≤ k → length found ≡ k → AreApart found → get_or found (k - 1) last ≡ last
    → Precedes last.d2 last.edge.0 d2 e → IsBehind k found d2 e
behind_last k found d2 e last some full apart is before = record {
  full = full;
  before = λ i d lt.
      let end = get_or_default found (k - 1) d last (omega (arith, full, some)) ∙ is in
      ⊎_elim
      (λ below. let b = subst (ComesBefore (get_or found i d)) end (apart i (k - 1) d below (omega (arith, full, some))).before in precedes_twice (get_or found i d).d2 (get_or found i d).edge.0 last.d2 last.edge.0 d2 e b before)
      (λ here. let same : k - 1 ≡ i = omega (arith, lt, full, here) in subst (λ (c : NearEdge). Precedes c.d2 c.edge.0 d2 e) (sym end ∙ ap (λ v. get_or found v d) same) before)
      (cases_lt i (k - 1));
}

-- what k come before comes behind the last
pub after_last : (k : ℕ) (found : List NearEdge) (d2 e : ℕ) → 1 ≤ k → IsBehind k found d2 e → Precedes (get_or found (k - 1) no_edge).d2 (get_or found (k - 1) no_edge).edge.0 d2 e
after_last k found d2 e some behind = behind.before (k - 1) no_edge (omega (arith, some, behind.full))

-- where k are found, what is farther than the last comes behind them
pub limit_full : (search : Search) (found : List NearEdge) (last : NearEdge) (limit : ℕ) → length found ≡ search.k → 1 ≤ search.k → AreApart found → get_or found (search.k - 1) last ≡ last
    → limit ≤ search.radius * search.radius + 1 → ((d2 : ℕ) → limit ≤ d2 → d2 ≤ search.radius * search.radius → last.d2 < d2) → IsLimit search found limit
limit_full search found last limit full some apart is low over = record {
  low = low;
  far = λ d2 e i le near.
      let beyond = over d2 le near in
      inr (record {
        full = full;
        before = λ j d lt.
            let end = get_or_default found (search.k - 1) d last (omega (arith, full, some)) ∙ is in
            let up : (get_or found j d).d2 ≤ last.d2 = ⊎_elim
            (λ below. let b = (apart j (search.k - 1) d below (omega (arith, full, some))).before in let s = ap (λ (c : NearEdge). c.d2) end in omega (arith, b.near, s))
            (λ here. let e : search.k - 1 ≡ j = omega (arith, lt, full, here) in let s = ap (λ (c : NearEdge). c.d2) (sym end ∙ ap (λ v. get_or found v d) e) in omega (arith, s))
            (cases_lt j (search.k - 1))
            in
            record { near = omega (arith, up, beyond); tie = λ back. absurd (omega (arith, back, up, beyond)) };
      });
}

pub limit_none : (search : Search) (found : List NearEdge) (limit : ℕ) → limit ≡ search.radius * search.radius + 1 → IsLimit search found limit
limit_none search found limit is = record { low = omega (arith, is); far = λ d2 e i le near. absurd (omega (arith, is, le, near)) }

-- of two edges that differ one comes before the other
pub comes_other : (x near : NearEdge) → (ComesBefore near x → ⊥) → (x.edge.0 ≡ near.edge.0 → ⊥) → ComesBefore x near
comes_other x near not_before differ =
    ⊎_elim
    (λ lt. absurd (not_before (record { near = omega (arith, lt); tie = λ le. absurd (omega (arith, le, lt)) })))
    (λ ge. record {
      near = ge;
      tie = λ le.
          ⊎_elim
          (λ lt. lt)
          (λ high.
          ⊎_elim
          (λ lt. absurd (not_before (record { near = le; tie = λ same. lt })))
          (λ low. absurd (differ (omega (arith, high, low))))
          (cases_lt near.edge.0 x.edge.0))
          (cases_lt x.edge.0 near.edge.0);
    })
    (cases_lt near.d2 x.d2)

-- what stands before a place comes before it, where the last of these does
pub place_last : (found : List NearEdge) (near : NearEdge) (place : ℕ) → AreApart found → All (λ c. c.edge.0 ≡ near.edge.0 → ⊥) found → 0 < place → place ≤ length found
    → (ComesBefore near (get_or found (place - 1) no_edge) → ⊥) → (i : ℕ) (d : NearEdge) → i < place → ComesBefore (get_or found i d) near
place_last found near place apart others some within not_before i d lt =
    let at : place - 1 < length found = omega (arith, some, within) in
    let x = get_or found (place - 1) no_edge in
    let end : get_or found (place - 1) d ≡ x = get_or_default found (place - 1) d no_edge at in
    let last : ComesBefore x near = comes_other x near not_before (others (place - 1) no_edge at) in
    ⊎_elim
    (λ below. let b = subst (ComesBefore (get_or found i d)) end (apart i (place - 1) d below at).before in precedes_twice (get_or found i d).d2 (get_or found i d).edge.0 x.d2 x.edge.0 near.d2 near.edge.0 b last)
    (λ here. let e : place - 1 ≡ i = omega (arith, lt, here) in subst (λ c. ComesBefore c near) (sym end ∙ ap (λ v. get_or found v d) e) last)
    (cases_lt i (place - 1))

-- of two segments of an edge one is no later than the other
pub later_other : (x near : NearEdge) → (IsNoLater x near.d2 near.segment → ⊥) → IsNoLater near x.d2 x.segment
later_other x near not_later = record {
  near =
      ⊎_elim
      (λ lt. absurd (not_later (record { near = omega (arith, lt); tie = λ le. absurd (omega (arith, le, lt)) })))
      (λ le. le)
      (cases_lt x.d2 near.d2);
  tie = λ le.
      ⊎_elim
      (λ lt. absurd (not_later (record { near = le; tie = λ same. omega (arith, lt) })))
      (λ low. low)
      (cases_lt x.segment near.segment);
}

-- where the place of an edge is their number, no other is of it
pub others_whole : (found : List NearEdge) (e place : ℕ) → IsPlaceOf found e place → place ≡ length found → All (λ c. c.edge.0 ≡ e → ⊥) found
others_whole found e place at is i d lt = at.before i d (omega (arith, is, lt))
