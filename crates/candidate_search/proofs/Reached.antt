-- From the best edges to the candidates.
use Rattle.std.proofs.Common.{◌≡◌, ℕ, zero, suc, ◌-◌, ◌*◌, ◌<◌, ◌≤◌, ◌⊎◌, true, List, [], ◌∷◌, length, get_or, map, All, refl, sym, ap, ◌∙◌, subst, inl, inr, arith, ⊎_elim}
use Rattle.std.specs.List.{AllPairs, Contains}
use Rattle.std.proofs.lemmas.Bool.{cases_lt}
use Rattle.std.proofs.lemmas.List.{get_or_default, get_or-map, length-map}
use Rattle.polyline_geometry.specs.declared.line.NearSegment.{NearSegment}
use Rattle.polyline_geometry.specs.declared.plane.Point.{Point}
use Rattle.polyline_geometry.specs.declared.plane.Snap.{Snap}
use Rattle.polyline_geometry.specs.Nearest.{IsNearest, segment_snap}
use Rattle.polyline_geometry.proofs.Nearest.{snap_nearest, whole_near}
use Rattle.road_network.specs.declared.Candidate.{Candidate}
use Rattle.road_network.specs.Net.{Net, IsLawful, edge_line}
use Rattle.road_network.specs.Near.{candidate_at, candidates, is_before}
use Rattle.road_network.specs.NearLaws.{AreNearest, IsWithin}
use Rattle.road_network.proofs.NearOrder.{are_nearest, before_of, chain, is_before_of}
use Rattle.candidate_search.specs.declared.best.NearEdge.{NearEdge}
use Rattle.candidate_search.specs.declared.wanted.Search.{Search}
use Rattle.candidate_search.specs.inside.Best.{AreApart, IsNearEdge, Precedes}
use Rattle.candidate_search.specs.inside.Nearest.{AreNearestEdges, IsNearestOn}
use Rattle.candidate_search.proofs.ApartLists.{of_contained}

head_or_tail : (c x : Candidate) (l : List Candidate) → Contains (c ∷ l) x → (c ≡ x) ⊎ Contains l x
head_or_tail c x l (zero, lt, is) = inl is
head_or_tail c x l (suc i, lt, is) = inr (i, omega (arith, lt), is)

not_itself : (c : Candidate) → is_before c c ≡ true → ⊥
not_itself c h = ⊎_elim (λ lt. omega (arith, lt)) (λ tie. omega (arith, tie.1)) (is_before_of c c h)

-- what the first has stands in the second, or behind its k
abbrev Covers : ℕ → List Candidate → List Candidate → Type 0
Covers k xs ys =
    (x : Candidate) → Contains xs x → Contains ys x ⊎ ((length ys ≡ k) × All (λ c. is_before c x ≡ true) ys)

abbrev Rise : List Candidate → Type 0
Rise xs = AllPairs (λ c d. is_before c d ≡ true) xs

in_head : (c : Candidate) (l : List Candidate) → Contains (c ∷ l) c
in_head c l = (0, omega arith, refl)

in_tail : (c x : Candidate) (l : List Candidate) → Contains l x → Contains (c ∷ l) x
in_tail c x l h = (suc h.0, omega (arith, h.1), h.2)

rise_head : (a : Candidate) (r : List Candidate) (x : Candidate) → Rise (a ∷ r) → Contains r x → is_before a x ≡ true
rise_head a r x h there = subst (λ v. is_before a v ≡ true) there.2 (h 0 (suc there.0) x (omega arith) (omega (arith, there.1)))

rise_tail : (a : Candidate) (r : List Candidate) → Rise (a ∷ r) → Rise r
rise_tail a r h i j d lt under = h (suc i) (suc j) d (omega (arith, lt)) (omega (arith, under))

-- the heads of two lists that cover each other
head_first : (k : ℕ) (a b : Candidate) (q r : List Candidate) → Rise (b ∷ r) → Covers k (a ∷ q) (b ∷ r) → (b ≡ a) ⊎ (is_before b a ≡ true)
head_first k a b q r rise h =
    ⊎_elim
    (λ there. ⊎_elim (λ e. inl e) (λ m. inr (rise_head b r a rise m)) (head_or_tail b a r there))
    (λ behind. inr (behind.1 0 a (omega arith)))
    (h a (in_head a q))

tail_covers : (k : ℕ) (a b : Candidate) (q r : List Candidate) → a ≡ b → Rise (a ∷ q) → Covers k (a ∷ q) (b ∷ r) → Covers (k - 1) q r
tail_covers k a b q r same rise h x there =
    ⊎_elim
    (λ found.
    ⊎_elim
    (λ e. absurd (not_itself x (subst (λ v. is_before v x ≡ true) (same ∙ e) (rise_head a q x rise there))))
    (λ m. inl m)
    (head_or_tail b x r found))
    (λ behind. inr (omega (arith, behind.0), λ i d lt. behind.1 (suc i) d (omega (arith, lt))))
    (h x (in_tail a x q there))

-- two lists that rise and cover each other are the same
same_lists : (k : ℕ) (xs ys : List Candidate) → length xs ≤ k → length ys ≤ k → Rise xs → Rise ys → Covers k xs ys → Covers k ys xs → xs ≡ ys
same_lists k [] [] few less rise rises h g = refl
same_lists k [] (b ∷ r) few less rise rises h g =
    absurd (⊎_elim (λ there. omega (arith, there.1)) (λ behind. omega (arith, behind.0, less)) (g b (in_head b r)))
same_lists k (a ∷ q) [] few less rise rises h g =
    absurd (⊎_elim (λ there. omega (arith, there.1)) (λ behind. omega (arith, behind.0, few)) (h a (in_head a q)))
same_lists k (a ∷ q) (b ∷ r) few less rise rises h g =
    let same : a ≡ b = ⊎_elim
    (λ e. sym e)
    (λ before.
    ⊎_elim
    (λ e. e)
    (λ after. absurd (not_itself a (chain a b a after before)))
    (head_first k b a r q rise g))
    (head_first k a b q r rises h)
    in
    let tails = same_lists (k - 1) q r (omega (arith, few)) (omega (arith, less)) (rise_tail a q rise) (rise_tail b r rises) (tail_covers k a b q r same rise h) (tail_covers k b a r q (sym same) rises g) in
    ap (λ v. v ∷ q) same ∙ ap (λ l. b ∷ l) tails

covers : (n : Net) (k radius : ℕ) (p : Point) (xs ys : List Candidate) → AreNearest n k radius p xs → AreNearest n k radius p ys → Covers k xs ys
covers n k radius p xs ys h g x there =
    let is : IsWithin n radius p x = subst (IsWithin n radius p) there.2 (h.each there.0 x there.1) in
    let d2 : (candidate_at n p x.edge.0).d2 ≤ radius * radius = omega (arith, is.near, ap (λ (c : Candidate). c.d2) is.snap) in
    subst (λ c. Contains ys c ⊎ ((length ys ≡ k) × All (λ d. is_before d c ≡ true) ys)) (sym is.snap) (g.every x.edge.0 is.has d2)

pub nearest_are : (n : Net) (k radius : ℕ) (p : Point) (xs : List Candidate) → AreNearest n k radius p xs → xs ≡ candidates n k radius p
nearest_are n k radius p xs h =
    let g = are_nearest n k radius p in
    same_lists k xs (candidates n k radius p) h.few g.few h.rises g.rises (covers n k radius p xs (candidates n k radius p) h g) (covers n k radius p (candidates n k radius p) xs g h)

-- each edge is found once
found_once : (found : List NearEdge) (x c : NearEdge) → AreApart found → Contains found x → Contains found c → x.edge.0 ≡ c.edge.0 → x ≡ c
found_once found x c apart h k same =
    let at = λ (y : NearEdge) (m : Contains found y). get_or_default found m.0 c y m.1 ∙ m.2 in
    ⊎_elim
    (λ lt. absurd ((apart h.0 k.0 c lt k.1).differ (ap (λ (y : NearEdge). y.edge.0) (at x h) ∙ same ∙ ap (λ (y : NearEdge). y.edge.0) (sym (at c k)))))
    (λ ge.
    ⊎_elim
    (λ lt. absurd ((apart k.0 h.0 c lt h.1).differ (ap (λ (y : NearEdge). y.edge.0) (at c k) ∙ sym same ∙ ap (λ (y : NearEdge). y.edge.0) (sym (at x h)))))
    (λ le. let e : h.0 ≡ k.0 = omega (arith, ge, le) in sym (at x h) ∙ ap (λ v. get_or found v c) e ∙ at c k)
    (cases_lt k.0 h.0))
    (cases_lt h.0 k.0)

-- each has the first of the nearest segments of its edge
pub nearest_on : (net : Net) (search : Search) (found : List NearEdge) → IsLawful net → AreNearestEdges net search found → All (IsNearestOn net search) found
nearest_on net search found lawful h i d lt =
    let c = get_or found i d in
    let here : Contains found c = (i, lt, get_or_default found i c d lt) in
    let is : IsNearEdge net search c = h.best.each i d lt in
    let line = edge_line net c.edge.0 in
    let p = search.at in
    let near = snap_nearest line p (lawful.lines c.edge.0 is.has) in
    let s : NearSegment = near.0 in
    let first = near.1 in
    let nearer : s.d2 ≤ c.d2 = (let f = first.least c.segment (omega arith) (omega (arith, is.within)) in omega (arith, f, is.d2_is)) in
    let one = h.every c.edge.0 s.segment is.has (omega (arith, first.before_end)) (omega (arith, nearer, is.near, first.d2_is)) in
    ⊎_elim
    (λ told.
    let same : told.entry ≡ c = found_once found told.entry c h.best.apart told.there here told.edge_is in
    let d2 = ap (λ (y : NearEdge). y.d2) same in
    let segment = ap (λ (y : NearEdge). y.segment) same in
    let as_near : c.d2 ≡ s.d2 = omega (arith, nearer, told.no_later.near, d2, first.d2_is) in
    let no_later : c.segment ≤ s.segment = (let t = told.no_later.tie (omega (arith, as_near, d2, first.d2_is)) in omega (arith, t, segment)) in
    let no_earlier : s.segment ≤ c.segment = ⊎_elim
    (λ before. let up = first.earlier c.segment (omega arith) before in absurd (omega (arith, up, as_near, is.d2_is)))
    (λ low. low)
    (cases_lt c.segment s.segment)
    in
    let at : s.segment ≡ c.segment = omega (arith, no_later, no_earlier) in (
      is.has,
      subst (λ v. IsNearest line p 0 (length line - 1) (record { segment = v; d2 = c.d2 })) at
          (subst (λ v. IsNearest line p 0 (length line - 1) (record { segment = s.segment; d2 = v })) (sym as_near) first),
    ))
    (λ behind.
    let itself = of_contained (λ y. Precedes y.d2 y.edge.0 (segment_snap line p s.segment).d2 c.edge.0) found c behind.before here in
    absurd (let t = itself.tie (omega (arith, nearer, first.d2_is)) in omega (arith, t)))
    one

-- the squared distance of its candidate
d2_of : (net : Net) (search : Search) (c : NearEdge) → IsLawful net → IsNearestOn net search c → (candidate_at net search.at c.edge.0).d2 ≡ c.d2
d2_of net search c lawful h =
    let line = edge_line net c.edge.0 in
    let s : NearSegment = record { segment = c.segment; d2 = c.d2 } in
    ap (λ (v : Snap). v.d2) (whole_near line search.at s (lawful.lines c.edge.0 h.0) h.1) ∙ sym h.1.d2_is

precedes_before : (c d : Candidate) → Precedes c.d2 c.edge.0 d.d2 d.edge.0 → is_before c d ≡ true
precedes_before c d h =
    before_of c d
    (⊎_elim
    (λ lt. inl lt)
    (λ ge. let e : c.d2 ≡ d.d2 = omega (arith, h.near, ge) in inr (e, h.tie ge))
    (cases_lt c.d2 d.d2))

abbrev pub made : Net → Point → NearEdge → Candidate
made net p c = candidate_at net p c.edge.0

-- the candidates of the best edges
pub made_nearest : (net : Net) (search : Search) (found : List NearEdge) → IsLawful net → AreNearestEdges net search found
    → AreNearest net search.k search.radius search.at (map (made net search.at) found)
made_nearest net search found lawful h =
    let p = search.at in
    let f = made net p in
    let n = length-map found f in
    let on = nearest_on net search found lawful h in
    let none : NearEdge = record { edge = record { 0 = 0 }; segment = 0; d2 = 0 } in
    let at = λ (i : ℕ) (d : Candidate) (lt : i < length found). get_or-map f found i none d lt in
    let d2 = λ (i : ℕ) (lt : i < length found). d2_of net search (get_or found i none) lawful (on i none lt) in
    record {
      few = omega (arith, n, h.best.few);
      rises = λ i j d lt under.
          let b = (h.best.apart i j none lt (omega (arith, under, n))).before in
          let di = d2 i (omega (arith, lt, under, n)) in
          let dj = d2 j (omega (arith, under, n)) in
          let c = f (get_or found i none) in
          let e = f (get_or found j none) in
          let here : is_before c e ≡ true = precedes_before c e (record { near = omega (arith, di, dj, b.near); tie = λ le. b.tie (omega (arith, di, dj, le)) }) in
          subst (λ v. is_before (get_or (map f found) i d) v ≡ true) (sym (at j d (omega (arith, under, n)))) (subst (λ v. is_before v e ≡ true) (sym (at i d (omega (arith, lt, under, n)))) here);
      each = λ i d lt.
          let c = get_or found i none in
          let is = h.best.each i none (omega (arith, lt, n)) in
          let di = d2 i (omega (arith, lt, n)) in
          subst (IsWithin net search.radius p) (sym (at i d (omega (arith, lt, n)))) (record { has = is.has; snap = refl; near = omega (arith, di, is.near) });
      every = λ e has le.
          let line = edge_line net e in
          let near = snap_nearest line p (lawful.lines e has) in
          let s : NearSegment = near.0 in
          let far : (candidate_at net p e).d2 ≡ (segment_snap line p s.segment).d2 = ap (λ (v : Snap). v.d2) near.2 in
          ⊎_elim
          (λ told.
          let x = told.there in
          inl (
            x.0,
            omega (arith, x.1, n),
            get_or-map f found x.0 told.entry (candidate_at net p e) x.1 ∙ ap f x.2 ∙ ap (candidate_at net p) told.edge_is,
          ))
          (λ behind. inr (
            omega (arith, n, behind.full),
            λ i d lt.
                let b = behind.before i none (omega (arith, lt, n)) in
                let di = d2 i (omega (arith, lt, n)) in
                let here = precedes_before (f (get_or found i none)) (candidate_at net p e) (record { near = omega (arith, di, far, b.near); tie = λ back. b.tie (omega (arith, di, far, back)) }) in
                subst (λ v. is_before v (candidate_at net p e) ≡ true) (sym (at i d (omega (arith, lt, n)))) here,
          ))
          (h.every e s.segment has (omega (arith, near.1.before_end)) (omega (arith, far, le)));
    }
