-- The order of candidates, and what the nearest of them have.
use Rattle.std.proofs.Common.{◌≡◌, ℕ, zero, suc, ◌+◌, ◌*◌, ◌<◌, ◌≤◌, ◌⊎◌, Bool, true, false, cond, leb, List, [], ◌∷◌, length, get_or, take, map, All, refl, sym, ap, ◌∙◌, subst, inl, inr, arith, ⊎_elim, length-take}
use Rattle.std.specs.List.{AllPairs, Contains, filter, range_with_len}
use Rattle.std.proofs.lemmas.Bool.{cases_lt, true≢false}
use Rattle.std.proofs.lemmas.Bool.Decides.{nat_tests}
use Rattle.std.proofs.lemmas.List.Elements.{All-cons, All-filter, All-take}
use Rattle.std.proofs.lemmas.List.FromFn.{get_or-map-range_with_len, length-map-range_with_len}
use Rattle.polyline_geometry.specs.declared.plane.Point.{Point}
use Rattle.road_network.specs.declared.Candidate.{Candidate}
use Rattle.road_network.specs.Net.{Net, HasEdge}
use Rattle.road_network.specs.Near.{all_snaps, candidate_at, candidates, in_order, is_before, placed}
use Rattle.road_network.specs.NearLaws.{CandidatesAreNearest, CandidatesDiffer, IsWithin}

abbrev pub IsBefore : Candidate → Candidate → Type 0
IsBefore c d = (c.d2 < d.d2) ⊎ ((c.d2 ≡ d.d2) × (c.edge.0 < d.edge.0))

pub before_true : (c d : Candidate) → c.d2 < d.d2 → is_before c d ≡ true
before_true c d h = grind (arith, nat_tests)

pub before_tie : (c d : Candidate) → c.d2 ≡ d.d2 → c.edge.0 < d.edge.0 → is_before c d ≡ true
before_tie c d h k = grind (arith, nat_tests)

pub before_false : (c d : Candidate) → d.d2 < c.d2 → is_before c d ≡ false
before_false c d h = grind (arith, nat_tests)

pub before_later : (c d : Candidate) → d.d2 ≡ c.d2 → d.edge.0 < c.edge.0 → is_before c d ≡ false
before_later c d h k = grind (arith, nat_tests)

pub before_not : (c d : Candidate) → c.d2 ≡ d.d2 → d.edge.0 ≤ c.edge.0 → is_before c d ≡ false
before_not c d h k = grind (arith, nat_tests)

pub before_of : (c d : Candidate) → IsBefore c d → is_before c d ≡ true
before_of c d h = ⊎_elim (λ lt. before_true c d lt) (λ tie. before_tie c d tie.0 tie.1) h

pub is_before_of : (c d : Candidate) → is_before c d ≡ true → IsBefore c d
is_before_of c d h =
    ⊎_elim
    (λ lt. inl lt)
    (λ ge.
    ⊎_elim
    (λ lt. absurd (true≢false (sym h ∙ before_false c d lt)))
    (λ le.
    let e : c.d2 ≡ d.d2 = omega (arith, ge, le) in
    ⊎_elim (λ lt. inr (e, lt)) (λ no. absurd (true≢false (sym h ∙ before_not c d e no))) (cases_lt c.edge.0 d.edge.0))
    (cases_lt d.d2 c.d2))
    (cases_lt c.d2 d.d2)

pub chain_of : (c d e : Candidate) → IsBefore c d → IsBefore d e → IsBefore c e
chain_of c d e h k =
    ⊎_elim
    (λ lt. ⊎_elim (λ m. inl (omega (arith, lt, m))) (λ m. inl (omega (arith, lt, m.0))) k)
    (λ tie. ⊎_elim (λ m. inl (omega (arith, tie.0, m))) (λ m. inr (omega (arith, tie.0, m.0), omega (arith, tie.1, m.1))) k)
    h

pub chain : (c d e : Candidate) → is_before c d ≡ true → is_before d e ≡ true → is_before c e ≡ true
chain c d e h k = before_of c e (chain_of c d e (is_before_of c d h) (is_before_of d e k))

-- of two candidates of different edges one is before the other
pub stand : (c d : Candidate) → c.edge.0 < d.edge.0 → ((is_before c d ≡ true) × (is_before d c ≡ false)) ⊎ ((is_before c d ≡ false) × (is_before d c ≡ true))
stand c d h =
    ⊎_elim
    (λ lt. inl (before_true c d lt, before_false d c lt))
    (λ ge.
    ⊎_elim
    (λ lt. inr (before_false c d lt, before_true d c lt))
    (λ le. let e : c.d2 ≡ d.d2 = omega (arith, ge, le) in inl (before_tie c d e h, before_later d c e h))
    (cases_lt d.d2 c.d2))
    (cases_lt c.d2 d.d2)

pub placed_first : (c d : Candidate) (others : List Candidate) → is_before c d ≡ true → placed c (d ∷ others) ≡ c ∷ d ∷ others
placed_first c d others h = ap (λ b. cond b (c ∷ d ∷ others) (d ∷ placed c others)) h

pub placed_after : (c d : Candidate) (others : List Candidate) → is_before c d ≡ false → placed c (d ∷ others) ≡ d ∷ placed c others
placed_after c d others h = ap (λ b. cond b (c ∷ d ∷ others) (d ∷ placed c others)) h

-- each is before those after it
abbrev Rises : List Candidate → Type 0
Rises [] = Unit {0}
Rises (c ∷ r) = All (λ d. is_before c d ≡ true) r × Rises r

-- each has an edge of a lower number than those after it
abbrev EdgesRise : List Candidate → Type 0
EdgesRise [] = Unit {0}
EdgesRise (c ∷ r) = All (λ d. c.edge.0 < d.edge.0) r × EdgesRise r

all_tail : (P : Candidate → Type 0) (c : Candidate) (r : List Candidate) → All P (c ∷ r) → All P r
all_tail P c r h i d lt = h (suc i) d (omega (arith, lt))

placed_all : (P : Candidate → Type 0) (c : Candidate) (l : List Candidate) → P c → All P l → All P (placed c l)
placed_all P c [] p h = All-cons P c [] p h
placed_all P c (d ∷ r) p h =
    let both : (b : Bool) → All P (cond b (c ∷ d ∷ r) (d ∷ placed c r)) = λ b.
    elim b as (λ v. All P (cond v (c ∷ d ∷ r) (d ∷ placed c r))) [
      | true ↦ All-cons P c (d ∷ r) p h
      | false ↦ All-cons P d (placed c r) (h 0 d (omega arith)) (placed_all P c r p (all_tail P d r h))
    ]
    in both (is_before c d)

placed_rises : (c : Candidate) (l : List Candidate) → All (λ d. c.edge.0 < d.edge.0) l → Rises l → Rises (placed c l)
placed_rises c [] h rises = (λ i d lt. absurd (omega (arith, lt)), tt)
placed_rises c (d ∷ r) h rises =
    ⊎_elim
    (λ f. subst Rises (sym (placed_first c d r f.0))
    (All-cons (λ x. is_before c x ≡ true) d r f.0 (λ i e lt. chain c d (get_or r i e) f.0 (rises.0 i e lt)), rises))
    (λ s. subst Rises (sym (placed_after c d r s.0))
    (placed_all (λ x. is_before d x ≡ true) c r s.1 rises.0, placed_rises c r (all_tail (λ x. c.edge.0 < x.edge.0) d r h) rises.1))
    (stand c d (h 0 d (omega arith)))

in_order_all : (P : Candidate → Type 0) (xs : List Candidate) → All P xs → All P (in_order xs)
in_order_all P [] h = h
in_order_all P (x ∷ xs) h = placed_all P x (in_order xs) (h 0 x (omega arith)) (in_order_all P xs (all_tail P x xs h))

in_order_rises : (xs : List Candidate) → EdgesRise xs → Rises (in_order xs)
in_order_rises [] h = tt
in_order_rises (x ∷ xs) h = placed_rises x (in_order xs) (in_order_all (λ d. x.edge.0 < d.edge.0) xs h.0) (in_order_rises xs h.1)

filter_rises : (p : Candidate → Bool) (xs : List Candidate) → EdgesRise xs → EdgesRise (filter p xs)
filter_rises p [] h = tt
filter_rises p (x ∷ xs) h =
    let ih = filter_rises p xs h.1 in
    let both : (b : Bool) → EdgesRise (cond b (x ∷ filter p xs) (filter p xs)) = λ b.
    elim b as (λ v. EdgesRise (cond v (x ∷ filter p xs) (filter p xs))) [
      | true ↦ (All-filter p (λ d. x.edge.0 < d.edge.0) xs h.0, ih)
      | false ↦ ih
    ]
    in both (p x)

filter_passes : (p : Candidate → Bool) (xs : List Candidate) → All (λ c. p c ≡ true) (filter p xs)
filter_passes p [] = λ i d lt. absurd (omega (arith, lt))
filter_passes p (x ∷ xs) =
    let both : (b : Bool) → p x ≡ b → All (λ c. p c ≡ true) (cond b (x ∷ filter p xs) (filter p xs)) = λ b.
    elim b as (λ v. p x ≡ v → All (λ c. p c ≡ true) (cond v (x ∷ filter p xs) (filter p xs))) [
      | true ↦ λ e. All-cons (λ c. p c ≡ true) x (filter p xs) e (filter_passes p xs)
      | false ↦ λ e. filter_passes p xs
    ]
    in both (p x) refl

snap_is : (n : Net) (p : Point) (a m i : ℕ) (d : Candidate) → i < length (map (candidate_at n p) (range_with_len a m)) → get_or (map (candidate_at n p) (range_with_len a m)) i d ≡ candidate_at n p (a + i)
snap_is n p a m i d lt =
    let l = length-map-range_with_len (candidate_at n p) a m in
    get_or-map-range_with_len (candidate_at n p) a m i (a + i) d (omega (arith, lt, l)) (omega arith)

snaps_rise : (n : Net) (p : Point) (a m : ℕ) → EdgesRise (map (candidate_at n p) (range_with_len a m))
snaps_rise n p a zero = tt
snaps_rise n p a (suc m) = (
  λ i d lt. let e = ap (λ (c : Candidate). c.edge.0) (snap_is n p (a + 1) m i d lt) in omega (arith, e),
  snaps_rise n p (a + 1) m,
)

head_or_tail : (c x : Candidate) (l : List Candidate) → Contains (c ∷ l) x → (c ≡ x) ⊎ Contains l x
head_or_tail c x l (zero, lt, is) = inl is
head_or_tail c x l (suc i, lt, is) = inr (i, omega (arith, lt), is)

in_head : (c : Candidate) (l : List Candidate) → Contains (c ∷ l) c
in_head c l = (0, omega arith, refl)

in_tail : (c x : Candidate) (l : List Candidate) → Contains l x → Contains (c ∷ l) x
in_tail c x l h = (suc h.0, omega (arith, h.1), h.2)

in_placed : (c x : Candidate) (l : List Candidate) → Contains (c ∷ l) x → Contains (placed c l) x
in_placed c x [] h = h
in_placed c x (d ∷ r) h =
    let both : (b : Bool) → Contains (cond b (c ∷ d ∷ r) (d ∷ placed c r)) x = λ b.
    elim b as (λ v. Contains (cond v (c ∷ d ∷ r) (d ∷ placed c r)) x) [
      | true ↦ h
      | false ↦
          ⊎_elim
          (λ e. in_tail d x (placed c r) (in_placed c x r (subst (Contains (c ∷ r)) e (in_head c r))))
          (λ k. ⊎_elim (λ e. subst (Contains (d ∷ placed c r)) e (in_head d (placed c r))) (λ m. in_tail d x (placed c r) (in_placed c x r (in_tail c x r m))) (head_or_tail d x r k))
          (head_or_tail c x (d ∷ r) h)
    ]
    in both (is_before c d)

in_in_order : (xs : List Candidate) (x : Candidate) → Contains xs x → Contains (in_order xs) x
in_in_order [] x h = h
in_in_order (c ∷ xs) x h =
    in_placed c x (in_order xs)
    (⊎_elim (λ e. subst (Contains (c ∷ in_order xs)) e (in_head c (in_order xs))) (λ k. in_tail c x (in_order xs) (in_in_order xs x k)) (head_or_tail c x xs h))

in_filter : (p : Candidate → Bool) (xs : List Candidate) (x : Candidate) → p x ≡ true → Contains xs x → Contains (filter p xs) x
in_filter p [] x e h = h
in_filter p (c ∷ xs) x e h =
    let both : (b : Bool) → p c ≡ b → Contains (cond b (c ∷ filter p xs) (filter p xs)) x = λ b.
    elim b as (λ v. p c ≡ v → Contains (cond v (c ∷ filter p xs) (filter p xs)) x) [
      | true ↦ λ passes. ⊎_elim (λ is. subst (Contains (c ∷ filter p xs)) is (in_head c (filter p xs))) (λ k. in_tail c x (filter p xs) (in_filter p xs x e k)) (head_or_tail c x xs h)
      | false ↦ λ fails. ⊎_elim (λ is. absurd (true≢false (sym e ∙ ap p (sym is) ∙ fails))) (λ k. in_filter p xs x e k) (head_or_tail c x xs h)
    ]
    in both (p c) refl

take_rises : (k : ℕ) (l : List Candidate) → Rises l → Rises (take k l)
take_rises zero l h = tt
take_rises (suc k) [] h = tt
take_rises (suc k) (c ∷ r) h = (All-take (λ d. is_before c d ≡ true) k r h.0, take_rises k r h.1)

pairs_rise : (l : List Candidate) → Rises l → AllPairs (λ c d. is_before c d ≡ true) l
pairs_rise [] h i j d lt under = absurd (omega (arith, under))
pairs_rise (c ∷ r) h zero zero d lt under = absurd (omega (arith, lt))
pairs_rise (c ∷ r) h zero (suc j) d lt under = h.0 j d (omega (arith, under))
pairs_rise (c ∷ r) h (suc i) zero d lt under = absurd (omega (arith, lt))
pairs_rise (c ∷ r) h (suc i) (suc j) d lt under = pairs_rise r h.1 i j d (omega (arith, lt)) (omega (arith, under))

-- what the first k do not have stands behind them
in_take : (k : ℕ) (l : List Candidate) (x : Candidate) → Rises l → Contains l x → Contains (take k l) x ⊎ ((length (take k l) ≡ k) × All (λ c. is_before c x ≡ true) (take k l))
in_take zero l x rises h = inr (refl, λ i d lt. absurd (omega (arith, lt)))
in_take (suc k) [] x rises h = absurd (omega (arith, h.1))
in_take (suc k) (c ∷ r) x rises h =
    ⊎_elim
    (λ e. inl (subst (Contains (c ∷ take k r)) e (in_head c (take k r))))
    (λ there.
    ⊎_elim
    (λ found. inl (in_tail c x (take k r) found))
    (λ full.
    let here : is_before c x ≡ true = subst (λ y. is_before c y ≡ true) there.2 (rises.0 there.0 x there.1) in
    inr (omega (arith, full.0), All-cons (λ y. is_before y x ≡ true) c (take k r) here full.1))
    (in_take k r x rises.1 there))
    (head_or_tail c x r h)

passes : (a b : ℕ) → leb a b ≡ true → a ≤ b
passes a b h = grind (arith, nat_tests)

passed : (a b : ℕ) → a ≤ b → leb a b ≡ true
passed a b h = grind (arith, nat_tests)

pub are_nearest : CandidatesAreNearest
are_nearest n k radius p =
    let m = length n.edges in
    let snaps = all_snaps n p in
    let near = λ (c : Candidate). leb c.d2 (radius * radius) in
    let rises = in_order_rises (filter near snaps) (filter_rises near snaps (snaps_rise n p 0 m)) in
    let count = length-map-range_with_len (candidate_at n p) 0 m in
    let edges : All (λ c. HasEdge n c.edge.0 × (c ≡ candidate_at n p c.edge.0)) snaps = λ i d lt.
    let is = snap_is n p 0 m i d lt in
    let at : 0 + i ≡ i = omega arith in
    subst (λ (c : Candidate). HasEdge n c.edge.0 × (c ≡ candidate_at n p c.edge.0)) (sym (is ∙ ap (candidate_at n p) at)) (omega (arith, lt, count), refl)
    in
    let kept = All-filter near (λ c. HasEdge n c.edge.0 × (c ≡ candidate_at n p c.edge.0)) snaps edges in
    let close = filter_passes near snaps in
    let all : All (IsWithin n radius p) (filter near snaps) = λ i d lt.
    record { has = (kept i d lt).0; snap = (kept i d lt).1; near = passes (get_or (filter near snaps) i d).d2 (radius * radius) (close i d lt) }
    in
    record {
      few = omega (arith, length-take k (in_order (filter near snaps)));
      rises = pairs_rise (take k (in_order (filter near snaps))) (take_rises k (in_order (filter near snaps)) rises);
      each = All-take (IsWithin n radius p) k (in_order (filter near snaps)) (in_order_all (IsWithin n radius p) (filter near snaps) all);
      every = λ e has le.
          let x = candidate_at n p e in
          let lt : e < length snaps = omega (arith, count, has) in
          let at : 0 + e ≡ e = omega arith in
          let there : Contains snaps x = (e, lt, snap_is n p 0 m e x lt ∙ ap (candidate_at n p) at) in
          in_take k (in_order (filter near snaps)) x rises (in_in_order (filter near snaps) x (in_filter near snaps x (passed x.d2 (radius * radius) le) there));
    }

not_itself : (c : Candidate) → is_before c c ≡ true → ⊥
not_itself c h = ⊎_elim (λ lt. omega (arith, lt)) (λ tie. omega (arith, tie.1)) (is_before_of c c h)

pub differ : CandidatesDiffer
differ n k radius p i j d lt under same =
    let h = are_nearest n k radius p in
    let list = candidates n k radius p in
    let a = h.each i d (omega (arith, lt, under)) in
    let b = h.each j d under in
    let is : get_or list i d ≡ get_or list j d = a.snap ∙ ap (candidate_at n p) same ∙ sym b.snap in
    not_itself (get_or list j d) (subst (λ c. is_before c (get_or list j d) ≡ true) is (h.rises i j d lt under))
