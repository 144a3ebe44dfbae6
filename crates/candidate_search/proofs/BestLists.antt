-- The nearest edges so far: one more, and what is accounted for.
use Rattle.std.proofs.Common.{◌≡◌, ℕ, ◌+◌, ◌-◌, ◌<◌, ◌≤◌, ◌⊎◌, List, length, get_or, take, All, refl, sym, ap, ◌∙◌, subst, inl, inr, arith, ⊎_elim, length-take}
use Rattle.std.specs.List.{Contains, insert, remove}
use Rattle.std.proofs.lemmas.Bool.{cases_lt}
use Rattle.std.proofs.lemmas.List.{get_or_default, get_or-take}
use Rattle.std.proofs.lemmas.List.Edits.{get_or-insert_at, get_or-remove_above, get_or-remove_below, length-insert, length-remove}
use Rattle.std.proofs.lemmas.List.Elements.{All-take}
use Rattle.std.proofs.lemmas.List.Quantifiers.{all_pairs_remove}
use Rattle.candidate_search.specs.declared.best.NearEdge.{NearEdge}
use Rattle.candidate_search.specs.inside.Best.{AreApart, ComesBefore, IsAccounted, IsApart, IsBehind, IsNoLater, IsPlaceFor, IsPlaceOf, IsWanted, Precedes, Puts, Takes}
use Rattle.candidate_search.proofs.ApartLists.{all_contained, apart_insert, apart_take, from_insert, from_take, in_insert, of_contained}

pub precedes_twice : (a e b f c g : ℕ) → Precedes a e b f → Precedes b f c g → Precedes a e c g
precedes_twice a e b f c g h k = record {
  near = omega (arith, h.near, k.near);
  tie = λ le.
      let x = h.tie (omega (arith, le, k.near)) in
      let y = k.tie (omega (arith, le, h.near)) in
      omega (arith, x, y);
}

precedes_farther : (a e b c f : ℕ) → Precedes a e b f → b ≤ c → Precedes a e c f
precedes_farther a e b c f h le = record { near = omega (arith, h.near, le); tie = λ back. h.tie (omega (arith, back, le)) }

no_later_twice : (c x : NearEdge) (d2 i : ℕ) → IsNoLater c x.d2 x.segment → IsNoLater x d2 i → IsNoLater c d2 i
no_later_twice c x d2 i h k = record {
  near = omega (arith, h.near, k.near);
  tie = λ le.
      let a = h.tie (omega (arith, le, k.near)) in
      let b = k.tie (omega (arith, le, h.near)) in
      omega (arith, a, b);
}

-- what comes behind k still does where it is farther
behind_later : (k : ℕ) (found : List NearEdge) (d2 e far i : ℕ) → d2 ≤ far → IsBehind k found d2 e → IsAccounted k found far e i
behind_later k found d2 e far i le behind = inr (record { full = behind.full; before = λ n d lt. precedes_farther (get_or found n d).d2 (get_or found n d).edge.0 d2 far e (behind.before n d lt) le })

-- what is accounted for at a segment is at those that are farther, or as far and later
pub accounted_later : (k : ℕ) (found : List NearEdge) (d2 e i far j : ℕ) → d2 ≤ far → (far ≤ d2 → i ≤ j) → IsAccounted k found d2 e i → IsAccounted k found far e j
accounted_later k found d2 e i far j le tie h =
    ⊎_elim
    (λ told. inl (record {
      entry = told.entry;
      there = told.there;
      edge_is = told.edge_is;
      no_later = record {
        near = omega (arith, told.no_later.near, le);
        tie = λ back.
            let a = told.no_later.tie (omega (arith, back, le)) in
            let b = tie (omega (arith, back, told.no_later.near)) in
            omega (arith, a, b);
      };
    }))
    (λ behind. behind_later k found d2 e far j le behind)
    h

-- what the first k do not have comes behind them
in_take : (k : ℕ) (xs : List NearEdge) (x : NearEdge) → AreApart xs → Contains xs x → Contains (take k xs) x ⊎ IsBehind k (take k xs) x.d2 x.edge.0
in_take k xs x apart h =
    let l = length-take k xs in
    ⊎_elim
    (λ lt. inl (h.0, omega (arith, h.1, lt, l), get_or-take k xs h.0 x lt ∙ h.2))
    (λ ge. inr (record {
      full = omega (arith, h.1, ge, l);
      before = λ j d under.
          let s = get_or-take k xs j d (omega (arith, under, l)) in
          let is = get_or_default xs h.0 d x h.1 ∙ h.2 in
          let b = (apart j h.0 d (omega (arith, under, l, ge)) h.1).before in
          subst (λ u. ComesBefore u x) (sym s) (subst (ComesBefore (get_or xs j d)) is b);
    }))
    (cases_lt h.0 k)

-- the parts of a list to which one more is put
pub record IsLeft (k : ℕ) (old mid : List NearEdge) (near : NearEdge) : Type 0 where
  pub few : length mid ≤ k
  pub full : length old ≡ k → k ≤ length mid + 1
  pub apart : AreApart mid
  pub others : All (λ c. c.edge.0 ≡ near.edge.0 → ⊥) mid
  pub only : (x : NearEdge) → Contains mid x → Contains old x
  pub rest : (x : NearEdge) → Contains old x → Contains mid x ⊎ ((x.edge.0 ≡ near.edge.0) × IsNoLater near x.d2 x.segment)

pub accounted_one : (k : ℕ) (xs : List NearEdge) (x : NearEdge) → AreApart xs → Contains xs x → IsAccounted k (take k xs) x.d2 x.edge.0 x.segment
accounted_one k xs x apart h =
    ⊎_elim
    (λ there. inl (record { entry = x; there = there; edge_is = refl; no_later = record { near = omega arith; tie = λ le. omega arith } }))
    (λ behind. inr behind)
    (in_take k xs x apart h)

takes_list : (k : ℕ) (old mid : List NearEdge) (near : NearEdge) (place : ℕ) → IsLeft k old mid near → IsWanted k old near → IsPlaceFor mid near place
    → Takes k old (take k (insert mid place near)) near
takes_list k old mid near place left wanted at =
    let zs = insert mid place near in
    let count = length-insert mid place near at.within in
    let apart : AreApart zs = apart_insert mid place near left.apart at.within
    (λ i d lt. record { before = at.before i d lt; differ = left.others i d (omega (arith, lt, at.within)) })
    (λ i d from lt. record { before = at.after i d from lt; differ = λ e. left.others i d lt (sym e) })
    in
    let here : Contains zs near = (place, omega (arith, count, at.within), get_or-insert_at mid place near near at.within) in
    let one = accounted_one k zs near apart here in
    record {
      few = omega (arith, length-take k zs);
      apart = apart_take k zs apart;
      only = λ x there. ⊎_elim (λ m. inl (left.only x m)) (λ e. inr e) (from_insert mid place near x (from_take k zs x there));
      keeps = λ d2 e i h.
          ⊎_elim
          (λ told.
          let x = told.entry in
          let no_later = told.no_later in
          ⊎_elim
          (λ m. subst (λ v. IsAccounted k (take k zs) d2 v i) told.edge_is (accounted_later k (take k zs) x.d2 x.edge.0 x.segment d2 i no_later.near no_later.tie (accounted_one k zs x apart (in_insert mid place near x m))))
          (λ same.
          let both = no_later_twice near x d2 i same.1 no_later in
          subst (λ v. IsAccounted k (take k zs) d2 v i) (sym same.0 ∙ told.edge_is) (accounted_later k (take k zs) near.d2 near.edge.0 near.segment d2 i both.near both.tie one))
          (left.rest x told.there))
          (λ behind.
          let P = λ (c : NearEdge). Precedes c.d2 c.edge.0 d2 e in
          let all : All P zs = all_contained P zs (λ x there. ⊎_elim (λ m. of_contained P old x behind.before (left.only x m)) (λ is. subst P (sym is) (wanted d2 e behind.full behind.before)) (from_insert mid place near x there)) in
          inr (record { full = omega (arith, length-take k zs, count, left.full behind.full); before = All-take P k zs all }))
          h;
      taken = one;
    }

pub takes_put : (k : ℕ) (old mid new : List NearEdge) (near : NearEdge) → IsLeft k old mid near → IsWanted k old near → Puts k mid new near → Takes k old new near
takes_put k old mid new near left wanted h = subst (λ l. Takes k old l near) (sym h.list) (takes_list k old mid near h.place left wanted h.place_is)

-- where the edge is told of as well, nothing changes
pub takes_told : (k : ℕ) (found : List NearEdge) (near x : NearEdge) → length found ≤ k → AreApart found → Contains found x → x.edge.0 ≡ near.edge.0 → IsNoLater x near.d2 near.segment → Takes k found found near
takes_told k found near x few apart there same no_later = record {
  few = few;
  apart = apart;
  only = λ y h. inl h;
  keeps = λ d2 e i h. h;
  taken = inl (record { entry = x; there = there; edge_is = same; no_later = no_later });
}

-- nothing is taken out
pub is_whole : (k : ℕ) (old : List NearEdge) (near : NearEdge) → length old ≤ k → AreApart old → All (λ c. c.edge.0 ≡ near.edge.0 → ⊥) old → IsLeft k old old near
is_whole k old near few apart others = record {
  few = few;
  full = λ e. omega (arith, e);
  apart = apart;
  others = others;
  only = λ x h. h;
  rest = λ x h. inl h;
}

pub others_without : (old : List NearEdge) (near : NearEdge) (place : ℕ) → AreApart old → IsPlaceOf old near.edge.0 place → place < length old → All (λ c. c.edge.0 ≡ near.edge.0 → ⊥) (remove old place)
others_without old near place apart at lt i d under =
    let n = length-remove old place lt in
    let here = at.here d lt in
    ⊎_elim
    (λ below. λ e. (apart i place d below lt).differ (ap (λ (c : NearEdge). c.edge.0) (sym (get_or-remove_below old place d i below lt)) ∙ e ∙ sym here))
    (λ above. λ e. (apart place (i + 1) d (omega (arith, above)) (omega (arith, under, n))).differ (here ∙ sym e ∙ ap (λ (c : NearEdge). c.edge.0) (get_or-remove_above old place d i above lt)))
    (cases_lt i place)

-- the entry of the edge is taken out, which is later
pub is_left : (k : ℕ) (old : List NearEdge) (near : NearEdge) (place : ℕ) → length old ≤ k → AreApart old → IsPlaceOf old near.edge.0 place → place < length old
    → ((x : NearEdge) → get_or old place x ≡ x → IsNoLater near x.d2 x.segment) → IsLeft k old (remove old place) near
is_left k old near place few apart at lt later =
    let n = length-remove old place lt in
    record {
      few = omega (arith, few, n);
      full = λ e. omega (arith, e, n);
      apart = all_pairs_remove IsApart old place lt apart;
      others = others_without old near place apart at lt;
      only = λ x h.
          ⊎_elim
          (λ below. (h.0, omega (arith, h.1, n), sym (get_or-remove_below old place x h.0 below lt) ∙ h.2))
          (λ above. (h.0 + 1, omega (arith, h.1, n), sym (get_or-remove_above old place x h.0 above lt) ∙ h.2))
          (cases_lt h.0 place);
      rest = λ x h.
          ⊎_elim
          (λ below. inl (h.0, omega (arith, h.1, n, below, lt), get_or-remove_below old place x h.0 below lt ∙ h.2))
          (λ above.
          ⊎_elim
          (λ beyond.
          let e : h.0 - 1 + 1 ≡ h.0 = omega (arith, beyond) in
          inl (h.0 - 1, omega (arith, h.1, n, beyond), get_or-remove_above old place x (h.0 - 1) (omega (arith, beyond)) lt ∙ ap (λ v. get_or old v x) e ∙ h.2))
          (λ here.
          let e : h.0 ≡ place = omega (arith, above, here) in
          let is : get_or old place x ≡ x = ap (λ v. get_or old v x) (sym e) ∙ h.2 in
          inr (ap (λ (c : NearEdge). c.edge.0) (sym is) ∙ at.here x lt, later x is))
          (cases_lt place h.0))
          (cases_lt h.0 place);
    }
