-- The nearest edges so far: two more at once.
use Rattle.std.proofs.Common.{◌≡◌, ℕ, ◌+◌, ◌<◌, ◌≤◌, ◌⊎◌, List, length, get_or, take, All, sym, ap, ◌∙◌, subst, inl, inr, arith, ⊎_elim, length-take}
use Rattle.std.specs.List.{Contains, insert}
use Rattle.std.proofs.lemmas.Bool.{cases_lt}
use Rattle.std.proofs.lemmas.List.Edits.{get_or-insert_at, get_or-insert_below, length-insert}
use Rattle.std.proofs.lemmas.List.Elements.{All-take}
use Rattle.candidate_search.specs.declared.best.NearEdge.{NearEdge}
use Rattle.candidate_search.specs.inside.Best.{AreApart, ComesBefore, IsAccounted, IsBehind, IsNewPair, IsPlaceFor, IsWanted, Precedes, PutsPair, Takes, TakesPair}
use Rattle.candidate_search.proofs.ApartLists.{all_contained, apart_insert, apart_take, from_insert, from_take, in_insert, of_contained}
use Rattle.candidate_search.proofs.BestLists.{accounted_later, accounted_one, precedes_twice}

-- one more edge at its place
pub apart_placed : (found : List NearEdge) (near : NearEdge) (place : ℕ) → AreApart found → All (λ c. c.edge.0 ≡ near.edge.0 → ⊥) found → IsPlaceFor found near place
    → AreApart (insert found place near)
apart_placed found near place apart others at =
    apart_insert found place near apart at.within
    (λ i d lt. record { before = at.before i d lt; differ = others i d (omega (arith, lt, at.within)) })
    (λ i d from lt. record { before = at.after i d from lt; differ = λ e. others i d lt (sym e) })

-- no edge is the second of the pair, also where the first is put among them
pub others_placed : (k : ℕ) (found : List NearEdge) (a b : NearEdge) (place : ℕ) → IsNewPair k found a b → All (λ c. c.edge.0 ≡ b.edge.0 → ⊥) (insert found place a)
others_placed k found a b place pair =
    let P = λ (c : NearEdge). c.edge.0 ≡ b.edge.0 → ⊥ in
    let old : All P found = λ i d lt. (pair.neither i d lt).1 in
    all_contained P (insert found place a) (λ x there.
    ⊎_elim
    (λ m. of_contained P found x old m)
    (λ is. subst P (sym is) (λ e. omega (arith, pair.below, e)))
    (from_insert found place a x there))

pub pair_before : (k : ℕ) (found : List NearEdge) (a b : NearEdge) → IsNewPair k found a b → ComesBefore a b
pair_before k found a b pair = record { near = pair.near; tie = λ le. pair.below }

-- the second comes after the first and what stands before that
pub before_placed : (k : ℕ) (found : List NearEdge) (a b : NearEdge) (place : ℕ) → IsNewPair k found a b → IsPlaceFor found a place
    → (i : ℕ) (d : NearEdge) → i < place + 1 → ComesBefore (get_or (insert found place a) i d) b
before_placed k found a b place pair at i d lt =
    let ab = pair_before k found a b pair in
    ⊎_elim
    (λ below.
    let x = get_or found i d in
    subst (λ c. ComesBefore c b) (sym (get_or-insert_below found place a d i below at.within))
    (precedes_twice x.d2 x.edge.0 a.d2 a.edge.0 b.d2 b.edge.0 (at.before i d below) ab))
    (λ here.
    let e : place ≡ i = omega (arith, lt, here) in
    subst (λ c. ComesBefore c b) (sym (get_or-insert_at found place a d at.within) ∙ ap (λ v. get_or (insert found place a) v d) e) ab)
    (cases_lt i place)

-- where no k come before an edge, it comes before what is behind all of them
pub wanted_unless : (k : ℕ) (found : List NearEdge) (near : NearEdge) → (IsBehind k found near.d2 near.edge.0 → ⊥) → IsWanted k found near
wanted_unless k found near not_behind d2 e full before =
    let behind : d2 ≤ near.d2 → (near.d2 ≤ d2 → e ≤ near.edge.0) → ⊥ = λ le tie. not_behind (record {
      full = full;
      before = λ i d lt.
          let b = before i d lt in
          record {
            near = omega (arith, b.near, le);
            tie = λ back.
                let t = b.tie (omega (arith, back, le)) in
                let u = tie (omega (arith, back, b.near)) in
                omega (arith, t, u);
          };
    })
    in
    ⊎_elim
    (λ lt. record { near = omega (arith, lt); tie = λ back. absurd (omega (arith, back, lt)) })
    (λ ge. record {
      near = ⊎_elim (λ far. absurd (behind ge (λ back. absurd (omega (arith, back, far))))) (λ le. le) (cases_lt d2 near.d2);
      tie = λ back. ⊎_elim (λ low. low) (λ high. absurd (behind ge (λ again. high))) (cases_lt near.edge.0 e);
    })
    (cases_lt near.d2 d2)

-- a list in order that has what was found and two more, cut to the first k
pub takes_both : (k : ℕ) (old zs : List NearEdge) (a b : NearEdge) → AreApart zs → length old ≤ length zs → ((x : NearEdge) → Contains old x → Contains zs x)
    → ((x : NearEdge) → Contains zs x → Contains old x ⊎ ((x ≡ a) ⊎ (x ≡ b))) → Contains zs a → Contains zs b → IsWanted k old a → IsWanted k old b → TakesPair k old (take k zs) a b
takes_both k old zs a b apart more has only first second wanted_first wanted_second = record {
  few = omega (arith, length-take k zs);
  apart = apart_take k zs apart;
  only = λ x there. only x (from_take k zs x there);
  keeps = λ d2 e i h.
      ⊎_elim
      (λ told.
      let x = told.entry in
      let no_later = told.no_later in
      subst (λ v. IsAccounted k (take k zs) d2 v i) told.edge_is
      (accounted_later k (take k zs) x.d2 x.edge.0 x.segment d2 i no_later.near no_later.tie (accounted_one k zs x apart (has x told.there))))
      (λ behind.
      let P = λ (c : NearEdge). Precedes c.d2 c.edge.0 d2 e in
      let all : All P zs = all_contained P zs (λ x there.
      ⊎_elim
      (λ m. of_contained P old x behind.before m)
      (λ new.
      ⊎_elim
      (λ is. subst P (sym is) (wanted_first d2 e behind.full behind.before))
      (λ is. subst P (sym is) (wanted_second d2 e behind.full behind.before))
      new)
      (only x there))
      in
      inr (record { full = omega (arith, length-take k zs, more, behind.full); before = All-take P k zs all }))
      h;
  first_taken = accounted_one k zs a apart first;
  second_taken = accounted_one k zs b apart second;
}

-- what comes before an edge that is not behind k is not behind them either
pub first_wanted : (k : ℕ) (found : List NearEdge) (a b : NearEdge) → IsNewPair k found a b → IsWanted k found a
first_wanted k found a b pair =
    wanted_unless k found a (λ behind. pair.wanted (record {
      full = behind.full;
      before = λ i d lt.
          let x = get_or found i d in
          precedes_twice x.d2 x.edge.0 a.d2 a.edge.0 b.d2 b.edge.0 (behind.before i d lt) (pair_before k found a b pair);
    }))

pub takes_put_pair : (k : ℕ) (old new : List NearEdge) (a b : NearEdge) → AreApart old → IsNewPair k old a b → PutsPair k old new a b → TakesPair k old new a b
takes_put_pair k old new a b apart pair h =
    let mid = insert old h.place a in
    let zs = insert mid h.next b in
    let one = length-insert old h.place a h.place_is.within in
    let two = length-insert mid h.next b h.next_is.within in
    let middle : AreApart mid = apart_placed old a h.place apart (λ i d lt. (pair.neither i d lt).0) h.place_is in
    let whole : AreApart zs = apart_placed mid b h.next middle (others_placed k old a b h.place pair) h.next_is in
    let first : Contains mid a = (h.place, omega (arith, one, h.place_is.within), get_or-insert_at old h.place a a h.place_is.within) in
    let second : Contains zs b = (h.next, omega (arith, two, h.next_is.within), get_or-insert_at mid h.next b b h.next_is.within) in
    subst (λ l. TakesPair k old l a b) (sym h.list)
    (takes_both k old zs a b whole (omega (arith, one, two)) (λ x m. in_insert mid h.next b x (in_insert old h.place a x m))
    (λ x there.
    ⊎_elim
    (λ m. ⊎_elim (λ n. inl n) (λ e. inr (inl e)) (from_insert old h.place a x m))
    (λ e. inr (inr e))
    (from_insert mid h.next b x there))
    (in_insert mid h.next b a first) second (first_wanted k old a b pair) (wanted_unless k old b pair.wanted))

-- one after the other
pub takes_two : (k : ℕ) (old mid new : List NearEdge) (a b : NearEdge) → Takes k old mid a → Takes k mid new b → TakesPair k old new a b
takes_two k old mid new a b h g = record {
  few = g.few;
  apart = g.apart;
  only = λ x there. ⊎_elim (λ m. ⊎_elim (λ n. inl n) (λ e. inr (inl e)) (h.only x m)) (λ e. inr (inr e)) (g.only x there);
  keeps = λ d2 e i was. g.keeps d2 e i (h.keeps d2 e i was);
  first_taken = g.keeps a.d2 a.edge.0 a.segment h.taken;
  second_taken = g.taken;
}
