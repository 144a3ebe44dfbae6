-- The places of open drives in a queue, and what is put into it and taken from it.
use Rattle.std.proofs.Common.{◌≡◌, ℕ, ◌<◌, Bool, true, false, cond, Option, Some, None, refl, sym, ap, subst, ◌∙◌, arith, nat_eq, nat_lt}
use Rattle.std.specs.Prelude.{◌&&◌}
use Rattle.std.specs.BTreeMap.{is_at}
use Rattle.std.specs.Cmp.{IsTotalOrder}
use Rattle.std.specs.Ordering.{is_eq, nat_cmp, ordering_then}
use Rattle.std.specs.declared.cmp.Ordering.{Ordering}
use Rattle.std.specs.declared.cmp.Ordering.TheVariants.{Less, Equal, Greater}
use Rattle.std.proofs.lemmas.Bool.Decides.{nat_tests}
use Rattle.std.proofs.lemmas.Cmp.{nat_cmp_total, on_total, then_total}
use Rattle.follow_work.specs.declared.times.Drive.{Drive}
use Rattle.follow_work.specs.inside.Times.{Place, is_placed, place_cmp, put}

pub place-total : IsTotalOrder place_cmp
place-total = then_total (then_total (on_total (λ (p : Place). p.0) nat_cmp_total) (on_total (λ (p : Place). p.1) nat_cmp_total)) (on_total (λ (p : Place). p.2) nat_cmp_total)

pub cmp-eq : (a b : ℕ) → is_eq (nat_cmp a b) ≡ nat_eq a b
cmp-eq a b = step (nat_lt a b) refl (nat_eq a b) refl
  where
    step : (l : Bool) → nat_lt a b ≡ l → (e : Bool) → nat_eq a b ≡ e → is_eq (cond l Less (cond e Equal Greater)) ≡ e
    step true low true same = absurd (let below : a < b = grind (arith, nat_tests) in let is : a ≡ b = grind (arith, nat_tests) in omega (arith, below, is))
    step true low false same = refl
    step false low true same = refl
    step false low false same = refl

then-eq : (o p : Ordering) → is_eq (ordering_then o p) ≡ (is_eq o && is_eq p)
then-eq Less p = refl
then-eq Equal p = refl
then-eq Greater p = refl

-- two places are one where all three numbers agree
abbrev pub same_place : Place → Place → Bool
same_place p q = (nat_eq p.0 q.0 && nat_eq p.1 q.1) && nat_eq p.2 q.2

pub place-at : (p q : Place) → is_at (place_cmp p) q ≡ same_place p q
place-at p q =
    then-eq (ordering_then (nat_cmp p.0 q.0) (nat_cmp p.1 q.1)) (nat_cmp p.2 q.2)
    ∙ ap (λ b. b && is_eq (nat_cmp p.2 q.2)) (then-eq (nat_cmp p.0 q.0) (nat_cmp p.1 q.1))
    ∙ ap (λ b. (b && is_eq (nat_cmp p.1 q.1)) && is_eq (nat_cmp p.2 q.2)) (cmp-eq p.0 q.0)
    ∙ ap (λ b. (nat_eq p.0 q.0 && b) && is_eq (nat_cmp p.2 q.2)) (cmp-eq p.1 q.1)
    ∙ ap (λ b. (nat_eq p.0 q.0 && nat_eq p.1 q.1) && b) (cmp-eq p.2 q.2)

-- the value of one id is another one: of a drive that begins, has a newer time, or ends
abbrev pub Changes : (f g : ℕ → Option Drive) → (id : ℕ) → Option Drive → Type 0
Changes f g id o = (j : ℕ) → g j ≡ cond (nat_eq id j) o (f j)

both : (a b : Bool) → (a && b) ≡ cond b a false
both true true = refl
both true false = refl
both false true = refl
both false false = refl

module _ (f g : ℕ → Option Drive) (id : ℕ) where
  abbrev has : (ℕ → Option Drive) → Place → Bool
  has h q = is_placed (h q.2) q

  -- whether the place is that of the drive, and of which id it is
  at : (d : Drive) (q : Place) (b : Bool) → nat_eq id q.2 ≡ b → is_at (place_cmp (d.newest, d.number, id)) q ≡ cond b (is_placed (Some d) q) false
  at d q b is = place-at (d.newest, d.number, id) q ∙ both (is_placed (Some d) q) (nat_eq id q.2) ∙ ap (λ c. cond c (is_placed (Some d) q) false) is

  here : (q : Place) (o : Option Drive) → nat_eq id q.2 ≡ true → f id ≡ o → f q.2 ≡ o
  here q o is own =
      let same : id ≡ q.2 = grind (arith, nat_tests) in
      subst (λ j. f j ≡ o) same own

  -- a drive begins
  pub begun-placed : (d : Drive) → Changes f g id (Some d) → f id ≡ None → (q : Place) → put (has f) (d.newest, d.number, id) true q ≡ has g q
  begun-placed d changes none q = step (nat_eq id q.2) refl
    where
      step : (b : Bool) → nat_eq id q.2 ≡ b → put (has f) (d.newest, d.number, id) true q ≡ has g q
      step true is =
          let own : has f q ≡ false = ap (λ o. is_placed o q) (here q None is none) in
          let new : has g q ≡ is_placed (Some d) q = ap (λ o. is_placed o q) (changes q.2 ∙ ap (λ c. cond c (Some d) (f q.2)) is) in
          ap (λ c. cond c true (has f q)) (at d q true is) ∙ ap (λ h. cond (is_placed (Some d) q) true h) own ∙ known (is_placed (Some d) q) ∙ sym new
        where
          known : (c : Bool) → cond c true false ≡ c
          known true = refl
          known false = refl
      step false is =
          let new : has g q ≡ has f q = ap (λ o. is_placed o q) (changes q.2 ∙ ap (λ c. cond c (Some d) (f q.2)) is) in
          ap (λ c. cond c true (has f q)) (at d q false is) ∙ sym new

  -- a drive ends
  pub ended-placed : (d : Drive) → Changes f g id None → f id ≡ Some d → (q : Place) → put (has f) (d.newest, d.number, id) false q ≡ has g q
  ended-placed d changes some q = step (nat_eq id q.2) refl
    where
      step : (b : Bool) → nat_eq id q.2 ≡ b → put (has f) (d.newest, d.number, id) false q ≡ has g q
      step true is =
          let own : has f q ≡ is_placed (Some d) q = ap (λ o. is_placed o q) (here q (Some d) is some) in
          let new : has g q ≡ false = ap (λ o. is_placed o q) (changes q.2 ∙ ap (λ c. cond c None (f q.2)) is) in
          ap (λ c. cond c false (has f q)) (at d q true is) ∙ ap (λ h. cond (is_placed (Some d) q) false h) own ∙ known (is_placed (Some d) q) ∙ sym new
        where
          known : (c : Bool) → cond c false c ≡ false
          known true = refl
          known false = refl
      step false is =
          let new : has g q ≡ has f q = ap (λ o. is_placed o q) (changes q.2 ∙ ap (λ c. cond c None (f q.2)) is) in
          ap (λ c. cond c false (has f q)) (at d q false is) ∙ sym new

  -- what was put where nothing was is taken back
  pub taken-back : (d : Drive) → f id ≡ None → (q : Place) → put (put (has f) (d.newest, d.number, id) true) (d.newest, d.number, id) false q ≡ has f q
  taken-back d none q = step (nat_eq id q.2) refl
    where
      step : (b : Bool) → nat_eq id q.2 ≡ b → put (put (has f) (d.newest, d.number, id) true) (d.newest, d.number, id) false q ≡ has f q
      step true is =
          let own : has f q ≡ false = ap (λ o. is_placed o q) (here q None is none) in
          ap (λ c. cond c false (cond c true (has f q))) (at d q true is) ∙ ap (λ h. cond (is_placed (Some d) q) false (cond (is_placed (Some d) q) true h)) own
          ∙ known (is_placed (Some d) q) ∙ sym own
        where
          known : (c : Bool) → cond c false (cond c true false) ≡ false
          known true = refl
          known false = refl
      step false is = ap (λ c. cond c false (cond c true (has f q))) (at d q false is)

  apart : (d e : Drive) (q : Place) → d.newest < e.newest → is_placed (Some d) q ≡ true → is_placed (Some e) q ≡ true → ⊥
  apart d e q newer one two =
      let a : nat_eq d.newest q.0 ≡ true = left (nat_eq d.newest q.0) (nat_eq d.number q.1) one in
      let b : nat_eq e.newest q.0 ≡ true = left (nat_eq e.newest q.0) (nat_eq e.number q.1) two in
      let x : d.newest ≡ q.0 = grind (arith, nat_tests) in
      let y : e.newest ≡ q.0 = grind (arith, nat_tests) in
      omega (arith, newer, x, y)
    where
      left : (a b : Bool) → (a && b) ≡ true → a ≡ true
      left true b is = refl
      left false b is = is

  -- a drive has a newer time
  pub moved-placed : (d e : Drive) → d.newest < e.newest → Changes f g id (Some e) → f id ≡ Some d → (q : Place)
      → put (put (has f) (e.newest, e.number, id) true) (d.newest, d.number, id) false q ≡ has g q
  moved-placed d e newer changes some q = step (nat_eq id q.2) refl
    where
      pick : (x y : Bool) → (x ≡ true → y ≡ true → ⊥) → cond x false (cond y true x) ≡ y
      pick true true never = absurd (never refl refl)
      pick true false never = refl
      pick false true never = refl
      pick false false never = refl

      step : (b : Bool) → nat_eq id q.2 ≡ b → put (put (has f) (e.newest, e.number, id) true) (d.newest, d.number, id) false q ≡ has g q
      step true is =
          let own : has f q ≡ is_placed (Some d) q = ap (λ o. is_placed o q) (here q (Some d) is some) in
          let new : has g q ≡ is_placed (Some e) q = ap (λ o. is_placed o q) (changes q.2 ∙ ap (λ c. cond c (Some e) (f q.2)) is) in
          ap (λ c. cond c false (cond (is_at (place_cmp (e.newest, e.number, id)) q) true (has f q))) (at d q true is)
          ∙ ap (λ c. cond (is_placed (Some d) q) false (cond c true (has f q))) (at e q true is)
          ∙ ap (λ h. cond (is_placed (Some d) q) false (cond (is_placed (Some e) q) true h)) own
          ∙ pick (is_placed (Some d) q) (is_placed (Some e) q) (apart d e q newer) ∙ sym new
      step false is =
          let new : has g q ≡ has f q = ap (λ o. is_placed o q) (changes q.2 ∙ ap (λ c. cond c (Some e) (f q.2)) is) in
          ap (λ c. cond c false (cond (is_at (place_cmp (e.newest, e.number, id)) q) true (has f q))) (at d q false is)
          ∙ ap (λ c. cond c true (has f q)) (at e q false is) ∙ sym new
