-- From the masks of the points of a piece to what is committed of it. In this file layers and tables stand in the order
-- of the points.
use Rattle.std.proofs.Common.{◌≡◌, ℕ, zero, suc, ◌+◌, ◌-◌, ◌<◌, ◌≤◌, List, [], ◌∷◌, ◌++◌, Option, Some, None, refl, sym, ap, ◌∙◌, subst, arith, length, take, drop, reverse, get_or, unwrap_or, ⊎_elim}
use Rattle.std.proofs.lemmas.Bool.{cases_lt}
use Rattle.std.proofs.lemmas.List.{length-reverse, reverse-append, reverse-reverse, take-take, get_or-drop, get_or-take}
use Rattle.std.proofs.Math.Seq.{get_or-append_seam}
use Rattle.matching.specs.declared.parts.Cell.{Cell}
use Rattle.matching.specs.Sequences.{Trellis, IsBest, IsBestTo}
use Rattle.matching.specs.Cells.{cell_at, IsLive}
use Rattle.matching.specs.Committed.{Agree, IsCommitted}
use Rattle.matching.specs.Local.{AreLinked, by_pointers}
use Rattle.matching.specs.Pieces.{IsPiece}
use Rattle.matching.specs.Places.{IsAt}
use Rattle.matching.proofs.Commits.{IsOpenRun, best_in, live_in, setting_of}
use Rattle.matching.proofs.CommittedValues.{front, front_is}
use Rattle.matching.proofs.Costs.{cost-length}
use Rattle.matching.proofs.Fronts.{ends-in, front-grows}
use Rattle.matching.proofs.Lists.{at-get_or, reverse-take}
use Rattle.matching.proofs.Meeting.{Passes, passes_back, passes_itself, meet, apart}
use Rattle.matching.proofs.Splits.{OneOrNone}
use Rattle.online_commit.specs.inside.Masks.{AreMasks, HasBit, ArePreviousRanks, IsLiveMask, IsNotOne, IsOnlyRank, mask_at}

-- an open piece with its tables
pub record IsTabled {L : Type 0} (t : Trellis L) (xs : List L) (tables : List (List Cell)) : Type 0 where
  pub some : 0 < length xs
  pub count : length tables ≡ length xs
  pub linked : AreLinked t (reverse xs) (reverse tables)
  pub piece : IsPiece t xs (length xs)

-- the ranks that pointers lead to from rank j of the last point
abbrev pub chain : List (List Cell) → ℕ → List ℕ
chain tables j = by_pointers (reverse tables) (Some j)

abbrev pub last_of : List (List Cell) → List Cell
last_of tables = get_or tables (length tables - 1) []

setting : {L : Type 0} (t : Trellis L) (xs : List L) (tables : List (List Cell)) → IsTabled t xs tables → IsOpenRun t (reverse xs) tables (last_of tables)
setting t xs tables h = setting_of t xs tables h.count h.some h.linked

-- the masks of the points from `low` on
pub record AreMasksFrom (low : ℕ) (tables : List (List Cell)) (mask : ℕ → ℕ) (n : ℕ) : Type 0 where
  pub live : IsLiveMask (get_or tables (n - 1) []) (mask (n - 1))
  pub back : (i : ℕ) → low ≤ i → i + 1 < n → ArePreviousRanks (get_or tables (i + 1) []) (mask (i + 1)) (mask i)

-- those of the points after the first `low`
pub masks-from : (low : ℕ) (tables : List (List Cell)) (masks : List ℕ) (n : ℕ) → low < n → AreMasks (drop low tables) (mask_at masks) (n - low) → AreMasksFrom low tables (λ i. mask_at masks (i - low)) n
masks-from low tables masks n lt h =
    let last : n - low - 1 ≡ n - 1 - low = omega arith in
    let place : low + (n - 1 - low) ≡ n - 1 = omega (arith, lt) in
    record {
      live = subst (λ c. IsLiveMask c (mask_at masks (n - 1 - low))) (get_or-drop low tables (n - 1 - low) [] ∙ ap (λ k. get_or tables k []) place)
          (subst (λ k. IsLiveMask (get_or (drop low tables) k []) (mask_at masks k)) last h.live);
      back = λ i ge inside.
          let next : i - low + 1 ≡ i + 1 - low = omega (arith, ge) in
          let there : low + (i + 1 - low) ≡ i + 1 = omega (arith, ge) in
          subst (λ c. ArePreviousRanks c (mask_at masks (i + 1 - low)) (mask_at masks (i - low))) (get_or-drop low tables (i + 1 - low) [] ∙ ap (λ k. get_or tables k []) there)
          (subst (λ k. ArePreviousRanks (get_or (drop low tables) k []) (mask_at masks k) (mask_at masks (i - low))) next (h.back (i - low) (omega (arith, ge, inside))));
    }

-- the mask of point i has the ranks that the best sequences to the live ranks have there
record Tells (tables : List (List Cell)) (mask i : ℕ) : Type 0 where
  covers : (j : ℕ) → IsLive (last_of tables) j → (a : ℕ) × HasBit mask a × Passes tables (chain tables j) (i + 1) a
  each : (a : ℕ) → HasBit mask a → (j : ℕ) × IsLive (last_of tables) j × Passes tables (chain tables j) (i + 1) a

tells-last : {L : Type 0} (t : Trellis L) (xs : List L) (tables : List (List Cell)) (mask : ℕ → ℕ) (low n i : ℕ) → IsTabled t xs tables → length tables ≡ n → AreMasksFrom low tables mask n → i + 1 ≡ n
    → Tells tables (mask i) i
tells-last t xs tables mask low n i h count masks e =
    let s = setting t xs tables h in
    let k : length tables - 1 ≡ i = omega (arith, count, e) in
    let m : n - 1 ≡ i = omega (arith, e) in
    let z : length tables ≡ i + 1 = omega (arith, count, e) in
    let at : last_of tables ≡ get_or tables (n - 1) [] = ap (λ v. get_or tables v []) (k ∙ sym m) in
    let here : mask (n - 1) ≡ mask i = ap mask m in
    let passes : (j : ℕ) → IsLive (last_of tables) j → Passes tables (chain tables j) (i + 1) j =
    λ j live.
    let v = live_in t (reverse xs) tables (last_of tables) j s live in
    let long = cost-length t (reverse xs) (j ∷ v.1) v.0 v.2.costs in
    passes_itself tables (i + 1) j z (ap length (sym v.3) ∙ long ∙ length-reverse xs ∙ sym h.count ∙ z) in
    record {
      covers = λ j live. (j, subst (λ b. HasBit b j) here ((masks.live j).1 (subst (λ c. IsLive c j) at live)), passes j live);
      each = λ a bit.
          let live = subst (λ c. IsLive c a) (sym at) ((masks.live a).0 (subst (λ b. HasBit b a) (sym here) bit)) in
          (a, live, passes a live);
    }

-- where a sequence goes on back, its cell has a pointer
has_pointer : (tables : List (List Cell)) (y : Option ℕ) (n : ℕ) → 0 < n → length (by_pointers tables y) ≡ n → (b : ℕ) × (y ≡ Some b)
has_pointer tables None n some h = absurd (omega (arith, some, h))
has_pointer tables (Some b) n some h = (b, refl)

pointer-of : (tables : List (List Cell)) (i a : ℕ) (table : List Cell) → IsAt tables (i + 1) table → length (by_pointers (reverse (take (i + 1 + 1) tables)) (Some a)) ≡ i + 1 + 1
    → (b : ℕ) × ((cell_at table a).«from» ≡ Some b)
pointer-of tables i a table at h =
    let step = ap (λ ts. length (by_pointers ts (Some a))) (reverse-take tables (i + 1) table at) in
    has_pointer (reverse (take (i + 1) tables)) ((cell_at table a).«from») (i + 1) (omega arith) (omega (arith, step, h))

tells-back : (tables : List (List Cell)) (mask behind i : ℕ) (table : List Cell) → IsAt tables (i + 1) table → ArePreviousRanks table mask behind → Tells tables mask (i + 1) → Tells tables behind i
tells-back tables mask behind i table at back h = record {
  covers = λ j live.
      let p = h.covers j live in
      let b = pointer-of tables i p.0 table at p.2.count in
      let q = passes_back tables (chain tables j) (i + 1) p.0 table (omega arith) at p.2 in
      (b.0, (back b.0).1 (p.0, p.1, b.1), subst (λ y. Passes tables (chain tables j) (i + 1) (unwrap_or y 0)) b.1 q);
  each = λ a bit.
      let r = (back a).0 bit in
      let p = h.each r.0 r.1 in
      let q = passes_back tables (chain tables p.0) (i + 1) r.0 table (omega arith) at p.2 in
      (p.0, p.1, subst (λ y. Passes tables (chain tables p.0) (i + 1) (unwrap_or y 0)) r.2 q);
}

tells-from : {L : Type 0} (t : Trellis L) (xs : List L) (tables : List (List Cell)) (mask : ℕ → ℕ) (low n i d : ℕ) → IsTabled t xs tables → length tables ≡ n → AreMasksFrom low tables mask n → low ≤ i → i + 1 + d ≡ n
    → Tells tables (mask i) i
tells-from t xs tables mask low n i zero h count masks high e = tells-last t xs tables mask low n i h count masks (omega (arith, e))
tells-from t xs tables mask low n i (suc d) h count masks high e =
    let on = tells-from t xs tables mask low n (i + 1) d h count masks (omega (arith, high)) (omega (arith, e)) in
    tells-back tables (mask (i + 1)) (mask i) i (get_or tables (i + 1) []) (at-get_or tables (i + 1) [] (omega (arith, count, e))) (masks.back i high (omega (arith, e))) on

tells : {L : Type 0} (t : Trellis L) (xs : List L) (tables : List (List Cell)) (mask : ℕ → ℕ) (low i : ℕ) → IsTabled t xs tables → AreMasksFrom low tables mask (length xs) → low ≤ i → i < length xs → Tells tables (mask i) i
tells t xs tables mask low i h masks high lt = tells-from t xs tables mask low (length xs) i (length xs - (i + 1)) h h.count masks high (omega (arith, lt))

-- where one rank is left, the sequences agree up to there

agree-at : {L : Type 0} (t : Trellis L) (xs : List L) (tables : List (List Cell)) (mask i r : ℕ) → IsTabled t xs tables → Tells tables mask i → IsOnlyRank mask r → Agree t (reverse xs) (i + 1)
agree-at t xs tables mask i r h told only j k c d ranks others bj bk =
    let s = setting t xs tables h in
    let vj = best_in t (reverse xs) tables (last_of tables) j c ranks s bj in
    let vk = best_in t (reverse xs) tables (last_of tables) k d others s bk in
    let pj = told.covers j vj.0 in
    let pk = told.covers k vk.0 in
    ap (λ ys. take (i + 1) (reverse ys)) vj.1
    ∙ meet tables (chain tables j) (chain tables k) (i + 1) pj.0 pk.0 pj.2 pk.2 (only.1 pj.0 pj.1 ∙ sym (only.1 pk.0 pk.1))
    ∙ ap (λ ys. take (i + 1) (reverse ys)) (sym vk.1)

two-apart : {L : Type 0} (t : Trellis L) (xs : List L) (tables : List (List Cell)) (mask i a b : ℕ) → IsTabled t xs tables → Tells tables mask i → HasBit mask a → HasBit mask b
    → Agree t (reverse xs) (i + 1) → a ≡ b
two-apart t xs tables mask i a b h told ha hb agree =
    let s = setting t xs tables h in
    let p = told.each a ha in
    let q = told.each b hb in
    let vp = live_in t (reverse xs) tables (last_of tables) p.0 s p.1 in
    let vq = live_in t (reverse xs) tables (last_of tables) q.0 s q.1 in
    let e = agree p.0 q.0 vp.0 vq.0 vp.1 vq.1 vp.2 vq.2 in
    apart tables (chain tables p.0) (chain tables q.0) (i + 1) a b (omega arith) p.2 q.2
    (ap (λ ys. take (i + 1) (reverse ys)) (sym vp.3) ∙ e ∙ ap (λ ys. take (i + 1) (reverse ys)) vq.3)

-- and where it is not one, they do not
apart-at : {L : Type 0} (t : Trellis L) (xs : List L) (tables : List (List Cell)) (mask i j : ℕ) → IsTabled t xs tables → Tells tables mask i → IsLive (last_of tables) j → IsNotOne mask
    → Agree t (reverse xs) (i + 1) → ⊥
apart-at t xs tables mask i j h told live not agree =
    ⊎_elim (λ none. let p = told.covers j live in none p.0 p.1)
    (λ two. two.4 (two-apart t xs tables mask i two.0 two.1 h told two.2 two.3 agree))
    not

agree-less : {L : Type 0} (t : Trellis L) (layers : List L) (m n : ℕ) → n ≤ m → Agree t layers m → Agree t layers n
agree-less t layers m n le agree j k c d ranks others bj bk =
    sym (take-take n m (reverse (j ∷ ranks)) le) ∙ ap (take n) (agree j k c d ranks others bj bk) ∙ take-take n m (reverse (k ∷ others)) le

-- the front that agreed before agrees still
agree-old : {L : Type 0} (t : Trellis L) (xs more : List L) (told : ℕ) → OneOrNone t (xs ++ more) → IsCommitted t (reverse xs) told → Agree t (reverse (xs ++ more)) told
agree-old t xs more told one old =
    let k = front t (xs ++ more) in
    let is = front_is t (xs ++ more) one in
    let low = front-grows t (reverse xs) (reverse more) told k old (subst (λ ys. IsCommitted t ys k) (reverse-append xs more) is) in
    agree-less t (reverse (xs ++ more)) k told low is.agree

-- the points from `from` to `to` have one rank left, and the next has not
pub record IsBoundary (mask : ℕ → ℕ) («from» to n : ℕ) : Type 0 where
  pub low : «from» ≤ to
  pub high : to ≤ n
  pub single : (j : ℕ) → «from» ≤ j → j < to → (r : ℕ) × IsOnlyRank (mask j) r
  pub ends : to < n → IsNotOne (mask to)

agree-boundary : {L : Type 0} (t : Trellis L) (xs : List L) (tables : List (List Cell)) (mask : ℕ → ℕ) (low «from» to : ℕ) → IsTabled t xs tables → AreMasksFrom low tables mask (length xs) → low ≤ «from»
    → IsBoundary mask «from» to (length xs) → Agree t (reverse xs) «from» → Agree t (reverse xs) to
agree-boundary t xs tables mask low «from» to h masks above b old =
    ⊎_elim
    (λ lt. let high = b.high in
    let i = to - 1 in
    let e : i + 1 ≡ to = omega (arith, lt) in
    let only = b.single i (omega (arith, lt)) (omega (arith, lt)) in
    subst (λ k. Agree t (reverse xs) k) e (agree-at t xs tables (mask i) i only.0 h (tells t xs tables mask low i h masks (omega (arith, above, lt)) (omega (arith, lt, high))) only.1))
    (λ ge. let low = b.low in let e : «from» ≡ to = omega (arith, ge, low) in subst (λ k. Agree t (reverse xs) k) e old)
    (cases_lt «from» to)

pub committed-boundary : {L : Type 0} (t : Trellis L) (xs more : List L) (tables : List (List Cell)) (mask : ℕ → ℕ) (low «from» to j : ℕ) → IsTabled t (xs ++ more) tables
    → AreMasksFrom low tables mask (length (xs ++ more)) → low ≤ «from» → IsBoundary mask «from» to (length (xs ++ more)) → IsLive (last_of tables) j → IsCommitted t (reverse xs) «from»
    → IsCommitted t (reverse (xs ++ more)) to
committed-boundary t xs more tables mask low «from» to j h masks under b live old =
    let ys = xs ++ more in
    let high = b.high in
    let len = length-reverse ys in
    record {
      within = omega (arith, high, len);
      agree = agree-boundary t ys tables mask low «from» to h masks under b (agree-old t xs more «from» (λ some. h.piece) old);
      longest = λ m above le agree.
          let lt : to < length ys = omega (arith, above, le, len) in
          apart-at t ys tables (mask to) to j h (tells t ys tables mask low to h masks (let from-to = b.low in omega (arith, under, from-to)) lt) live (b.ends lt) (agree-less t (reverse ys) m (to + 1) (omega (arith, above)) agree);
    }

-- the rank that is left is that of the best sequence

rank-passed : (tables : List (List Cell)) (whole : List ℕ) (i a : ℕ) (table : List Cell) → IsAt tables i table → Passes tables whole (i + 1) a → get_or (reverse whole) i 0 ≡ a
rank-passed tables whole i a table at p =
    let rest = by_pointers (reverse (take i tables)) ((cell_at table a).«from») in
    let step : by_pointers (reverse (take (i + 1) tables)) (Some a) ≡ a ∷ rest = ap (λ ts. by_pointers ts (Some a)) (reverse-take tables i table at) in
    let count : length rest ≡ i = let e = ap length (sym step) ∙ p.count in omega (arith, e) in
    let back : length (reverse rest) ≡ i = length-reverse rest ∙ count in
    sym (get_or-take (i + 1) (reverse whole) i 0 (omega arith)) ∙ ap (λ ys. get_or ys i 0) (p.same ∙ ap reverse step ∙ reverse-append (a ∷ []) rest)
    ∙ ap (λ k. get_or (reverse rest ++ a ∷ []) k 0) (sym back) ∙ get_or-append_seam (reverse rest) a [] 0

best-rank : {L : Type 0} (t : Trellis L) (xs : List L) (tables : List (List Cell)) (mask : ℕ → ℕ) (low i r c j : ℕ) (known : List ℕ) → IsTabled t xs tables → AreMasksFrom low tables mask (length xs)
    → low ≤ i → i < length xs → IsOnlyRank (mask i) r → IsBestTo t (reverse xs) j c known → get_or (reverse (j ∷ known)) i 0 ≡ r
best-rank t xs tables mask low i r c j known h masks high lt only best =
    let s = setting t xs tables h in
    let v = best_in t (reverse xs) tables (last_of tables) j c known s best in
    let p = (tells t xs tables mask low i h masks high lt).covers j v.0 in
    ap (λ ys. get_or (reverse ys) i 0) v.1
    ∙ rank-passed tables (chain tables j) i p.0 (get_or tables i []) (at-get_or tables i [] (omega (arith, lt, h.count))) p.2 ∙ only.1 p.0 p.1

best-ends : {L : Type 0} (t : Trellis L) (layers : List L) (c : ℕ) (ranks : List ℕ) → 0 < length layers → IsBest t layers c ranks → (j : ℕ) × (known : List ℕ) × (ranks ≡ j ∷ known) × IsBestTo t layers j c known
best-ends t [] c ranks some best = absurd (omega (arith, some))
best-ends t (l ∷ layers) c ranks some best = ends-in t l layers c ranks best

pub chosen-single : {L : Type 0} (t : Trellis L) (xs : List L) (tables : List (List Cell)) (mask : ℕ → ℕ) (low i r c : ℕ) (ranks : List ℕ) → IsTabled t xs tables → AreMasksFrom low tables mask (length xs)
    → low ≤ i → i < length xs → IsOnlyRank (mask i) r → IsBest t (reverse xs) c (reverse ranks) → get_or ranks i 0 ≡ r
chosen-single t xs tables mask low i r c ranks h masks high lt only best =
    let some = h.some in
    let e = best-ends t (reverse xs) c (reverse ranks) (omega (arith, some, length-reverse xs)) best in
    ap (λ ys. get_or ys i 0) (sym (reverse-reverse ranks) ∙ ap reverse e.2) ∙ best-rank t xs tables mask low i r c e.0 e.1 h masks high lt only e.3

-- where one rank is left at a point, all sequences pass it
pub passed-single : {L : Type 0} (t : Trellis L) (xs : List L) (tables : List (List Cell)) (mask : ℕ → ℕ) (low i r j : ℕ) → IsTabled t xs tables → AreMasksFrom low tables mask (length xs)
    → low ≤ i → i < length xs → IsOnlyRank (mask i) r → IsLive (last_of tables) j → get_or (reverse (chain tables j)) i 0 ≡ r
passed-single t xs tables mask low i r j h masks high lt only live =
    let p = (tells t xs tables mask low i h masks high lt).covers j live in
    rank-passed tables (chain tables j) i p.0 (get_or tables i []) (at-get_or tables i [] (omega (arith, lt, h.count))) p.2 ∙ only.1 p.0 p.1

-- the sequence has a rank for each point
pub chain-count : {L : Type 0} (t : Trellis L) (xs : List L) (tables : List (List Cell)) (j : ℕ) → IsTabled t xs tables → IsLive (last_of tables) j → length (chain tables j) ≡ length xs
chain-count t xs tables j h live =
    let v = live_in t (reverse xs) tables (last_of tables) j (setting t xs tables h) live in
    ap length (sym v.3) ∙ cost-length t (reverse xs) (j ∷ v.1) v.0 v.2.costs ∙ length-reverse xs
