-- The end of all ids, one after the other.
use Rattle.std.proofs.Common.{◌≡◌, ⊎_elim, ℕ, ◌+◌, ◌<◌, ◌^◌, true, false, cond, List, [], ◌∷◌, ◌++◌, Some, refl, sym, ap, ◌∙◌, subst, arith, length, map, nat_eq, unwrap_or}
use Rattle.std.specs.List.{AllByRecursion, IsDistinct, concat}
use Rattle.std.specs.Map.{keys_of, lookup}
use Rattle.std.proofs.lemmas.Bool.Decides.{nat_tests}
use Rattle.std.proofs.lemmas.List.{append_assoc, append-nil, take_at, drop_at}
use Rattle.std.proofs.lemmas.List.Concat.{flat_map-append}
use Rattle.std.proofs.lemmas.List.Elements.{All-drop, All-head, All-take}
use Rattle.std.proofs.lemmas.List.Folds.{concat-append}
use Rattle.std.proofs.lemmas.List.Sums.{sum_by-append}
use Rattle.std.proofs.lemmas.Map.Keys.{IsDistinct-head, IsDistinct-tail}
use Rattle.cost_model.specs.declared.params.Params.{Params}
use Rattle.cost_model.specs.Options.{IsAccepted}
use Rattle.road_network.specs.Net.{Net}
use Rattle.bounded_table.specs.Rows.{RowsState, AreRowsOf, AsksOnly}
use Rattle.bounded_table.proofs.Asking.{asks_nothing, only_then, still_of}
use Rattle.trace_match.specs.Match.{layer_of, match_of}
use Rattle.trace_reader.specs.declared.trace.Fix.{Fix}
use Rattle.trace_reader.specs.Trace.{IsLawfulTrace}
use Rattle.online_commit.specs.Items.{handed}
use Rattle.online_commit.specs.Session.{AsksFinished, AsksPoints, Session, RepresentsLayers}
use Rattle.trace_sessions.specs.Calls.{IsEmpty}
use Rattle.trace_sessions.specs.Following.{pieces_among}
use Rattle.trace_sessions.specs.ItemText.{AddsPrefix}
use Rattle.trace_sessions.specs.Sessions.{IsPairOf, IsSessionOf, RepresentsPairs, KeepsEach, Pair, SessionsState, fixes_of}
use Rattle.trace_sessions.specs.StreamText.{closing_lines, lines_at_end, trace_of}
use Rattle.trace_sessions.specs.Streaming.{AreLawful, AsksSome, CanStream, EndsPair, EndsPairs, fixes_in, pieces_of_all, pieces_told}
use Rattle.trace_sessions.specs.inside.SessionsInside.{CanEnd}
use Rattle.trace_sessions.proofs.StreamLines.{few-pieces}
use Rattle.trace_sessions.proofs.Written.{adds-first, adds-then}

-- ---- the fixes of an id that stands once

key_apart : (P : ℕ → Type 0) (front back : List Pair) (x : Pair) → AllByRecursion P (keys_of (front ++ x ∷ back)) → P x.0
key_apart P [] back x all = all.0
key_apart P (e ∷ front) back x all = key_apart P front back x all.1

lookup-there : (front back : List Pair) (x : Pair) → IsDistinct nat_eq (keys_of (front ++ x ∷ back)) → lookup (nat_eq x.0) (front ++ x ∷ back) ≡ Some x.1
lookup-there [] back x different = let e : nat_eq x.0 x.0 ≡ true = grind (arith, nat_tests) in ap (λ b. cond b (Some x.1) (lookup (nat_eq x.0) back)) e
lookup-there (e ∷ front) back x different =
    let apart : nat_eq e.0 x.0 ≡ false = key_apart (λ y. nat_eq e.0 y ≡ false) front back x (IsDistinct-head nat_eq e.0 (keys_of (front ++ x ∷ back)) different) in
    let other : nat_eq x.0 e.0 ≡ false = grind (arith, nat_tests) in
    ap (λ b. cond b (Some e.1) (lookup (nat_eq x.0) (front ++ x ∷ back))) other
    ∙ lookup-there front back x (IsDistinct-tail nat_eq e.0 (keys_of (front ++ x ∷ back)) different)

-- ---- the loop over the sessions

-- the front of the pairs was ended, and these are the sessions of those behind it
pub record EndsFront (s : SessionsState) (pairs : List Pair) (left : List (ℕ × Session)) (t0 t : List ℕ) (r0 r : RowsState) (pieces : ℕ) : Type 0 where
  pub front : List Pair
  pub back : List Pair
  pub parts : pairs ≡ front ++ back
  pub each : KeepsEach s.network s.params left back
  pub written : t ≡ t0 ++ concat (closing_lines s.network s.params front)
  pub counted : pieces_of_all s.network s.params front ≡ pieces_told s.network s.params front + pieces
  pub asks : AsksOnly r0 r (AsksSome s pairs)

abbrev pub HasEnded : SessionsState → List (ℕ × Session) → List ℕ → List ℕ → RowsState → RowsState → ℕ → Type 0
HasEnded s left t0 t r0 r pieces = (pairs : List Pair) → RepresentsPairs s pairs → EndsFront s pairs left t0 t r0 r pieces

pub none-ended : (s : SessionsState) (left : List (ℕ × Session)) (t : List ℕ) (r : RowsState) → left ≡ s.sessions → HasEnded s left t t r r 0
none-ended s left t r is pairs keeps = record {
  front = [];
  back = pairs;
  parts = refl;
  each = subst (λ es. KeepsEach s.network s.params es pairs) (sym is) keeps.each;
  written = sym (append-nil t);
  counted = refl;
  asks = asks_nothing r (AsksSome s pairs);
}

-- the pair of the next session
pub record NextPair (s : SessionsState) (pairs front back : List Pair) (id : ℕ) (session : Session) (left : List (ℕ × Session)) : Type 0 where
  pub pair : Pair
  pub rest : List Pair
  pub parts : back ≡ pair ∷ rest
  pub is : IsPairOf s.network s.params (id, session) pair
  pub each : KeepsEach s.network s.params left rest

next_case : (s : SessionsState) (pairs front back : List Pair) (id : ℕ) (session : Session) (left : List (ℕ × Session)) → KeepsEach s.network s.params ((id, session) ∷ left) back
    → NextPair s pairs front back id session left
next_case s pairs front [] id session left each = absurd each
next_case s pairs front (x ∷ rest) id session left each = record { pair = x; rest = rest; parts = refl; is = each.0; each = each.1 }

next-pair : (s : SessionsState) (pairs : List Pair) (whole left : List (ℕ × Session)) (id : ℕ) (session : Session) (t0 t : List ℕ) (r0 r : RowsState) (pieces : ℕ)
    → whole ≡ (id, session) ∷ left → (has : EndsFront s pairs whole t0 t r0 r pieces) → NextPair s pairs has.front has.back id session left
next-pair s pairs whole left id session t0 t r0 r pieces is has =
    next_case s pairs has.front has.back id session left (subst (λ es. KeepsEach s.network s.params es has.back) is has.each)

pub own-params : (n : Net) (p : Params) (s : Session) (fixes : List Fix) → IsSessionOf n p s fixes → IsSessionOf n s.params s fixes
own-params n p s fixes is = record { network = is.network; params = refl; stands = subst (λ q. RepresentsLayers s (map (layer_of n q) fixes)) (sym is.params) is.stands }

lawful-there : (front back : List Pair) (x : Pair) → AreLawful (front ++ x ∷ back) → IsLawfulTrace (trace_of x)
lawful-there front back x are =
    let behind = subst AreLawful (drop_at front (x ∷ back) (length front) refl) (All-drop (λ (q : Pair). IsLawfulTrace (trace_of q)) (length front) (front ++ x ∷ back) are) in
    All-head (λ (q : Pair). IsLawfulTrace (trace_of q)) x back behind

pub same_trace : (a b : ℕ) (fixes : List Fix) → IsLawfulTrace (trace_of (a, fixes)) → IsLawfulTrace (trace_of (b, fixes))
same_trace a b fixes is = record { some = is.some; few = is.few; in_range = is.in_range }

pub ended-can : (s : SessionsState) (net : Net) (more : ℕ) (whole left : List (ℕ × Session)) (id : ℕ) (session : Session) (t0 t : List ℕ) (r0 r : RowsState) (pieces : ℕ) → net ≡ s.network
    → IsAccepted s.params → CanStream s more → whole ≡ (id, session) ∷ left → HasEnded s whole t0 t r0 r pieces → CanEnd net session id
ended-can s net more whole left id session t0 t r0 r pieces network accepted can is has =
    let front = has can.pairs can.keeps in
    let next = next-pair s can.pairs whole left id session t0 t r0 r pieces is front in
    let lawful = lawful-there front.front next.rest next.pair (subst AreLawful (front.parts ∙ ap (λ ps. front.front ++ ps) next.parts) can.lawful) in
    record {
      fixes = next.pair.1;
      is = subst (λ m. IsSessionOf m session.params session next.pair.1) (sym network) (own-params s.network s.params session next.pair.1 next.is.session);
      lawful = same_trace next.pair.0 id next.pair.1 lawful;
      accepted = subst IsAccepted (sym next.is.session.params) accepted;
    }

pub ended-rows : (s : SessionsState) (net : Net) (more : ℕ) (whole left : List (ℕ × Session)) (id : ℕ) (session : Session) (t0 t : List ℕ) (r0 r : RowsState) (pieces : ℕ) → net ≡ s.network
    → AreRowsOf r0 s.network s.params.bound → CanStream s more → whole ≡ (id, session) ∷ left → HasEnded s whole t0 t r0 r pieces → AreRowsOf r net session.params.bound
ended-rows s net more whole left id session t0 t r0 r pieces network are can is has =
    let front = has can.pairs can.keeps in
    let next = next-pair s can.pairs whole left id session t0 t r0 r pieces is front in
    let still = still_of front.asks.keeps are in
    record { network = still.network ∙ sym network; bound = still.bound ∙ sym (ap (λ (q : Params). q.bound) next.is.session.params) }

-- the session of a pair asks for no more than the pair
ended-asks : (s : SessionsState) (pairs front rest : List Pair) (pair : Pair) (id : ℕ) (session : Session) (r r' : RowsState) → pairs ≡ front ++ pair ∷ rest → IsDistinct nat_eq (keys_of pairs)
    → IsPairOf s.network s.params (id, session) pair → AsksFinished session r r' → AsksOnly r r' (AsksSome s pairs)
ended-asks s pairs front rest pair id session r r' parts different is asks =
    let fixes = pair.1 in
    let fed = map (layer_of s.network s.params) fixes in
    let there : fixes_of pairs pair.0 ≡ fixes =
    ap (λ ps. fixes_of ps pair.0) parts ∙ ap (λ o. unwrap_or o []) (lookup-there front rest pair (subst (λ ps. IsDistinct nat_eq (keys_of ps)) parts different)) in
    let own = asks.only fed is.session.stands in
    let named : AsksOnly r r' (AsksPoints s.network s.params fed) =
    subst (λ m. AsksOnly r r' (AsksPoints m s.params fed)) is.session.network (subst (λ q. AsksOnly r r' (AsksPoints session.network q fed)) is.session.params own) in
    only_then (asks_nothing r (AsksSome s pairs)) named
    (λ v either. ⊎_elim (λ asked. asked)
    (λ asked. (pair.0, subst (λ fs. AsksPoints s.network s.params (map (layer_of s.network s.params) fs) v) (sym there) asked)) either)

-- one more was ended
pub ended-next : (s : SessionsState) (net : Net) (whole left : List (ℕ × Session)) (id : ℕ) (session : Session) (t0 t t' : List ℕ) (r0 r r' : RowsState) (pieces count : ℕ) → net ≡ s.network
    → whole ≡ (id, session) ∷ left → HasEnded s whole t0 t r0 r pieces → ((fixes : List Fix) → IsSessionOf net session.params session fixes → EndsPair net session.params (id, fixes) t t' count)
    → AsksFinished session r r' → HasEnded s left t0 t' r0 r' (pieces + count)
ended-next s net whole left id session t0 t t' r0 r r' pieces count network is has ends asks pairs keeps =
    let n = s.network in
    let p = s.params in
    let old = has pairs keeps in
    let next = next-pair s pairs whole left id session t0 t r0 r pieces is old in
    let x = next.pair in
    let own = subst (λ m. IsSessionOf m session.params session x.1) (sym network) (own-params n p session x.1 next.is.session) in
    let ended : EndsPair n p x t t' count =
    subst (λ k. EndsPair n p (k, x.1) t t' count) next.is.id
    (subst (λ m. EndsPair m p (id, x.1) t t' count) network (subst (λ q. EndsPair net q (id, x.1) t t' count) next.is.session.params (ends x.1 own))) in
    let lines = closing_lines n p old.front in
    let all : closing_lines n p (old.front ++ x ∷ []) ≡ lines ++ lines_at_end n p x =
    flat_map-append (lines_at_end n p) old.front (x ∷ []) ∙ ap (λ ls. lines ++ ls) (append-nil (lines_at_end n p x)) in
    let whole_parts : pairs ≡ old.front ++ x ∷ next.rest = old.parts ∙ ap (λ ps. old.front ++ ps) next.parts in
    let told = sum_by-append (λ (q : Pair). pieces_among (handed n p (map (layer_of n p) q.1))) old.front (x ∷ []) in
    let every = sum_by-append (λ (q : Pair). length (match_of n p (trace_of q)).pieces) old.front (x ∷ []) in
    let before = old.counted in
    let here = ended.counted in
    record {
      front = old.front ++ x ∷ [];
      back = next.rest;
      parts = whole_parts ∙ sym (append_assoc old.front (x ∷ []) next.rest);
      each = next.each;
      written =
          ended.written ∙ ap (λ u. u ++ concat (lines_at_end n p x)) old.written ∙ append_assoc t0 (concat lines) (concat (lines_at_end n p x))
          ∙ ap (λ u. t0 ++ u) (sym (concat-append lines (lines_at_end n p x)) ∙ ap concat (sym all));
      counted = omega (arith, told, every, before, here);
      asks = only_then old.asks (ended-asks s pairs old.front next.rest x id session r r' whole_parts keeps.different next.is asks) (λ v either. ⊎_elim (λ asked. asked) (λ asked. asked) either);
    }

-- where one was not ended
pub ended-err : (s : SessionsState) (whole left : List (ℕ × Session)) (id : ℕ) (session : Session) (t0 t : List ℕ) (r0 r r' : RowsState) (pieces : ℕ) → whole ≡ (id, session) ∷ left
    → HasEnded s whole t0 t r0 r pieces → AsksFinished session r r' → (pairs : List Pair) → RepresentsPairs s pairs → AsksOnly r0 r' (AsksSome s pairs)
ended-err s whole left id session t0 t r0 r r' pieces is has asks pairs keeps =
    let old = has pairs keeps in
    let next = next-pair s pairs whole left id session t0 t r0 r pieces is old in
    only_then old.asks
    (ended-asks s pairs old.front next.rest next.pair id session r r' (old.parts ∙ ap (λ ps. old.front ++ ps) next.parts) keeps.different next.is asks)
    (λ v either. ⊎_elim (λ asked. asked) (λ asked. asked) either)

-- and of its lines a prefix was written
pub ended-cut : (s : SessionsState) (net : Net) (whole left : List (ℕ × Session)) (id : ℕ) (session : Session) (t0 t t' : List ℕ) (r0 r : RowsState) (pieces : ℕ) → net ≡ s.network
    → whole ≡ (id, session) ∷ left → HasEnded s whole t0 t r0 r pieces
    → ((fixes : List Fix) → IsSessionOf net session.params session fixes → AddsPrefix t (concat (lines_at_end net session.params (id, fixes))) t')
    → (pairs : List Pair) → RepresentsPairs s pairs → AddsPrefix t0 (concat (closing_lines s.network s.params pairs)) t'
ended-cut s net whole left id session t0 t t' r0 r pieces network is has cut pairs keeps =
    let n = s.network in
    let p = s.params in
    let old = has pairs keeps in
    let next = next-pair s pairs whole left id session t0 t r0 r pieces is old in
    let x = next.pair in
    let own = subst (λ m. IsSessionOf m session.params session x.1) (sym network) (own-params n p session x.1 next.is.session) in
    let ended : AddsPrefix t (concat (lines_at_end n p x)) t' =
    subst (λ k. AddsPrefix t (concat (lines_at_end n p (k, x.1))) t') next.is.id
    (subst (λ m. AddsPrefix t (concat (lines_at_end m p (id, x.1))) t') network (subst (λ q. AddsPrefix t (concat (lines_at_end net q (id, x.1))) t') next.is.session.params (cut x.1 own))) in
    let lines = closing_lines n p old.front in
    let rest = closing_lines n p next.rest in
    let whole_parts : pairs ≡ old.front ++ x ∷ next.rest = old.parts ∙ ap (λ ps. old.front ++ ps) next.parts in
    let all : concat (closing_lines n p pairs) ≡ concat lines ++ (concat (lines_at_end n p x) ++ concat rest) =
    ap (λ ps. concat (closing_lines n p ps)) whole_parts
    ∙ ap concat (flat_map-append (lines_at_end n p) old.front (x ∷ next.rest))
    ∙ concat-append lines (lines_at_end n p x ++ rest)
    ∙ ap (λ u. concat lines ++ u) (concat-append (lines_at_end n p x) rest) in
    subst (λ more. AddsPrefix t0 more t') (sym all)
    (adds-then t0 (concat lines) (concat (lines_at_end n p x) ++ concat rest) t t' old.written (adds-first t (concat (lines_at_end n p x)) (concat rest) t' ended))

-- the number of pieces stays in its range
pub ended-few : (s : SessionsState) (more : ℕ) (left : List (ℕ × Session)) (t0 t : List ℕ) (r0 r : RowsState) (pieces : ℕ) → IsAccepted s.params → CanStream s more → HasEnded s left t0 t r0 r pieces → pieces < 2 ^ 62
ended-few s more left t0 t r0 r pieces accepted can has =
    let old = has can.pairs can.keeps in
    let lawful = subst AreLawful (take_at old.front old.back (length old.front) refl)
    (All-take (λ (q : Pair). IsLawfulTrace (trace_of q)) (length old.front) (old.front ++ old.back) (subst AreLawful old.parts can.lawful)) in
    let most = few-pieces s.network s.params old.front accepted lawful in
    let sum = ap fixes_in old.parts ∙ sum_by-append (λ (q : Pair). length q.1) old.front old.back in
    let few = can.few in
    let counted = old.counted in
    omega (arith, most, sum, few, counted)

none_left : (n : Net) (p : Params) (left : List (ℕ × Session)) (back : List Pair) → left ≡ [] → KeepsEach n p left back → back ≡ []
none_left n p [] [] is each = refl
none_left n p [] (x ∷ back) is each = absurd each
none_left n p (e ∷ left) back is each = absurd cc

pub all-ended : (s : SessionsState) (left : List (ℕ × Session)) (t0 t : List ℕ) (r0 r : RowsState) (pieces : ℕ) → left ≡ [] → HasEnded s left t0 t r0 r pieces
    → (pairs : List Pair) → RepresentsPairs s pairs → EndsPairs s pairs t0 t pieces
all-ended s left t0 t r0 r pieces none has pairs keeps =
    let old = has pairs keeps in
    let front : old.front ≡ pairs = sym (old.parts ∙ ap (λ ps. old.front ++ ps) (none_left s.network s.params left old.back none old.each) ∙ append-nil old.front) in
    record {
      written = old.written ∙ ap (λ ps. t0 ++ concat (closing_lines s.network s.params ps)) front;
      counted = sym (ap (pieces_of_all s.network s.params) front) ∙ old.counted ∙ ap (λ ps. pieces_told s.network s.params ps + pieces) front;
    }

no-keys : IsDistinct nat_eq (keys_of {K = ℕ} {X = List Fix} [])
unfolding IsDistinct
no-keys = tt

-- sessions of which none is left
pub emptied : (s : SessionsState) (net : Net) (p : Params) (es : List (ℕ × Session)) → net ≡ s.network → p ≡ s.params → es ≡ []
    → IsEmpty s.network s.params (record { network = net; params = p; sessions = es })
emptied s net p es network params none = record {
  network = network;
  params = params;
  none = record { each = subst (λ (l : List (ℕ × Session)). KeepsEach net p l []) (sym none) tt; different = no-keys };
}
