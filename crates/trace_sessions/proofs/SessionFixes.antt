-- What is done to the session of one id, in the words of its fixes.
use Rattle.std.proofs.Common.{◌≡◌, ◌⊎◌, inl, inr, ℕ, suc, ◌+◌, ◌<◌, ◌≤◌, List, [], ◌∷◌, ◌++◌, Option, Some, None, Result, Ok, Err, IfOk, IfErr, OnOk, OnErr, IsErr, IsSome, refl, sym, ap, subst, ◌∙◌, arith, length, map, take, drop, nat_eq, unwrap_or, length-append}
use Rattle.std.specs.Prelude.{Contains}
use Rattle.std.specs.List.{IsDistinct}
use Rattle.std.specs.Map.{keys_of, lookup, set_value}
use Rattle.std.specs.Option.{option_map}
use Rattle.std.proofs.lemmas.List.{drop_at, length-map, map-append, take_all, take_at}
use Rattle.std.proofs.lemmas.Map.Steps.{set_value_same}
use Rattle.polyline_geometry.specs.Plane.{InRange}
use Rattle.cost_model.specs.declared.params.Params.{Params}
use Rattle.cost_model.specs.Options.{IsAccepted}
use Rattle.road_network.specs.Net.{Net}
use Rattle.bounded_table.specs.Rows.{RowsState, AreRowsOf, AsksOnly}
use Rattle.bounded_table.proofs.Asking.{asks_nothing, keeps_itself}
use Rattle.trace_reader.specs.declared.trace.Fix.{Fix}
use Rattle.trace_reader.specs.Trace.{point_of_fix}
use Rattle.matching.specs.declared.parts.Layer.{Layer}
use Rattle.matching.proofs.CandidateLayers.{candidates_narrow, layer_of_candidates}
use Rattle.trace_match.specs.Match.{layer_of}
use Rattle.online_commit.specs.declared.items.Item.{Item}
use Rattle.online_commit.specs.Items.{handed, items_of}
use Rattle.online_commit.specs.Session.{AsksFed, AsksFinished, AsksPoints, FeedsLayer, IsFedLayer, Session, RepresentsLayers, no_points_of, fed_position_count}
use Rattle.online_commit.proofs.Opened.{opened-stands}
use Rattle.trace_sessions.specs.declared.sessions.SessionFault.{SessionFault}
use Rattle.trace_sessions.specs.declared.sessions.SessionFault.TheVariants.{Memory, NotOpen, TooLong}
use Rattle.trace_sessions.specs.FollowText.{handed_at}
use Rattle.trace_sessions.specs.Sessions.{AsksClosed, AsksFedTo, ClosesSession, HasPair, IsCloseFault, IsFeedFault, IsSessionOf, RepresentsPairs, KeepsEach, Pair, SessionsState, TakesFix, fixes_and, fixes_of, length_of, with_fix, without_pair}
use Rattle.trace_sessions.specs.inside.SessionsInside.{AreOf, FeedsAt, FinishesAt, session_at, session_in}
use Rattle.trace_sessions.proofs.SessionPairs.{Both, are-at, are-insert, kept-insert, kept-keys, kept-lookup, kept-remove, set-inserts}

abbrev pub state : Net → Params → List (ℕ × Session) → SessionsState
state n p es = record { network = n; params = p; sessions = es }

abbrev layers : Net → Params → List Fix → List Layer
layers n p fixes = map (layer_of n p) fixes

pub fed-layer : (n : Net) (p : Params) (fix : Fix) → IsAccepted p → InRange (point_of_fix fix) → IsFedLayer n p (layer_of n p fix)
fed-layer n p fix accepted place = record {
  layer = layer_of_candidates n p (layer_of n p fix) place refl;
  few = candidates_narrow n p (layer_of n p fix) accepted refl;
}

-- what holds of a session's network and options
carry : (P : Net → Params → Type 0) {m n : Net} {q p : Params} → m ≡ n → q ≡ p → P m q → P n p
carry P {m} {n} {q} {p} net par h = subst (λ (x : Net). P x p) net (subst (λ (y : Params). P m y) par h)

pub opened-is : (n : Net) (p : Params) (opened : Session) → opened ≡ no_points_of n p → IsSessionOf n p opened []
opened-is n p opened is =
    subst (λ (s : Session). IsSessionOf n p s []) (sym is) (record { network = refl; params = refl; stands = opened-stands n p })

in_case : (n : Net) (p : Params) (d : Session) → IsSessionOf n p d [] → (a : Option Session) (b : Option (List Fix)) → Both n p a b → IsSessionOf n p (unwrap_or a d) (unwrap_or b [])
in_case n p d own None None h = own
in_case n p d own None (Some f) h = absurd h
in_case n p d own (Some s) None h = absurd h
in_case n p d own (Some s) (Some f) h = h.0

-- the session of the id, or a new one, stands for its fixes
pub stands-in : (n : Net) (p : Params) (id : ℕ) (es : List (ℕ × Session)) (pairs : List Pair) (d : Session) → IsSessionOf n p d [] → RepresentsPairs (state n p es) pairs
    → IsSessionOf n p (session_at es id d) (fixes_of pairs id)
stands-in n p id es pairs d own h =
    in_case n p d own (lookup (nat_eq id) es) (lookup (nat_eq id) pairs) (kept-lookup n p id es pairs h.each)

pub count_of : (n : Net) (p : Params) (s : Session) (fixes : List Fix) → IsSessionOf n p s fixes → fed_position_count s ≡ length fixes
count_of n p s fixes is = is.stands.count ∙ length-map fixes (layer_of n p)

one_more : (n : Net) (p : Params) (fixes : List Fix) (fix : Fix) (l : Layer) → l ≡ layer_of n p fix → layers n p (fixes ++ fix ∷ []) ≡ layers n p fixes ++ l ∷ []
one_more n p fixes fix l is = map-append (layer_of n p) fixes (fix ∷ []) ∙ ap (λ (x : Layer). layers n p fixes ++ x ∷ []) (sym is)

fed_to : (n : Net) (p : Params) (s t : Session) (fixes : List Fix) (fix : Fix) (l : Layer) (items : List Item) → IsSessionOf n p s fixes → l ≡ layer_of n p fix → FeedsLayer s l t items
    → IsSessionOf n p t (fixes ++ fix ∷ [])
fed_to n p s t fixes fix l items is same fed = record {
  network = fed.network ∙ is.network;
  params = fed.params ∙ is.params;
  stands = subst (RepresentsLayers t) (sym (one_more n p fixes fix l same)) (fed.stands (layers n p fixes) is.stands);
}

handed_to : (n : Net) (p : Params) (s t : Session) (fixes : List Fix) (fix : Fix) (l : Layer) (items : List Item) → IsSessionOf n p s fixes → l ≡ layer_of n p fix → FeedsLayer s l t items
    → handed n p (layers n p (fixes ++ fix ∷ [])) ≡ handed n p (layers n p fixes) ++ items
handed_to n p s t fixes fix l items is same fed =
    ap (handed n p) (one_more n p fixes fix l same)
    ∙ carry (λ (m : Net) (q : Params). handed m q (layers n p fixes ++ l ∷ []) ≡ handed m q (layers n p fixes) ++ items) is.network is.params
    (fed.handed_on (layers n p fixes) is.stands)

-- what the fix makes certain is what is handed out with it
handed-here : (n : Net) (p : Params) (fixes : List Fix) (fix : Fix) (items : List Item)
    → handed n p (layers n p (fixes ++ fix ∷ [])) ≡ handed n p (layers n p fixes) ++ items → items ≡ handed_at n p (layers n p (fixes ++ fix ∷ [])) (length fixes)
handed-here n p fixes fix items grown =
    let all = layers n p (fixes ++ fix ∷ []) in
    let count : length (layers n p fixes) ≡ length fixes = length-map fixes (layer_of n p) in
    let long : length all ≡ length fixes + 1 = length-map (fixes ++ fix ∷ []) (layer_of n p) ∙ length-append fixes (fix ∷ []) in
    let front : take (length fixes) all ≡ layers n p fixes = ap (take (length fixes)) (map-append (layer_of n p) fixes (fix ∷ [])) ∙ take_at (layers n p fixes) (layer_of n p fix ∷ []) (length fixes) count in
    let whole_is : take (suc (length fixes)) all ≡ all = take_all (suc (length fixes)) all (omega (arith, long)) in
    sym (ap (λ ls. drop (length (handed n p ls)) (handed n p (take (suc (length fixes)) all))) front
    ∙ ap (λ ls. drop (length (handed n p (layers n p fixes))) (handed n p ls)) whole_is
    ∙ ap (drop (length (handed n p (layers n p fixes)))) grown
    ∙ drop_at (handed n p (layers n p fixes)) items (length (handed n p (layers n p fixes))) refl)

-- ---- feed

-- a new session or that of the id is of this network and these options
at_id : (n : Net) (p : Params) (id : ℕ) (es : List (ℕ × Session)) (d : Session) → AreOf n p es → d ≡ no_points_of n p → ((session_at es id d).network ≡ n) × ((session_at es id d).params ≡ p)
at_id n p id es d are is = are-at n p id es d are (ap (λ (s : Session). s.network) is) (ap (λ (s : Session). s.params) is)

pub rows-fed : (rows : RowsState) (n : Net) (p : Params) (id : ℕ) (es : List (ℕ × Session)) (d : Session) → AreOf n p es → d ≡ no_points_of n p → AreRowsOf rows n p.bound
    → AreRowsOf rows (session_at es id d).network (session_at es id d).params.bound
rows-fed rows n p id es d are is rows-are =
    let at = at_id n p id es d are is in
    carry (λ (m : Net) (q : Params). AreRowsOf rows m q.bound) (sym at.0) (sym at.1) rows-are

pub layer-fed : (n : Net) (p : Params) (id : ℕ) (es : List (ℕ × Session)) (d : Session) (fix : Fix) (l : Layer) → AreOf n p es → d ≡ no_points_of n p → IsAccepted p → InRange (point_of_fix fix)
    → l ≡ layer_of n p fix → IsFedLayer (session_at es id d).network (session_at es id d).params l
layer-fed n p id es d fix l are is accepted place same =
    let at = at_id n p id es d are is in
    carry (λ (m : Net) (q : Params). IsFedLayer m q l) (sym at.0) (sym at.1) (subst (IsFedLayer n p) (sym same) (fed-layer n p fix accepted place))

pub few-fed : (n : Net) (p : Params) (id : ℕ) (es : List (ℕ × Session)) (d : Session) → d ≡ no_points_of n p → fed_position_count (session_in (state n p es) id) < 100_000 → fed_position_count (session_at es id d) < 100_000
few-fed n p id es d is few = subst (λ (s : Session). fed_position_count (session_at es id s) < 100_000) (sym is) few

pub are-taken : (n : Net) (p : Params) (id : ℕ) (es new : List (ℕ × Session)) (d : Session) (l : Layer) (items : List Item) → AreOf n p es → d ≡ no_points_of n p → FeedsAt es id d l new items → AreOf n p new
are-taken n p id es new d l items are is fed =
    let at = at_id n p id es d are is in
    subst (AreOf n p) (sym fed.entries) (are-insert n p id es fed.session are (fed.fed.network ∙ at.0) (fed.fed.params ∙ at.1))

-- the session of the id took the layer
pub feeds-at : {E : Type 0} (id : ℕ) (es new : List (ℕ × Session)) (d was now : Session) (l : Layer) (result : Result (List Item) E) → lookup (nat_eq id) es ≡ Some was → IfOk result (FeedsLayer was l now)
    → new ≡ set_value (nat_eq id) es now → IsDistinct nat_eq (keys_of new) → IfOk result (FeedsAt es id d l new)
feeds-at id es new d was now l (Ok items) found fed written different = record {
  session = now;
  fed = subst (λ (o : Option Session). FeedsLayer (unwrap_or o d) l now items) (sym found) fed;
  entries = written ∙ set-inserts id es now was found;
  different = different;
}
feeds-at id es new d was now l (Err e) found fed written different = tt

-- or stayed as it was
pub stays-at : {A E : Type 0} (id : ℕ) (es new : List (ℕ × Session)) (was now : Session) (result : Result A E) → lookup (nat_eq id) es ≡ Some was → OnErr result (now ≡ was)
    → new ≡ set_value (nat_eq id) es now → OnErr result (new ≡ es)
stays-at id es new was now (Ok x) found same written = tt
stays-at id es new was now (Err e) found same written =
    written ∙ ap (set_value (nat_eq id) es) same ∙ set_value_same (nat_eq id) es was found

pub takes : (n : Net) (p : Params) (id : ℕ) (fix : Fix) (es new : List (ℕ × Session)) (d : Session) (l : Layer) (items : List Item) → IsSessionOf n p d [] → l ≡ layer_of n p fix
    → fed_position_count (session_at es id d) < 100_000 → FeedsAt es id d l new items → TakesFix (state n p es) id fix (state n p new) items
takes n p id fix es new d l items own same few at =
    let s = session_at es id d in
    record {
      network = refl;
      params = refl;
      room = λ pairs h.
          let count = count_of n p s (fixes_of pairs id) (stands-in n p id es pairs d own h) in
          omega (arith, count, few);
      stands = λ pairs h.
          let now = fed_to n p s at.session (fixes_of pairs id) fix l items (stands-in n p id es pairs d own h) same at.fed in
          let some : 0 < length (fixes_and pairs id fix) = omega (arith, length-append (fixes_of pairs id) (fix ∷ [])) in
          let each = subst (λ (xs : List (ℕ × Session)). KeepsEach n p xs (with_fix pairs id fix)) (sym at.entries)
          (kept-insert n p id es pairs at.session (fixes_and pairs id fix) h.each now some) in
          record { each = each; different = subst (IsDistinct nat_eq) (kept-keys n p new (with_fix pairs id fix) each) at.different };
      handed_on = λ pairs h. handed_to n p s at.session (fixes_of pairs id) fix l items (stands-in n p id es pairs d own h) same at.fed;
      are = λ pairs h. handed-here n p (fixes_of pairs id) fix items (handed_to n p s at.session (fixes_of pairs id) fix l items (stands-in n p id es pairs d own h) same at.fed);
    }

pub too-long : (n : Net) (p : Params) (id : ℕ) (es : List (ℕ × Session)) → 100_000 ≤ fed_position_count (session_at es id (no_points_of n p)) → IsFeedFault (state n p es) id (TooLong id)
too-long n p id es many = inr (
  refl,
  λ pairs h.
      let count = count_of n p (session_at es id (no_points_of n p)) (fixes_of pairs id) (stands-in n p id es pairs (no_points_of n p) (opened-is n p (no_points_of n p) refl) h) in
      omega (arith, count, many),
)

asked_fed : (n : Net) (p : Params) (s : Session) (fixes : List Fix) (fix : Fix) (l : Layer) → IsSessionOf n p s fixes → l ≡ layer_of n p fix → (P : (ℕ → Type 0) → Type 0)
    → P (AsksPoints s.network s.params (layers n p fixes ++ l ∷ [])) → P (AsksPoints n p (layers n p (fixes ++ fix ∷ [])))
asked_fed n p s fixes fix l is same P h =
    subst (λ (ls : List Layer). P (AsksPoints n p ls)) (sym (one_more n p fixes fix l same))
    (carry (λ (m : Net) (q : Params). P (AsksPoints m q (layers n p fixes ++ l ∷ []))) is.network is.params h)

pub feed-asks : {A E F : Type 0} (n : Net) (p : Params) (id : ℕ) (fix : Fix) (es : List (ℕ × Session)) (d : Session) (l : Layer) (rows new : RowsState) (result : Result A E) (told : Result A F)
    → IsSessionOf n p d [] → l ≡ layer_of n p fix → AsksFed (session_at es id d) l rows result new → ((P : Type 0) → OnOk result P → OnOk told P)
    → AsksFedTo (state n p es) id fix rows told new
feed-asks n p id fix es d l rows new result told own same asks on =
    let s = session_at es id d in
    record {
      keeps = asks.keeps;
      only = λ pairs h.
          let is = stands-in n p id es pairs d own h in
          asked_fed n p s (fixes_of pairs id) fix l is same (λ (Q : ℕ → Type 0). AsksOnly rows new Q) (asks.only (layers n p (fixes_of pairs id)) is.stands);
      all = on _ (on_ok result (λ all pairs v h.
          let is = stands-in n p id es pairs d own h in
          asked_fed n p s (fixes_of pairs id) fix l is same (λ (Q : ℕ → Type 0). Q v → AsksPoints n p (layers n p (fixes_of pairs id)) v ⊎ Contains new.known v)
          (carry (λ (m : Net) (q : Params). AsksPoints s.network s.params (layers n p (fixes_of pairs id) ++ l ∷ []) v → AsksPoints m q (layers n p (fixes_of pairs id)) v ⊎ Contains new.known v) is.network is.params
          (all (layers n p (fixes_of pairs id)) v is.stands))) asks.all);
    }
  where
    on_ok : {A E : Type 0} {P Q : Type 0} (r : Result A E) → (P → Q) → OnOk r P → OnOk r Q
    on_ok (Ok x) f h = f h
    on_ok (Err e) f h = tt

pub no-ok : {A E : Type 0} (result : Result A E) (P : Type 0) → IsErr result → OnOk result P
no-ok (Ok x) P h = absurd (cc)
no-ok (Err e) P h = tt

-- a call that asked for nothing
pub asks-none : {A E : Type 0} (s : SessionsState) (id : ℕ) (fix : Fix) (rows : RowsState) (told : Result A E) → IsErr told → AsksFedTo s id fix rows told rows
asks-none s id fix rows told failed = record {
  keeps = keeps_itself rows;
  only = λ pairs h. asks_nothing rows _;
  all = no-ok told _ failed;
}

-- ---- close

pub of_case : (n : Net) (p : Params) (s : Session) (a : Option Session) (b : Option (List Fix)) → Both n p a b → a ≡ Some s → (IsSome b) × IsSessionOf n p s (unwrap_or b [])
of_case n p s None b h e = absurd (cc)
of_case n p s (Some t) None h e = absurd h
of_case n p s (Some t) (Some f) h e =
    let same : t ≡ s = cc in
    (refl, subst (λ (x : Session). IsSessionOf n p x f) same h.0)

pub closes : {E : Type 0} (n : Net) (p : Params) (id : ℕ) (es new : List (ℕ × Session)) (result : Result (List Item) E) → IfOk result (FinishesAt es id new)
    → IfOk result (ClosesSession (state n p es) id (state n p new))
closes n p id es new (Ok items) at =
    let found : (pairs : List Pair) → RepresentsPairs (state n p es) pairs → HasPair pairs id × IsSessionOf n p at.session (fixes_of pairs id) = λ pairs h. of_case n p at.session (lookup (nat_eq id) es) (lookup (nat_eq id) pairs) (kept-lookup n p id es pairs h.each) at.was in
    let rest : (pairs : List Pair) → RepresentsPairs (state n p es) pairs → items_of n p (layers n p (fixes_of pairs id)) ≡ handed n p (layers n p (fixes_of pairs id)) ++ items = λ pairs h.
    let is = (found pairs h).1 in
    carry (λ (m : Net) (q : Params). items_of m q (layers n p (fixes_of pairs id)) ≡ handed m q (layers n p (fixes_of pairs id)) ++ items) is.network is.params
    (at.finished.rest (layers n p (fixes_of pairs id)) is.stands) in
    record {
      network = refl;
      params = refl;
      was_open = λ pairs h. (found pairs h).0;
      stands = λ pairs h.
          let each = subst (λ (xs : List (ℕ × Session)). KeepsEach n p xs (without_pair pairs id)) (sym at.entries) (kept-remove n p id es pairs h.each) in
          record { each = each; different = subst (IsDistinct nat_eq) (kept-keys n p new (without_pair pairs id) each) at.different };
      rest = rest;
      are = λ pairs h.
          let was = handed n p (layers n p (fixes_of pairs id)) in
          sym (ap (drop (length was)) (rest pairs h) ∙ drop_at was items (length was) refl);
    }
closes n p id es new (Err e) at = tt

pub none_case : (n : Net) (p : Params) (a : Option Session) (b : Option (List Fix)) → Both n p a b → a ≡ None → b ≡ None
none_case n p None None h e = refl
none_case n p None (Some f) h e = absurd h
none_case n p (Some s) b h e = absurd (cc)

pub close-fault : {A : Type 0} (n : Net) (p : Params) (id : ℕ) (es : List (ℕ × Session)) (result : Result A SessionFault)
    → IfErr result (λ (fault : SessionFault). (fault ≡ Memory) ⊎ ((fault ≡ NotOpen id) × (lookup (nat_eq id) es ≡ None))) → IfErr result (IsCloseFault (state n p es) id)
close-fault n p id es (Ok x) h = tt
close-fault n p id es (Err fault) (inl memory) = inl memory
close-fault n p id es (Err fault) (inr none) =
    inr (none.0, λ pairs h. none_case n p (lookup (nat_eq id) es) (lookup (nat_eq id) pairs) (kept-lookup n p id es pairs h.each) none.1)

pub close-asks : (n : Net) (p : Params) (id : ℕ) (es : List (ℕ × Session)) (rows new : RowsState) → ((d : Session) → AsksFinished (session_at es id d) rows new)
    → AsksClosed (state n p es) id rows new
close-asks n p id es rows new asks =
    let d = no_points_of n p in
    record {
      keeps = (asks d).keeps;
      only = λ pairs h.
          let is = stands-in n p id es pairs d (opened-is n p d refl) h in
          carry (λ (m : Net) (q : Params). AsksOnly rows new (AsksPoints m q (layers n p (fixes_of pairs id)))) is.network is.params
          ((asks d).only (layers n p (fixes_of pairs id)) is.stands);
    }

-- ---- what is read

length_case : (n : Net) (p : Params) (a : Option Session) (b : Option (List Fix)) → Both n p a b → option_map fed_position_count a ≡ option_map length b
length_case n p None None h = refl
length_case n p None (Some f) h = absurd h
length_case n p (Some s) None h = absurd h
length_case n p (Some s) (Some f) h = ap (λ (k : ℕ). Some k) (count_of n p s f h.0)

pub length-in : (n : Net) (p : Params) (id : ℕ) (es : List (ℕ × Session)) (pairs : List Pair) → RepresentsPairs (state n p es) pairs
    → option_map fed_position_count (lookup (nat_eq id) es) ≡ length_of pairs id
length-in n p id es pairs h = length_case n p (lookup (nat_eq id) es) (lookup (nat_eq id) pairs) (kept-lookup n p id es pairs h.each)

pub on-err : {A E P : Type 0} (result : Result A E) → P → OnErr result P
on-err (Ok x) h = tt
on-err (Err e) h = h
