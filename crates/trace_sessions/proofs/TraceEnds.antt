-- The end of the trace of one id among sessions.
use Rattle.std.proofs.Common.{◌≡◌, ℕ, Bool, true, false, cond, List, [], ◌∷◌, Option, Some, None, Result, IsSome, refl, sym, ap, ◌∙◌, subst, nat_eq, unwrap_or}
use Rattle.std.specs.List.{AllByRecursion, IsDistinct}
use Rattle.std.specs.Map.{keys_of, lookup, remove_entry}
use Rattle.std.proofs.lemmas.List.Elements.{All-head, All-tail}
use Rattle.std.proofs.lemmas.Map.Keys.{IsDistinct-cons, IsDistinct-head, IsDistinct-tail}
use Rattle.cost_model.specs.declared.params.Params.{Params}
use Rattle.cost_model.specs.Options.{IsAccepted}
use Rattle.road_network.specs.Net.{Net}
use Rattle.bounded_table.specs.Rows.{RowsState, AreRowsOf}
use Rattle.trace_reader.specs.declared.trace.Fix.{Fix}
use Rattle.trace_reader.specs.Trace.{IsLawfulTrace}
use Rattle.online_commit.specs.Session.{AsksFinished, Session}
use Rattle.trace_sessions.specs.Sessions.{AsksClosed, HasPair, IsSessionOf, RepresentsPairs, KeepsEach, Pair, SessionsState, fixes_of, without_pair}
use Rattle.trace_sessions.specs.StreamText.{trace_of}
use Rattle.trace_sessions.specs.Streaming.{AreLawful, CanStream, EndsNone, EndsOne, EndsTrace}
use Rattle.trace_sessions.specs.inside.SessionsInside.{AreOf, CanEnd}
use Rattle.trace_sessions.proofs.SessionPairs.{are-remove, kept-lookup, kept-remove}
use Rattle.trace_sessions.proofs.SessionFixes.{close-asks, none_case, of_case, state}
use Rattle.trace_sessions.proofs.StreamEnds.{own-params, same_trace}

-- ---- ids that differ still do where one is gone

all-removed : {V : Type 0} (P : ℕ → Type 0) (test : ℕ → Bool) (es : List (ℕ × V)) → AllByRecursion P (keys_of es) → AllByRecursion P (keys_of (remove_entry test es))
all-removed P test [] all = tt
all-removed {V} P test (e ∷ es) all = step (test e.0) (all-removed P test es all.1)
  where
    step : (b : Bool) → AllByRecursion P (keys_of (remove_entry test es)) → AllByRecursion P (keys_of (cond b es (e ∷ remove_entry test es)))
    step true rest = all.1
    step false rest = (all.0, rest)

pub distinct-removed : {V : Type 0} (test : ℕ → Bool) (es : List (ℕ × V)) → IsDistinct nat_eq (keys_of es) → IsDistinct nat_eq (keys_of (remove_entry test es))
distinct-removed test [] different = different
distinct-removed {V} test (e ∷ es) different = step (test e.0) (distinct-removed test es (IsDistinct-tail nat_eq e.0 (keys_of es) different))
  where
    step : (b : Bool) → IsDistinct nat_eq (keys_of (remove_entry test es)) → IsDistinct nat_eq (keys_of (cond b es (e ∷ remove_entry test es)))
    step true rest = IsDistinct-tail nat_eq e.0 (keys_of es) different
    step false rest = IsDistinct-cons nat_eq e.0 (keys_of (remove_entry test es))
        (all-removed (λ y. nat_eq e.0 y ≡ false) test es (IsDistinct-head nat_eq e.0 (keys_of es) different)) rest

-- ---- what the session of the id stands for

abbrev L : Pair → Type 0
L pair = IsLawfulTrace (trace_of pair)

lawful-of : (id : ℕ) (pairs : List Pair) → AreLawful pairs → HasPair pairs id → IsLawfulTrace (trace_of (id, fixes_of pairs id))
lawful-of id [] are has = absurd cc
lawful-of id (e ∷ es) are has = step (nat_eq id e.0) has (lawful-of id es (All-tail L e es are))
  where
    step : (b : Bool) → IsSome (cond b (Some e.1) (lookup (nat_eq id) es)) → (HasPair es id → IsLawfulTrace (trace_of (id, fixes_of es id)))
        → IsLawfulTrace (trace_of (id, unwrap_or (cond b (Some e.1) (lookup (nat_eq id) es)) []))
    step true has rest = same_trace e.0 id e.1 (All-head L e es are)
    step false has rest = rest has

pub found : (s : SessionsState) (pairs : List Pair) (id : ℕ) (session : Session) → RepresentsPairs s pairs → lookup (nat_eq id) s.sessions ≡ Some session
    → HasPair pairs id × IsSessionOf s.network s.params session (fixes_of pairs id)
found s pairs id session keeps is =
    of_case s.network s.params session (lookup (nat_eq id) s.sessions) (lookup (nat_eq id) pairs) (kept-lookup s.network s.params id s.sessions pairs keeps.each) is

pub trace-rows : (s : SessionsState) (net : Net) (id : ℕ) (session : Session) (rows : RowsState) (more : ℕ) → net ≡ s.network → AreRowsOf rows s.network s.params.bound → CanStream s more
    → lookup (nat_eq id) s.sessions ≡ Some session → AreRowsOf rows net session.params.bound
trace-rows s net id session rows more network are can is =
    let own = (found s can.pairs id session can.keeps is).1 in
    record { network = are.network ∙ sym network; bound = are.bound ∙ sym (ap (λ (q : Params). q.bound) own.params) }

pub trace-can : (s : SessionsState) (net : Net) (id : ℕ) (session : Session) (more : ℕ) → net ≡ s.network → IsAccepted s.params → CanStream s more
    → lookup (nat_eq id) s.sessions ≡ Some session → CanEnd net session id
trace-can s net id session more network accepted can is =
    let own = found s can.pairs id session can.keeps is in
    let fixes = fixes_of can.pairs id in
    record {
      fixes = fixes;
      is = subst (λ m. IsSessionOf m session.params session fixes) (sym network) (own-params s.network s.params session fixes own.1);
      lawful = lawful-of id can.pairs can.lawful own.0;
      accepted = subst IsAccepted (sym own.1.params) accepted;
    }

-- ---- what ending it leaves

pub trace-ended : {E : Type 0} (n : Net) (p : Params) (id : ℕ) (es new : List (ℕ × Session)) (session : Session) (pairs : List Pair) (text text' : List ℕ) (result : Result ℕ E)
    → lookup (nat_eq id) es ≡ Some session → new ≡ remove_entry (nat_eq id) es → RepresentsPairs (state n p es) pairs
    → ((fixes : List Fix) → IsSessionOf n session.params session fixes → EndsOne n session.params (id, fixes) text text' result)
    → EndsTrace (state n p es) pairs id (state n p new) text text' result
trace-ended n p id es new session pairs text text' result is gone keeps ends =
    let own = found (state n p es) pairs id session keeps is in
    let fixes = fixes_of pairs id in
    record {
      network = refl;
      params = refl;
      was_open = own.0;
      stands = record {
        each = subst (λ (xs : List (ℕ × Session)). KeepsEach n p xs (without_pair pairs id)) (sym gone) (kept-remove n p id es pairs keeps.each);
        different = distinct-removed (nat_eq id) pairs keeps.different;
      };
      ended = subst (λ q. EndsOne n q (id, fixes) text text' result) own.1.params (ends fixes (own-params n p session fixes own.1));
    }

pub none-ended-here : (n : Net) (p : Params) (id : ℕ) (es new : List (ℕ × Session)) (pairs : List Pair) (text : List ℕ) → lookup (nat_eq id) es ≡ None → new ≡ es → RepresentsPairs (state n p es) pairs
    → EndsNone (state n p es) pairs id (state n p new) text text
none-ended-here n p id es new pairs text none same keeps = record {
  none = none_case n p (lookup (nat_eq id) es) (lookup (nat_eq id) pairs) (kept-lookup n p id es pairs keeps.each) none;
  unchanged = ap (state n p) same;
  written = refl;
}

pub trace-asks : (n : Net) (p : Params) (id : ℕ) (es : List (ℕ × Session)) (session : Session) (rows new : RowsState) → lookup (nat_eq id) es ≡ Some session → AsksFinished session rows new
    → AsksClosed (state n p es) id rows new
trace-asks n p id es session rows new is asks =
    close-asks n p id es rows new (λ d. subst (λ (o : Option Session). AsksFinished (unwrap_or o d) rows new) (sym is) asks)

pub are-gone : (n : Net) (p : Params) (id : ℕ) (es new : List (ℕ × Session)) → new ≡ remove_entry (nat_eq id) es → AreOf n p es → AreOf n p new
are-gone n p id es new gone are = subst (AreOf n p) (sym gone) (are-remove n p id es are)
