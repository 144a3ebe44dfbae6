-- What following a trace makes known.
use Rattle.std.proofs.Common.{◌≡◌, ◌⊎◌, ℕ, ◌+◌, ◌<◌, arith, length, take, drop, get_or, true, List, [], ◌∷◌, ◌++◌, Result, Ok, OnOk, sym, ◌∙◌, ap, subst, ⊎_elim}
use Rattle.std.specs.Prelude.{Contains}
use Rattle.std.proofs.lemmas.List.{take-append-drop}
use Rattle.bounded_table.specs.Rows.{AreRowsOf, AsksAll, AsksOnly, RowsState}
use Rattle.bounded_table.proofs.Asking.{all_by, asks_known, only_by, only_then, still_of}
use Rattle.cost_model.specs.declared.params.Params.{Params}
use Rattle.road_network.specs.Net.{Net}
use Rattle.matching.specs.declared.parts.Layer.{Layer}
use Rattle.matching.specs.Layers.{end_of, trellis}
use Rattle.matching.specs.Value.{solution}
use Rattle.matching.proofs.Asking.{is_asked_node-tells}
use Rattle.matching.proofs.CommittedValues.{whole}
use Rattle.trace_match.specs.Match.{asks, layer_of, layers_of}
use Rattle.trace_reader.specs.declared.trace.Fix.{Fix}
use Rattle.trace_reader.specs.declared.trace.Trace.{Trace}
use Rattle.online_commit.specs.Session.{AsksFed, AsksFinished, AsksPoints, Session, RepresentsLayers}
use Rattle.online_commit.proofs.Asking.{asks-more}
use Rattle.trace_sessions.proofs.FollowedPoints.{first_layers, turn_layers}

-- no points ask for nothing
no_asks : (n : Net) (p : Params) (v : ℕ) → AsksPoints n p [] v → ⊥
unfolding solution
no_asks n p v (q, (k, low, is), at) = absurd (omega (arith, low))

pub none_asked : (n : Net) (p : Params) (rows : RowsState) → AsksAll rows rows (AsksPoints n p [])
none_asked n p rows = asks_known (λ v asked. absurd (no_asks n p v asked))

-- the rows are still those that the session takes
pub session_rows : (n : Net) (p : Params) (s : Session) (first now : RowsState) (asked : ℕ → Type 0) → s.network ≡ n → s.params ≡ p → AreRowsOf first n p.bound → AsksAll first now asked
    → AreRowsOf now s.network s.params.bound
session_rows n p s first now asked network params are asks =
    let still = still_of asks.only.keeps are in
    record { network = still.network ∙ sym network; bound = still.bound ∙ sym (ap (λ (q : Params). q.bound) params) }

-- the same, by the network and the options of the session
by_session : {first now : RowsState} (n : Net) (p : Params) (s : Session) (layers : List Layer) → s.network ≡ n → s.params ≡ p → AsksAll first now (AsksPoints n p layers)
    → AsksAll first now (AsksPoints s.network s.params layers)
by_session {first = first} {now = now} n p s layers network params asks =
    subst (λ (m : Net). AsksAll first now (AsksPoints m s.params layers)) (sym network)
    (subst (λ (q : Params). AsksAll first now (AsksPoints n q layers)) (sym params) asks)

by_names : {first now : RowsState} (n : Net) (p : Params) (s : Session) (layers : List Layer) → s.network ≡ n → s.params ≡ p → AsksAll first now (AsksPoints s.network s.params layers)
    → AsksAll first now (AsksPoints n p layers)
by_names {first = first} {now = now} n p s layers network params asks =
    subst (λ (m : Net). AsksAll first now (AsksPoints m p layers)) network
    (subst (λ (q : Params). AsksAll first now (AsksPoints s.network q layers)) params asks)

-- one point more was fed
pub next_asked : {A E : Type 0} {first old new : RowsState} {result : Result A E} {x : A} (n : Net) (p : Params) (s : Session) (fed : List Layer) (l : Layer) → s.network ≡ n → s.params ≡ p
    → RepresentsLayers s fed → AsksAll first old (AsksPoints n p fed) → AsksFed s l old result new → result ≡ Ok x → AsksAll first new (AsksPoints n p (fed ++ l ∷ []))
next_asked {first = first} {new = new} n p s fed l network params stands before asks is =
    let one = by_session n p s fed network params before in
    let two = asks.only fed stands in
    let all = subst (λ r. OnOk r ((front : List Layer) (v : ℕ) → RepresentsLayers s front → AsksPoints s.network s.params (front ++ l ∷ []) v
    → AsksPoints s.network s.params front v ⊎ Contains new.known v)) is asks.all in
    let both : AsksAll first new (AsksPoints s.network s.params (fed ++ l ∷ [])) = record {
      only = only_then one.only two (λ v h. ⊎_elim (λ asked. asks-more s.network s.params fed (l ∷ []) (whole (trellis s.network s.params) fed) v asked) (λ asked. asked) h);
      all = λ v asked. ⊎_elim (λ earlier. two.keeps.known v (one.all v earlier)) (λ known. known) (all fed v stands asked);
    } in
    by_names n p s (fed ++ l ∷ []) network params both

-- all points were fed, and the trace has ended
pub all_asked : {first old new : RowsState} (n : Net) (p : Params) (trace : Trace) (s : Session) → s.network ≡ n → s.params ≡ p → RepresentsLayers s (layers_of n p trace)
    → AsksAll first old (AsksPoints n p (layers_of n p trace)) → AsksFinished s old new → AsksAll first new (λ v. asks n p trace v ≡ true)
unfolding asks
all_asked {first = first} {new = new} n p trace s network params stands before asked_last =
    let layers = layers_of n p trace in
    let one = by_session n p s layers network params before in
    let two = asked_last.only layers stands in
    let both : AsksAll first new (AsksPoints s.network s.params layers) = record {
      only = only_then one.only two (λ v h. ⊎_elim (λ asked. asked) (λ asked. asked) h);
      all = λ v asked. two.keeps.known v (one.all v asked);
    } in
    let tells = is_asked_node-tells (trellis n p) (end_of n) layers (solution (trellis n p) layers).pieces in
    all_by (by_names n p s layers network params both) (λ v asked. (tells v).0 asked) (λ v is. (tells v).1 is)

-- ---- where following ends early

-- the first points of a trace ask for no more than the trace
first_tells : (n : Net) (p : Params) (trace : Trace) (i v : ℕ) → AsksPoints n p (first_layers n p trace i) v → asks n p trace v ≡ true
unfolding asks
first_tells n p trace i v asked =
    let layers = layers_of n p trace in
    let front = take i layers in
    let every : AsksPoints n p layers v =
    subst (λ ls. AsksPoints n p ls v) (take-append-drop i layers) (asks-more n p front (drop i layers) (whole (trellis n p) front) v asked) in
    (is_asked_node-tells (trellis n p) (end_of n) layers (solution (trellis n p) layers).pieces v).0 every

pub first_asked : {old new : RowsState} (n : Net) (p : Params) (trace : Trace) (i : ℕ) → AsksOnly old new (AsksPoints n p (first_layers n p trace i)) → AsksOnly old new (λ v. asks n p trace v ≡ true)
first_asked n p trace i only = only_by only (λ v asked. first_tells n p trace i v asked)

-- the points of a session, by other names of its network and options, ask behind these first ones
asked_then : {first old new : RowsState} (n : Net) (p : Params) (trace : Trace) (s : Session) (i k : ℕ) → s.network ≡ n → s.params ≡ p → AsksAll first old (AsksPoints n p (first_layers n p trace i))
    → AsksOnly old new (AsksPoints s.network s.params (first_layers n p trace k)) → AsksOnly first new (λ v. asks n p trace v ≡ true)
asked_then {old = old} {new = new} n p trace s i k network params before own =
    let fed = first_layers n p trace k in
    let named : AsksOnly old new (AsksPoints n p fed) =
    subst (λ (m : Net). AsksOnly old new (AsksPoints m p fed)) network
    (subst (λ (q : Params). AsksOnly old new (AsksPoints s.network q fed)) params own) in
    only_then (first_asked n p trace i before.only) (first_asked n p trace k named) (λ v either. ⊎_elim (λ asked. asked) (λ asked. asked) either)

-- a point was fed, or was refused
pub fed_asked : {A E : Type 0} {first old new : RowsState} {result : Result A E} (n : Net) (p : Params) (trace : Trace) (fixes : List Fix) (i : ℕ) (d : Fix) (layer : Layer) (s : Session)
    → fixes ≡ trace.fixes → i < length fixes → layer ≡ layer_of n p (get_or fixes i d) → s.network ≡ n → s.params ≡ p → RepresentsLayers s (first_layers n p trace i)
    → AsksAll first old (AsksPoints n p (first_layers n p trace i)) → AsksFed s layer old result new → AsksOnly first new (λ v. asks n p trace v ≡ true)
fed_asked {old = old} {new = new} n p trace fixes i d layer s all low is network params stands before asks =
    asked_then n p trace s i (i + 1) network params before
    (subst (λ ls. AsksOnly old new (AsksPoints s.network s.params ls)) (sym (turn_layers n p trace fixes i d layer all low is)) (asks.only (first_layers n p trace i) stands))

-- the session was finished, or was not
pub last_asked : {first old new : RowsState} (n : Net) (p : Params) (trace : Trace) (i : ℕ) (s : Session) → s.network ≡ n → s.params ≡ p → RepresentsLayers s (first_layers n p trace i)
    → AsksAll first old (AsksPoints n p (first_layers n p trace i)) → AsksFinished s old new → AsksOnly first new (λ v. asks n p trace v ≡ true)
last_asked n p trace i s network params stands before asks =
    asked_then n p trace s i i network params before (asks.only (first_layers n p trace i) stands)
