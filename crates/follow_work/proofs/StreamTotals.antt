-- The total line of streams, and what their whole traces ask for.
use Rattle.std.proofs.Common.{◌≡◌, ◌↔◌, ⊎_elim, ℕ, ◌+◌, ◌<◌, ◌^◌, Bool, true, false, cond, List, [], ◌∷◌, ◌++◌, Some, None, refl, sym, ap, ◌∙◌, subst, arith, length, map, nat_eq, unwrap_or}
use Rattle.std.proofs.lemmas.Bool.{or_cases, or_left, or_right}
use Rattle.std.specs.Prelude.{Contains}
use Rattle.std.specs.List.{AllByRecursion, IsDistinct, concat, sum_by}
use Rattle.std.specs.Map.{keys_of, lookup}
use Rattle.std.proofs.lemmas.Bool.Decides.{nat_tests}
use Rattle.std.proofs.lemmas.List.{append_assoc, length-map}
use Rattle.std.proofs.lemmas.List.Sums.{sum_by-cons}
use Rattle.std.proofs.lemmas.Map.Keys.{IsDistinct-head, IsDistinct-tail}
use Rattle.bounded_table.specs.Known.{IsKnownList}
use Rattle.bounded_table.specs.Rows.{AreRowsOf, AsksOnly, RowsState}
use Rattle.bounded_table.proofs.Asking.{still_of}
use Rattle.bounded_table.proofs.Counting.{count_listed}
use Rattle.matching.specs.Layers.{end_of, trellis}
use Rattle.matching.specs.Value.{solution}
use Rattle.matching.proofs.Asking.{is_asked_node-tells}
use Rattle.online_commit.specs.Session.{AsksPoints}
use Rattle.program_frame.specs.Jobs.{position_count}
use Rattle.program_frame.specs.Total.{total_line}
use Rattle.program_frame.specs.declared.total.Tally.{Tally}
use Rattle.trace_match.specs.Match.{asks, layer_of, layers_of, match_of}
use Rattle.trace_reader.specs.declared.trace.Fix.{Fix}
use Rattle.trace_reader.specs.declared.trace.Trace.{Trace}
use Rattle.trace_sessions.specs.Sessions.{RepresentsPairs, Pair, SessionsState, fixes_of}
use Rattle.trace_sessions.specs.StreamText.{closing_lines, trace_of}
use Rattle.trace_sessions.specs.Streaming.{AsksSome, CanStream, EndsPairs, pieces_of_all, pieces_told}
use Rattle.trace_sessions.proofs.StreamLines.{few-pieces}
use Rattle.trace_match.specs.Setting.{Setting}
use Rattle.program_frame.specs.Counts.{total_of}
use Rattle.trace_match.specs.Totals.{is_asked_by, piece_count, asked_count}
use Rattle.follow_work.specs.Streams.{pairs_in_order, stream_ending, whole_traces}
use Rattle.follow_work.specs.inside.StreamsDone.{HasStreamed, KnowsSome}
use Rattle.follow_work.proofs.StreamTakes.{at-setting, nothing-asked, pairs-count}

-- ---- sums over whole traces

pub whole-sum : (f : Trace → ℕ) (pairs : List Pair) → sum_by f (map trace_of pairs) ≡ sum_by (λ (q : Pair). f (trace_of q)) pairs
whole-sum f [] = refl
whole-sum f (x ∷ pairs) =
    sum_by-cons f (trace_of x) (map trace_of pairs)
    ∙ ap (λ k. f (trace_of x) + k) (whole-sum f pairs)
    ∙ sym (sum_by-cons (λ (q : Pair). f (trace_of q)) x pairs)

whole-points : (traces : List Trace) → position_count (whole_traces traces) ≡ position_count traces
whole-points traces = whole-sum (λ trace. length trace.fixes) (pairs_in_order traces) ∙ pairs-count traces

whole-pieces : (on : Setting) (traces : List Trace) → piece_count on (whole_traces traces) ≡ pieces_of_all on.network on.params (pairs_in_order traces)
whole-pieces on traces = whole-sum (λ trace. length (match_of on.network on.params trace).pieces) (pairs_in_order traces)

-- ---- what whole traces ask for

pub tells : (on : Setting) (trace : Trace) (v : ℕ) → AsksPoints on.network on.params (layers_of on.network on.params trace) v ↔ (asks on.network on.params trace v ≡ true)
unfolding asks
tells on trace v =
    let n = on.network in
    let p = on.params in
    let layers = layers_of n p trace in
    is_asked_node-tells (trellis n p) (end_of n) layers (solution (trellis n p) layers).pieces v

-- the match of these fixes asks for the row
abbrev pub Ask : Setting → ℕ → List Fix → Type 0
Ask on v fixes = AsksPoints on.network on.params (map (layer_of on.network on.params) fixes) v

-- an id that differs from all has no pair
pub absent : (k : ℕ) (pairs : List Pair) → AllByRecursion (λ y. nat_eq k y ≡ false) (keys_of pairs) → lookup (nat_eq k) pairs ≡ None
absent k [] all = refl
absent k (x ∷ pairs) all = ap (λ b. cond b (Some x.1) (lookup (nat_eq k) pairs)) all.0 ∙ absent k pairs all.1

pub some-asks : (on : Setting) (v : ℕ) (pairs : List Pair) (id : ℕ) → Ask on v (fixes_of pairs id) → is_asked_by on (map trace_of pairs) v ≡ true
some-asks on v [] id asked = nothing-asked on v _ asked
some-asks on v (x ∷ pairs) id asked = step (nat_eq id x.0) asked (some-asks on v pairs id)
  where
    own : Bool
    own = asks on.network on.params (trace_of x) v

    step : (b : Bool) → Ask on v (unwrap_or (cond b (Some x.1) (lookup (nat_eq id) pairs)) []) → (Ask on v (fixes_of pairs id) → is_asked_by on (map trace_of pairs) v ≡ true)
        → is_asked_by on (map trace_of (x ∷ pairs)) v ≡ true
    step true here rest = or_left own (is_asked_by on (map trace_of pairs) v) ((tells on (trace_of x) v).0 here)
    step false here rest = or_right own (is_asked_by on (map trace_of pairs) v) (rest here)

pub asked-some : (on : Setting) (v : ℕ) (pairs : List Pair) → IsDistinct nat_eq (keys_of pairs) → is_asked_by on (map trace_of pairs) v ≡ true → (id : ℕ) × Ask on v (fixes_of pairs id)
asked-some on v [] different is = absurd cc
asked-some on v (x ∷ pairs) different is =
    ⊎_elim
    (λ own. (x.0, subst (Ask on v) (sym here) ((tells on (trace_of x) v).1 own)))
    (λ rest.
    let later = asked-some on v pairs (IsDistinct-tail nat_eq x.0 (keys_of pairs) different) rest in
    (later.0, step later.0 (nat_eq later.0 x.0) refl later.1))
    (or_cases (asks on.network on.params (trace_of x) v) (is_asked_by on (map trace_of pairs) v) is)
  where
    here : fixes_of (x ∷ pairs) x.0 ≡ x.1
    here = let e : nat_eq x.0 x.0 ≡ true = grind (arith, nat_tests) in ap (λ b. unwrap_or (cond b (Some x.1) (lookup (nat_eq x.0) pairs)) []) e

    none : fixes_of pairs x.0 ≡ []
    none = ap (λ o. unwrap_or o []) (absent x.0 pairs (IsDistinct-head nat_eq x.0 (keys_of pairs) different))

    step : (id : ℕ) (b : Bool) → nat_eq id x.0 ≡ b → Ask on v (fixes_of pairs id) → Ask on v (unwrap_or (cond b (Some x.1) (lookup (nat_eq id) pairs)) [])
    step id true same asked =
        let is_own : id ≡ x.0 = grind (arith, nat_tests) in
        nothing-asked on v _ (subst (Ask on v) (ap (fixes_of pairs) is_own ∙ none) asked)
    step id false other asked = asked

-- exactly what the whole traces ask for is known
whole-known : (on : Setting) (s : SessionsState) (taken : List Trace) (known : List ℕ) → s.network ≡ on.network → s.params ≡ on.params → RepresentsPairs s (pairs_in_order taken) → KnowsSome s (pairs_in_order taken) known
    → (v : ℕ) → Contains known v ↔ (is_asked_by on (whole_traces taken) v ≡ true)
whole-known on s taken known network params keeps knows v =
    let pairs = pairs_in_order taken in (
      λ has.
          let some = (knows v).0 has in
          some-asks on v pairs some.0 (at-setting (λ m q. AsksPoints m q (map (layer_of m q) (fixes_of pairs some.0)) v) on s network params some.1),
      λ is.
          let some = asked-some on v pairs keeps.different is in
          (knows v).1 (
            some.0,
            subst (λ m. AsksPoints m s.params (map (layer_of m s.params) (fixes_of pairs some.0)) v) (sym network)
                (subst (λ q. AsksPoints on.network q (map (layer_of on.network q) (fixes_of pairs some.0)) v) (sym params) some.1),
          ),
    )

-- ---- the end

pub can-end : (on : Setting) (s : SessionsState) (rows : RowsState) (tally : Tally) (taken : List Trace) → HasStreamed on s rows tally taken → CanStream s 0
can-end on s rows tally taken has = record {
  pairs = pairs_in_order taken;
  keeps = has.stands;
  lawful = has.lawful;
  few =
      let few = has.few in
      let count = pairs-count taken in
      omega (arith, few, count);
}

all-pieces : (on : Setting) (s : SessionsState) (rows : RowsState) (tally : Tally) (taken : List Trace) (old new : List ℕ) (pieces : ℕ) → HasStreamed on s rows tally taken → EndsPairs s (pairs_in_order taken) old new pieces
    → tally.pieces + pieces ≡ pieces_of_all on.network on.params (pairs_in_order taken)
all-pieces on s rows tally taken old new pieces has ends =
    ap (λ k. k + pieces) has.pieces_are
    ∙ sym (at-setting (λ m q. pieces_of_all m q (pairs_in_order taken) ≡ pieces_told m q (pairs_in_order taken) + pieces) on s has.network has.params ends.counted)

pub few-in-all : (on : Setting) (s : SessionsState) (rows : RowsState) (tally : Tally) (taken : List Trace) (old new : List ℕ) (pieces : ℕ) → HasStreamed on s rows tally taken → EndsPairs s (pairs_in_order taken) old new pieces
    → tally.pieces + pieces < 2 ^ 62
few-in-all on s rows tally taken old new pieces has ends =
    let all = all-pieces on s rows tally taken old new pieces has ends in
    let most = few-pieces on.network on.params (pairs_in_order taken) has.accepted has.lawful in
    let count = pairs-count taken in
    let few = has.few in
    omega (arith, all, most, count, few)

-- the rows after the end are counted
rows-counted : (on : Setting) (s : SessionsState) (rows rows' : RowsState) (tally : Tally) (taken : List Trace) → HasStreamed on s rows tally taken → AsksOnly rows rows' (AsksSome s (pairs_in_order taken))
    → IsKnownList rows'.network rows'.known → length rows'.known ≡ asked_count on (whole_traces taken)
rows-counted on s rows rows' tally taken has asks listed =
    let are : AreRowsOf rows' on.network on.params.bound = still_of asks.keeps has.rows_are in
    let knows : KnowsSome s (pairs_in_order taken) rows'.known = λ v. (
      λ now. ⊎_elim (λ old. (has.asked v).0 old) (λ asked. asked) (asks.nothing_else v now),
      λ asked. asks.keeps.known v ((has.asked v).1 asked),
    ) in
    let inside = subst (λ n. IsKnownList n rows'.known) are.network listed in
    count_listed (length on.network.nodes) rows'.known (is_asked_by on (whole_traces taken)) inside.rising inside.nodes
    (λ v low. whole-known on s taken rows'.known has.network has.params has.stands knows v)

total-is : (on : Setting) (s : SessionsState) (rows rows' : RowsState) (tally : Tally) (taken : List Trace) (ids pieces count : ℕ) (old new : List ℕ) → HasStreamed on s rows tally taken
    → EndsPairs s (pairs_in_order taken) old new pieces → AsksOnly rows rows' (AsksSome s (pairs_in_order taken)) → IsKnownList rows'.network rows'.known → count ≡ length rows'.known → ids ≡ length (pairs_in_order taken)
    → total_line ids tally.points (tally.pieces + pieces) count ≡ total_of (piece_count on) (asked_count on) (whole_traces taken)
total-is on s rows rows' tally taken ids pieces count old new has ends asks listed counted ids_are =
    let whole = whole_traces taken in
    ap (λ n. total_line n tally.points (tally.pieces + pieces) count) (ids_are ∙ sym (length-map (pairs_in_order taken) trace_of))
    ∙ ap (λ n. total_line (length whole) n (tally.pieces + pieces) count) (has.points_are ∙ sym (whole-points taken))
    ∙ ap (λ n. total_line (length whole) (position_count whole) n count) (all-pieces on s rows tally taken old new pieces has ends ∙ sym (whole-pieces on taken))
    ∙ ap (total_line (length whole) (position_count whole) (piece_count on whole)) (counted ∙ rows-counted on s rows rows' tally taken has asks listed)

-- the last lines and the total line were written
pub ending-is : (on : Setting) (s : SessionsState) (rows rows' : RowsState) (tally : Tally) (taken : List Trace) (ids pieces count : ℕ) (old new : List ℕ) → HasStreamed on s rows tally taken
    → EndsPairs s (pairs_in_order taken) old new pieces → AsksOnly rows rows' (AsksSome s (pairs_in_order taken)) → IsKnownList rows'.network rows'.known → count ≡ length rows'.known → ids ≡ length (pairs_in_order taken)
    → new ++ total_line ids tally.points (tally.pieces + pieces) count ≡ old ++ stream_ending on taken
ending-is on s rows rows' tally taken ids pieces count old new has ends asks listed counted ids_are =
    let lines = concat (closing_lines on.network on.params (pairs_in_order taken)) in
    let written = at-setting (λ m q. new ≡ old ++ concat (closing_lines m q (pairs_in_order taken))) on s has.network has.params ends.written in
    ap (λ t. t ++ total_line ids tally.points (tally.pieces + pieces) count) written
    ∙ ap (λ t. (old ++ lines) ++ t) (total-is on s rows rows' tally taken ids pieces count old new has ends asks listed counted ids_are)
    ∙ append_assoc old lines (total_of (piece_count on) (asked_count on) (whole_traces taken))
