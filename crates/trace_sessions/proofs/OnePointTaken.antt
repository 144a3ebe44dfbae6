-- What taking one point of a stream leaves.
use Rattle.std.proofs.Common.{◌≡◌, inl, inr, ℕ, ◌+◌, ◌<◌, ◌≤◌, true, false, cond, List, [], ◌∷◌, ◌++◌, None, Err, refl, sym, ap, ◌∙◌, subst, arith, length, map, nat_lt}
use Rattle.std.specs.List.{concat}
use Rattle.std.proofs.lemmas.Bool.Decides.{nat_tests}
use Rattle.std.proofs.lemmas.List.{append-nil, length-append}
use Rattle.std.proofs.lemmas.List.Elements.{All-append, All-cons}
use Rattle.polyline_geometry.specs.Plane.{InRange}
use Rattle.cost_model.specs.declared.params.Params.{Params}
use Rattle.cost_model.specs.Options.{IsAccepted}
use Rattle.road_network.specs.Net.{Net, IsLawful}
use Rattle.trace_match.specs.Match.{layer_of}
use Rattle.trace_match.proofs.TraceLayers.{matchable}
use Rattle.trace_reader.specs.declared.trace.Fix.{Fix}
use Rattle.trace_reader.specs.Trace.{IsLawfulTrace, point_of_fix}
use Rattle.matching.specs.declared.parts.Layer.{Layer}
use Rattle.online_commit.specs.declared.items.Item.{Item}
use Rattle.online_commit.specs.Items.{handed}
use Rattle.trace_sessions.specs.declared.sessions.SessionFault.{SessionFault}
use Rattle.trace_sessions.specs.declared.sessions.SessionFault.TheVariants.{Memory}
use Rattle.trace_sessions.specs.FollowText.{fix_line, handed_at}
use Rattle.trace_sessions.specs.Following.{pieces_among}
use Rattle.trace_sessions.specs.ItemText.{AddsPrefix, AreItemsOf, item_lines}
use Rattle.trace_sessions.specs.Sessions.{IsFeedFault, RepresentsPairs, Pair, SessionsState, TakesFix, fixes_and, fixes_of, with_fix}
use Rattle.trace_sessions.specs.StreamText.{trace_first_line, has_room, led_by, lines_of_fix, stream_lines, trace_of, with_taken}
use Rattle.trace_sessions.specs.Streaming.{AreLawful, Streams, TakesPoints, pieces_told}
use Rattle.trace_sessions.specs.inside.StreamingInside.{heading, lines_of_items}
use Rattle.trace_sessions.proofs.FollowLines.{none_handed}
use Rattle.trace_sessions.proofs.ItemEdges.{handed_edges}
use Rattle.trace_sessions.proofs.FollowedPoints.{lies_behind}
use Rattle.trace_sessions.proofs.PieceCounts.{among-append}
use Rattle.trace_sessions.proofs.Written.{adds-none}
use Rattle.trace_sessions.proofs.StreamPoints.{none-more, not-full, one-full, sound-at, sum-insert}

abbrev pub layers : Net → Params → List Fix → List Layer
layers n p fixes = map (layer_of n p) fixes

-- what holds of the network and the options of a state
pub of_state : (P : Net → Params → Type 0) {m n : Net} {q p : Params} → m ≡ n → q ≡ p → P m q → P n p
of_state P {m} {n} {q} {p} net par h = subst (λ x. P x p) net (subst (λ y. P m y) par h)

pub add_assoc : (a b c : ℕ) → a + b + c ≡ a + (b + c)
add_assoc a b c = omega arith

-- ---- one point

room-is : (pairs : List Pair) (id : ℕ) → length (fixes_of pairs id) < 100_000 → has_room pairs id ≡ true
room-is pairs id low = let e : nat_lt (length (fixes_of pairs id)) 100_000 ≡ true = grind (arith, nat_tests) in e

room-not : (pairs : List Pair) (id : ℕ) → 100_000 ≤ length (fixes_of pairs id) → has_room pairs id ≡ false
room-not pairs id full = let e : nat_lt (length (fixes_of pairs id)) 100_000 ≡ false = grind (arith, nat_tests) in e

heading-is : (id : ℕ) (fixes : List Fix) → heading id (length fixes) ≡ trace_first_line id fixes
heading-is id [] = refl
heading-is id (fix ∷ fixes) = refl

-- the lines of the items of a point are its lines
pub point-lines : (n : Net) (p : Params) (pairs : List Pair) (id : ℕ) (fix : Fix) (point : ℕ) (items : List Item) → has_room pairs id ≡ true → point ≡ length (fixes_of pairs id)
    → items ≡ handed_at n p (layers n p (fixes_and pairs id fix)) (length (fixes_of pairs id))
    → lines_of_items n id point items ≡ stream_lines n p pairs ((id, fix) ∷ [])
point-lines n p pairs id fix point items room count are =
    let fixes = fixes_of pairs id in
    ap (λ k. led_by id (heading id k ++ fix_line k ∷ item_lines n None items)) count
    ∙ ap (λ ls. led_by id (ls ++ fix_line (length fixes) ∷ item_lines n None items)) (heading-is id fixes)
    ∙ ap (λ xs. led_by id (trace_first_line id fixes ++ fix_line (length fixes) ∷ item_lines n None xs)) are
    ∙ sym (append-nil (led_by id (lines_of_fix n p id fixes fix)))
    ∙ sym (ap (λ b. cond b (led_by id (lines_of_fix n p id fixes fix) ++ []) []) room)

told-with : (n : Net) (p : Params) (pairs : List Pair) (id : ℕ) (fix : Fix) (items : List Item)
    → handed n p (layers n p (fixes_and pairs id fix)) ≡ handed n p (layers n p (fixes_of pairs id)) ++ items
    → pieces_told n p (with_fix pairs id fix) ≡ pieces_told n p pairs + pieces_among items
told-with n p pairs id fix items grown =
    let f : List Fix → ℕ = λ fixes. pieces_among (handed n p (layers n p fixes)) in
    let sum = sum-insert f id (fixes_and pairs id fix) pairs (ap pieces_among (none_handed n p)) in
    let new : f (fixes_and pairs id fix) ≡ f (fixes_of pairs id) + pieces_among items = ap pieces_among grown ∙ among-append (handed n p (layers n p (fixes_of pairs id))) items in
    omega (arith, sum, new)

pub point-taken : (old new : SessionsState) (pairs : List Pair) (id : ℕ) (fix : Fix) (items : List Item) (point count : ℕ) (text text' : List ℕ) → RepresentsPairs old pairs → TakesFix old id fix new items
    → point ≡ length (fixes_of pairs id) → count ≡ pieces_among items → text' ≡ text ++ concat (lines_of_items old.network id point items)
    → TakesPoints old pairs ((id, fix) ∷ []) new text text' count
point-taken old new pairs id fix items point count text text' keeps fed at counted written =
    let n = old.network in
    let p = old.params in
    let room = room-is pairs id (fed.room pairs keeps) in
    let grown = fed.handed_on pairs keeps in
    record {
      network = fed.network;
      params = fed.params;
      room = one-full pairs (id, fix) room;
      stands = fed.stands pairs keeps;
      written = written ∙ ap (λ ls. text ++ concat ls) (point-lines n p pairs id fix point items room at (fed.are pairs keeps));
      counted = told-with n p pairs id fix items grown ∙ ap (λ k. pieces_told n p pairs + k) (sym counted);
    }

-- where its lines were written in part
pub point-cut : (old new : SessionsState) (pairs : List Pair) (id : ℕ) (fix : Fix) (items : List Item) (point : ℕ) (text text' : List ℕ) → RepresentsPairs old pairs → TakesFix old id fix new items
    → point ≡ length (fixes_of pairs id) → AddsPrefix text (concat (lines_of_items old.network id point items)) text' → Streams old pairs ((id, fix) ∷ []) new text text' (Err Memory)
point-cut old new pairs id fix items point text text' keeps fed at cut =
    let room = room-is pairs id (fed.room pairs keeps) in
    let lines = stream_lines old.network old.params pairs ((id, fix) ∷ []) in
    let own : AddsPrefix text (concat lines) text' =
    subst (λ ls. AddsPrefix text (concat ls) text') (point-lines old.network old.params pairs id fix point items room at (fed.are pairs keeps)) cut in
    record {
      whole = [];
      last = (id, fix) ∷ [];
      left = [];
      parts = refl;
      one = omega arith;
      network = fed.network;
      params = fed.params;
      room = one-full pairs (id, fix) room;
      stands = fed.stands pairs keeps;
      written = subst (λ t. AddsPrefix t (concat lines) text') (sym (append-nil text)) own;
    }

pub point-refused : (old new : SessionsState) (pairs : List Pair) (id : ℕ) (fix : Fix) (fault : SessionFault) (text : List ℕ) → RepresentsPairs old pairs → IsFeedFault old id fault → new ≡ old
    → Streams old pairs ((id, fix) ∷ []) new text text (Err fault)
point-refused old new pairs id fix fault text keeps (inl memory) same =
    subst (λ f. Streams old pairs ((id, fix) ∷ []) new text text (Err f)) (sym memory)
    (record {
      whole = [];
      last = [];
      left = (id, fix) ∷ [];
      parts = refl;
      one = omega arith;
      network = ap (λ (s : SessionsState). s.network) same;
      params = ap (λ (s : SessionsState). s.params) same;
      room = refl;
      stands = subst (λ s. RepresentsPairs s pairs) (sym same) keeps;
      written = adds-none (text ++ []) [] text (sym (append-nil text));
    })
point-refused old new pairs id fix fault text keeps (inr full) same =
    let none = room-not pairs id (full.1 pairs keeps) in
    let no_lines : stream_lines old.network old.params pairs ((id, fix) ∷ []) ≡ [] =
    ap (λ b. cond b (led_by id (lines_of_fix old.network old.params id (fixes_of pairs id) fix) ++ []) []) none in
    subst (λ f. Streams old pairs ((id, fix) ∷ []) new text text (Err f)) (sym full.0)
    (record {
      network = ap (λ (s : SessionsState). s.network) same;
      params = ap (λ (s : SessionsState). s.params) same;
      full = not-full pairs (id, fix) none;
      stands = subst (λ s. RepresentsPairs s (with_taken pairs ((id, fix) ∷ []))) (sym same) (subst (RepresentsPairs old) (sym (none-more pairs (id, fix) none)) keeps);
      written = sym (ap (λ ls. text ++ concat ls) no_lines ∙ append-nil text);
    })

-- ---- lawful pairs stay lawful

pub lawful-with : (pairs : List Pair) (id : ℕ) (fix : Fix) → AreLawful pairs → InRange (point_of_fix fix) → length (fixes_of pairs id) < 100_000 → IsLawfulTrace (trace_of (id, fixes_and pairs id fix))
lawful-with pairs id fix are place low =
    let sound = sound-at id pairs are in
    let count = length-append (fixes_of pairs id) (fix ∷ []) in
    record {
      some = omega (arith, count);
      few = omega (arith, count, low);
      in_range = All-append (λ (f : Fix). InRange (point_of_fix f)) (fixes_of pairs id) (fix ∷ []) sound.in-range (All-cons (λ (f : Fix). InRange (point_of_fix f)) fix [] place (λ i d lt. absurd (omega (arith, lt))));
    }

-- the items of a point are items of the network
pub items-lie : (n : Net) (p : Params) (pairs : List Pair) (id : ℕ) (fix : Fix) (items : List Item) → IsLawful n → IsAccepted p → AreLawful pairs → InRange (point_of_fix fix)
    → length (fixes_of pairs id) < 100_000 → handed n p (layers n p (fixes_and pairs id fix)) ≡ handed n p (layers n p (fixes_of pairs id)) ++ items → AreItemsOf n items
items-lie n p pairs id fix items lawful accepted are place low grown =
    let trace = trace_of (id, fixes_and pairs id fix) in
    let is = lawful-with pairs id fix are place low in
    let all = handed_edges n p (layers n p (fixes_and pairs id fix)) lawful (matchable n p trace (layers n p (fixes_and pairs id fix)) accepted is refl) in
    lies_behind n (handed n p (layers n p (fixes_of pairs id))) items (subst (AreItemsOf n) grown all)
