-- The lines of a point and of the end of an id, as they are written.
use Rattle.std.proofs.Common.{◌≡◌, ℕ, zero, suc, ◌+◌, ◌<◌, ◌≤◌, List, [], ◌∷◌, ◌++◌, Some, None, refl, sym, ap, ◌∙◌, subst, arith, length, map, drop}
use Rattle.std.specs.List.{concat}
use Rattle.std.proofs.lemmas.List.{append_assoc, append-nil, map-append}
use Rattle.std.proofs.lemmas.List.Elements.{All-head, All-tail}
use Rattle.std.proofs.lemmas.List.Folds.{concat-append}
use Rattle.std.proofs.lemmas.List.Sums.{sum_by-cons}
use Rattle.cost_model.specs.declared.params.Params.{Params}
use Rattle.cost_model.specs.Options.{IsAccepted}
use Rattle.road_network.specs.Net.{Net, IsLawful}
use Rattle.match_text.specs.MatchText.{end_line, trace_line}
use Rattle.trace_match.specs.Match.{layer_of, match_of}
use Rattle.trace_match.proofs.Lawful.{match_lawful}
use Rattle.trace_match.proofs.TraceLayers.{matchable}
use Rattle.trace_reader.specs.declared.trace.Fix.{Fix}
use Rattle.trace_reader.specs.Trace.{IsLawfulTrace}
use Rattle.online_commit.specs.declared.items.Item.{Item}
use Rattle.online_commit.specs.Items.{handed, items_of}
use Rattle.online_commit.specs.Session.{IsFinished, Session}
use Rattle.trace_sessions.specs.FollowText.{finish_line, fix_line, left_of}
use Rattle.trace_sessions.specs.Following.{pieces_among}
use Rattle.trace_sessions.specs.ItemText.{AddsPrefix, AreItemsOf, item_line, item_lines, lead_of}
use Rattle.trace_sessions.specs.Sessions.{IsSessionOf, Pair}
use Rattle.trace_sessions.specs.StreamText.{led_by, lines_at_end, trace_of}
use Rattle.trace_sessions.specs.Streaming.{AreLawful, fixes_in, pieces_of_all, pieces_told}
use Rattle.trace_sessions.specs.inside.StreamingInside.{heading, lines_of_items, rest_lines, step_lines}
use Rattle.trace_sessions.proofs.FollowLines.{left_behind}
use Rattle.trace_sessions.proofs.FollowedPoints.{drop_behind, lies_behind}
use Rattle.trace_sessions.proofs.ItemEdges.{items_edges}
use Rattle.trace_sessions.proofs.PieceCounts.{among-append, count_match}
use Rattle.trace_sessions.proofs.Written.{adds-first, adds-then, led-only}

abbrev lead : ℕ → List ℕ
lead id = lead_of (Some id)

-- ---- with the id before each

led-items : (n : Net) (id : ℕ) (items : List Item) → led_by id (item_lines n None items) ≡ item_lines n (Some id) items
led-items n id [] = refl
led-items n id (x ∷ items) = ap (λ ls. (lead id ++ item_line n x) ∷ ls) (led-items n id items)

-- a lead and a line behind a text
led-line : (id : ℕ) (t0 t1 t2 text : List ℕ) → t1 ≡ t0 ++ lead id → t2 ≡ t1 ++ text → t2 ≡ t0 ++ (lead id ++ text)
led-line id t0 t1 t2 text one two = two ∙ ap (λ t. t ++ text) one ∙ append_assoc t0 (lead id) text

-- ---- a point

pub no-heading : (id point : ℕ) (text : List ℕ) → 0 < point → text ≡ text ++ concat (led_by id (heading id point))
no-heading id zero text later = absurd (omega (arith, later))
no-heading id (suc point) text later = sym (append-nil text)

pub first-heading : (id point : ℕ) (t0 t1 t2 : List ℕ) → point ≤ 0 → t1 ≡ t0 ++ lead id → t2 ≡ t1 ++ trace_line id → t2 ≡ t0 ++ concat (led_by id (heading id point))
first-heading id zero t0 t1 t2 first one two = led-line id t0 t1 t2 (trace_line id) one two ∙ ap (λ t. t0 ++ t) (sym (append-nil (lead id ++ trace_line id)))
first-heading id (suc point) t0 t1 t2 first one two = absurd (omega (arith, first))

pub step-led : (n : Net) (id point : ℕ) (items : List Item) → step_lines n (Some id) point items ≡ led_by id (fix_line point ∷ item_lines n None items)
step-led n id point items = ap (λ ls. (lead id ++ fix_line point) ∷ ls) (sym (led-items n id items))

pub point-text : (n : Net) (id point : ℕ) (items : List Item) (t0 t1 t2 : List ℕ) → t1 ≡ t0 ++ concat (led_by id (heading id point)) → t2 ≡ t1 ++ concat (step_lines n (Some id) point items)
    → t2 ≡ t0 ++ concat (lines_of_items n id point items)
point-text n id point items t0 t1 t2 first rest =
    let head = led_by id (heading id point) in
    let step = led_by id (fix_line point ∷ item_lines n None items) in
    rest ∙ ap (λ ls. t1 ++ concat ls) (step-led n id point items) ∙ ap (λ t. t ++ concat step) first ∙ append_assoc t0 (concat head) (concat step)
    ∙ ap (λ t. t0 ++ t)
    (sym (concat-append head step) ∙ ap concat (sym (map-append (λ text. lead id ++ text) (heading id point) (fix_line point ∷ item_lines n None items))))

-- a prefix of them was written
point-parts : (n : Net) (id point : ℕ) (items : List Item) → concat (led_by id (heading id point)) ++ concat (step_lines n (Some id) point items) ≡ concat (lines_of_items n id point items)
point-parts n id point items =
    let head = led_by id (heading id point) in
    let step = led_by id (fix_line point ∷ item_lines n None items) in
    ap (λ ls. concat head ++ concat ls) (step-led n id point items) ∙ sym (concat-append head step)
    ∙ ap concat (sym (map-append (λ text. lead id ++ text) (heading id point) (fix_line point ∷ item_lines n None items)))

pub heading-cut : (n : Net) (id point : ℕ) (items : List Item) (t0 t1 : List ℕ) → AddsPrefix t0 (concat (led_by id (heading id point))) t1
    → AddsPrefix t0 (concat (lines_of_items n id point items)) t1
heading-cut n id point items t0 t1 cut =
    subst (λ more. AddsPrefix t0 more t1) (point-parts n id point items) (adds-first t0 (concat (led_by id (heading id point))) (concat (step_lines n (Some id) point items)) t1 cut)

pub point-cut-off : (n : Net) (id point : ℕ) (items : List Item) (t0 t1 t2 : List ℕ) → t1 ≡ t0 ++ concat (led_by id (heading id point)) → AddsPrefix t1 (concat (step_lines n (Some id) point items)) t2
    → AddsPrefix t0 (concat (lines_of_items n id point items)) t2
point-cut-off n id point items t0 t1 t2 whole cut =
    subst (λ more. AddsPrefix t0 more t2) (point-parts n id point items) (adds-then t0 (concat (led_by id (heading id point))) (concat (step_lines n (Some id) point items)) t1 t2 whole cut)

-- of the heading, where the trace line was not written
pub heading-led : (id point : ℕ) (t0 t1 t2 : List ℕ) → point ≤ 0 → t1 ≡ t0 ++ lead id → t2 ≡ t1 → AddsPrefix t0 (concat (led_by id (heading id point))) t2
heading-led id zero t0 t1 t2 first one same = adds-first t0 (lead id ++ trace_line id) [] t2 (led-only (Some id) (trace_line id) t0 t1 t2 one same)
heading-led id (suc point) t0 t1 t2 first one same = absurd (omega (arith, first))

-- ---- the end of an id

rest-led : (n : Net) (id : ℕ) (items : List Item) → rest_lines n (Some id) id items ≡ led_by id ((finish_line ∷ item_lines n None items) ++ end_line id ∷ [])
rest-led n id items =
    ap (λ ls. (lead id ++ finish_line) ∷ (ls ++ (lead id ++ end_line id) ∷ [])) (sym (led-items n id items))
    ∙ sym (map-append (λ text. lead id ++ text) (finish_line ∷ item_lines n None items) (end_line id ∷ []))

pub end-text : (n : Net) (p : Params) (id : ℕ) (fixes : List Fix) (items : List Item) (t0 t1 : List ℕ) → items ≡ left_of n p (map (layer_of n p) fixes)
    → t1 ≡ t0 ++ concat (rest_lines n (Some id) id items) → t1 ≡ t0 ++ concat (lines_at_end n p (id, fixes))
end-text n p id fixes items t0 t1 are written =
    written ∙ ap (λ ls. t0 ++ concat ls) (rest-led n id items ∙ ap (λ xs. led_by id ((finish_line ∷ item_lines n None xs) ++ end_line id ∷ [])) are)

-- of which a prefix was written
pub end-cut : (n : Net) (p : Params) (id : ℕ) (fixes : List Fix) (items : List Item) (t0 t1 : List ℕ) → items ≡ left_of n p (map (layer_of n p) fixes)
    → AddsPrefix t0 (concat (rest_lines n (Some id) id items)) t1 → AddsPrefix t0 (concat (lines_at_end n p (id, fixes))) t1
end-cut n p id fixes items t0 t1 are cut =
    subst (λ ls. AddsPrefix t0 (concat ls) t1) (rest-led n id items ∙ ap (λ xs. led_by id ((finish_line ∷ item_lines n None xs) ++ end_line id ∷ [])) are) cut

-- what a session of these fixes hands out at the end
pub record IsRest (n : Net) (p : Params) (fixes : List Fix) (items : List Item) : Type 0 where
  pub all : items_of n p (map (layer_of n p) fixes) ≡ handed n p (map (layer_of n p) fixes) ++ items
  pub are : items ≡ left_of n p (map (layer_of n p) fixes)

pub rest-of : (n : Net) (s new : Session) (fixes : List Fix) (items : List Item) → IsSessionOf n s.params s fixes → IsFinished s new items → IsRest n s.params fixes items
rest-of n s new fixes items is finished =
    let p = s.params in
    let layers = map (layer_of n p) fixes in
    let all : items_of n p layers ≡ handed n p layers ++ items =
    subst (λ (m : Net). items_of m p layers ≡ handed m p layers ++ items) is.network (finished.rest layers is.stands) in
    record { all = all; are = sym (ap (drop (length (handed n p layers))) all ∙ drop_behind (handed n p layers) items) }

pub rest-lies : (n : Net) (p : Params) (id : ℕ) (fixes : List Fix) (items : List Item) → IsLawful n → IsAccepted p → IsLawfulTrace (trace_of (id, fixes)) → IsRest n p fixes items → AreItemsOf n items
rest-lies n p id fixes items lawful accepted trace_lawful rest =
    let layers = map (layer_of n p) fixes in
    lies_behind n (handed n p layers) items
    (subst (AreItemsOf n) rest.all (items_edges n p layers lawful (matchable n p (trace_of (id, fixes)) layers accepted trace_lawful refl)))

pub end-counted : (n : Net) (p : Params) (id : ℕ) (fixes : List Fix) (items : List Item) (count : ℕ) → IsRest n p fixes items → count ≡ pieces_among items
    → length (match_of n p (trace_of (id, fixes))).pieces ≡ pieces_among (handed n p (map (layer_of n p) fixes)) + count
end-counted n p id fixes items count rest counted =
    let layers = map (layer_of n p) fixes in
    sym (count_match n p (trace_of (id, fixes))) ∙ ap pieces_among rest.all ∙ among-append (handed n p layers) items ∙ ap (λ k. pieces_among (handed n p layers) + k) (sym counted)

-- ---- one id after the other

pub few-pieces : (n : Net) (p : Params) (pairs : List Pair) → IsAccepted p → AreLawful pairs → pieces_of_all n p pairs ≤ fixes_in pairs
few-pieces n p [] accepted are = omega arith
few-pieces n p (x ∷ pairs) accepted are =
    let few = (match_lawful n p (trace_of x) accepted (All-head (λ (q : Pair). IsLawfulTrace (trace_of q)) x pairs are)).pieces_few in
    let rest = few-pieces n p pairs accepted (All-tail (λ (q : Pair). IsLawfulTrace (trace_of q)) x pairs are) in
    let one = sum_by-cons (λ (q : Pair). length (match_of n p (trace_of q)).pieces) x pairs in
    let two = sum_by-cons (λ (q : Pair). length q.1) x pairs in
    omega (arith, few, rest, one, two)

pub told-few : (n : Net) (p : Params) (pairs : List Pair) → IsAccepted p → AreLawful pairs → pieces_told n p pairs ≤ fixes_in pairs
told-few n p [] accepted are = omega arith
told-few n p (x ∷ pairs) accepted are =
    let layers = map (layer_of n p) x.1 in
    let few = (match_lawful n p (trace_of x) accepted (All-head (λ (q : Pair). IsLawfulTrace (trace_of q)) x pairs are)).pieces_few in
    let all = sym (count_match n p (trace_of x)) ∙ ap pieces_among (left_behind n p layers) ∙ among-append (handed n p layers) (left_of n p layers) in
    let rest = told-few n p pairs accepted (All-tail (λ (q : Pair). IsLawfulTrace (trace_of q)) x pairs are) in
    let one = sum_by-cons (λ (q : Pair). pieces_among (handed n p (map (layer_of n p) q.1))) x pairs in
    let two = sum_by-cons (λ (q : Pair). length q.1) x pairs in
    omega (arith, few, rest, one, two, all)
