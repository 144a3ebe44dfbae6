-- The follow text as far as it is written.
use Rattle.std.proofs.Common.{◌≡◌, ℕ, zero, suc, ◌+◌, List, [], ◌∷◌, ◌++◌, None, sym, ◌∙◌, ap, arith, add-one, append-nil, append_assoc, length}
use Rattle.std.specs.List.{concat, flat_map, range_with_len}
use Rattle.std.proofs.lemmas.List.Concat.{flat_map-append}
use Rattle.std.proofs.lemmas.List.Folds.{concat-append}
use Rattle.cost_model.specs.declared.params.Params.{Params}
use Rattle.road_network.specs.Net.{Net}
use Rattle.match_text.specs.MatchText.{trace_line}
use Rattle.online_commit.specs.declared.items.Item.{Item}
use Rattle.trace_match.specs.Match.{layers_of}
use Rattle.trace_reader.specs.declared.trace.Trace.{Trace}
use Rattle.trace_sessions.specs.FollowText.{follow_text, handed_at, left_of, followed_lines}
use Rattle.trace_sessions.specs.inside.StreamingInside.{rest_lines, step_lines}

-- the lines of the first i points
abbrev first_lines : Net → Params → Trace → ℕ → List (List ℕ)
first_lines n p trace i = flat_map (followed_lines n p (layers_of n p trace)) (range_with_len 0 i)

-- the text up to and with them
abbrev pub text_so_far : Net → Params → Trace → ℕ → List ℕ
text_so_far n p trace i = trace_line trace.id ++ concat (first_lines n p trace i)

range_more : (a k j : ℕ) → a + k ≡ j → range_with_len a (suc k) ≡ range_with_len a k ++ j ∷ []
range_more a zero j e = ap (λ (m : ℕ). m ∷ []) (let same : a ≡ j = omega (arith, e) in same)
range_more a (suc k) j e = ap (λ (xs : List ℕ). a ∷ xs) (range_more (a + 1) k j (omega (arith, e)))

more_lines : (n : Net) (p : Params) (trace : Trace) (i : ℕ) → first_lines n p trace (i + 1) ≡ first_lines n p trace i ++ followed_lines n p (layers_of n p trace) i
more_lines n p trace i =
    let f = followed_lines n p (layers_of n p trace) in
    ap (λ (k : ℕ). flat_map f (range_with_len 0 k)) (add-one i)
    ∙ ap (flat_map f) (range_more 0 i i (omega arith))
    ∙ flat_map-append f (range_with_len 0 i) (i ∷ [])
    ∙ ap (λ (ls : List (List ℕ)). first_lines n p trace i ++ ls) (append-nil (f i))

-- the first line was written
pub text_begins : (n : Net) (p : Params) (trace : Trace) (base new : List ℕ) → new ≡ base ++ trace_line trace.id → new ≡ base ++ text_so_far n p trace 0
text_begins n p trace base new written = written ∙ ap (λ (t : List ℕ). base ++ t) (sym (append-nil (trace_line trace.id)))

-- the lines of the next point were written
pub text_next : (n : Net) (p : Params) (trace : Trace) (i point : ℕ) (items : List Item) (base old new : List ℕ) → old ≡ base ++ text_so_far n p trace i → point ≡ i → items ≡ handed_at n p (layers_of n p trace) i
    → new ≡ old ++ concat (step_lines n None point items) → new ≡ base ++ text_so_far n p trace (i + 1)
text_next n p trace i point items base old new before at are written =
    let lines = concat (first_lines n p trace i) in
    let head = trace_line trace.id in
    let step = concat (followed_lines n p (layers_of n p trace) i) in
    let grown : concat (first_lines n p trace (i + 1)) ≡ lines ++ step =
    ap concat (more_lines n p trace i) ∙ concat-append (first_lines n p trace i) (followed_lines n p (layers_of n p trace) i) in
    written
    ∙ ap (λ (k : ℕ). old ++ concat (step_lines n None k items)) at
    ∙ ap (λ (xs : List Item). old ++ concat (step_lines n None i xs)) are
    ∙ ap (λ (t : List ℕ). t ++ step) before
    ∙ append_assoc base (head ++ lines) step
    ∙ ap (λ (t : List ℕ). base ++ t) (append_assoc head lines step ∙ ap (λ (t : List ℕ). head ++ t) (sym grown))

-- the last lines were written
pub text_ends : (n : Net) (p : Params) (trace : Trace) (i : ℕ) (items : List Item) (base old new : List ℕ) → old ≡ base ++ text_so_far n p trace i → i ≡ length (layers_of n p trace)
    → items ≡ left_of n p (layers_of n p trace) → new ≡ old ++ concat (rest_lines n None trace.id items) → new ≡ base ++ follow_text n p trace
text_ends n p trace i items base old new before all are written =
    let whole = layers_of n p trace in
    let head = trace_line trace.id in
    let points = first_lines n p trace (length whole) in
    let lines = concat points in
    let rest = rest_lines n None trace.id (left_of n p whole) in
    let start : old ≡ base ++ (head ++ lines) = before ∙ ap (λ (k : ℕ). base ++ text_so_far n p trace k) all in
    written
    ∙ ap (λ (xs : List Item). old ++ concat (rest_lines n None trace.id xs)) are
    ∙ ap (λ (t : List ℕ). t ++ concat rest) start
    ∙ append_assoc base (head ++ lines) (concat rest)
    ∙ ap (λ (t : List ℕ). base ++ t) (append_assoc head lines (concat rest) ∙ ap (λ (t : List ℕ). head ++ t) (sym (concat-append points rest)))
