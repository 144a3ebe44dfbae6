-- What is written of a trace while its positions come: after the line of each position what the position makes
-- certain, and after the line `finish` what is left. In this file layers are in the order of the positions.
use Rattle.std.specs.Prelude.{◌≡◌, ℕ, suc, Bool, ◌||◌, not, List, [], ◌∷◌, ◌++◌, None, length, take, drop, codes, nat_eq}
use Rattle.std.specs.List.{concat, filter, flat_map, range_with_len, starts_with}
use Rattle.std.specs.Str.{bytes_eq}
use Rattle.decimal_text.specs.Number.{decimal}
use Rattle.cost_model.specs.declared.params.Params.{Params}
use Rattle.road_network.specs.Net.{Net}
use Rattle.trace_reader.specs.declared.trace.Fix.{Fix}
use Rattle.trace_reader.specs.declared.trace.Trace.{Trace}
use Rattle.matching.specs.declared.parts.Layer.{Layer}
use Rattle.match_text.specs.MatchText.{end_line, line, lines_of, trace_line}
use Rattle.trace_match.specs.Laws.{with_more}
use Rattle.trace_match.specs.Match.{layers_of, match_of}
use Rattle.online_commit.specs.declared.items.Item.{Item}
use Rattle.online_commit.specs.Items.{handed, items_of}
use Rattle.trace_sessions.specs.ItemText.{item_lines}

-- ---- what is handed out

-- with position i, at the positions up to it
abbrev pub handed_at : Net → Params → List Layer → ℕ → List Item
handed_at n p layers i =
    drop (length (handed n p (take i layers))) (handed n p (take (suc i) layers))

-- at the end
abbrev pub left_of : Net → Params → List Layer → List Item
left_of n p layers = drop (length (handed n p layers)) (items_of n p layers)

-- ---- lines

abbrev pub fix_line : ℕ → List ℕ
fix_line i = line (codes "fix") (decimal i ∷ [])

abbrev pub finish_line : List ℕ
finish_line = line (codes "finish") []

-- the line of position i and the lines of what it makes certain
abbrev pub followed_lines : Net → Params → List Layer → ℕ → List (List ℕ)
followed_lines n p layers i = fix_line i ∷ item_lines n None (handed_at n p layers i)

-- the line `finish` and the lines of what is left
abbrev pub last_lines : Net → Params → List Layer → List (List ℕ)
last_lines n p layers = finish_line ∷ item_lines n None (left_of n p layers)

-- what is written before the trace ends
abbrev pub lines_so_far : Net → Params → Trace → List (List ℕ)
lines_so_far n p trace =
    let layers = layers_of n p trace in
    trace_line trace.id ∷ flat_map (followed_lines n p layers) (range_with_len 0 (length layers))

abbrev pub follow_lines : Net → Params → Trace → List (List ℕ)
follow_lines n p trace =
    lines_so_far n p trace ++ (last_lines n p (layers_of n p trace) ++ end_line trace.id ∷ [])

abbrev pub follow_text : Net → Params → Trace → List ℕ
follow_text n p trace = concat (follow_lines n p trace)

-- ---- its laws

-- the line is `fix I` or `finish`
abbrev pub is_step_line : List ℕ → Bool
is_step_line text = starts_with nat_eq text (codes "fix ") || bytes_eq text finish_line

-- without these lines the follow text is the match text
abbrev pub FollowIsMatch : Type 0
FollowIsMatch =
    (n : Net) (p : Params) (trace : Trace)
    → filter (λ text. not (is_step_line text)) (follow_lines n p trace) ≡ lines_of (match_of n p trace)

-- whatever fixes follow, the follow text begins with the lines that were written
abbrev pub WrittenLinesStay : Type 0
WrittenLinesStay =
    (n : Net) (p : Params) (trace : Trace) (more : List Fix)
    → (rest : List (List ℕ)) × (follow_lines n p (with_more trace more) ≡ lines_so_far n p trace ++ rest)
