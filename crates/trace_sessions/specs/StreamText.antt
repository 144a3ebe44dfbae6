-- Interleaved traces: what is written of a stream of positions, each with the id of its trace. Each id is followed
-- as if it were alone.
use Rattle.std.specs.Prelude.{◌≡◌, ℕ, ◌<◌, ◌^◌, Bool, List, [], ◌∷◌, ◌++◌, Option, Some, None, if◌then◌else◌, All, length, map, drop, nat_eq, nat_lt}
use Rattle.std.specs.List.{concat, filter, flat_map, starts_with}
use Rattle.cost_model.specs.declared.params.Params.{Params}
use Rattle.road_network.specs.Net.{Net}
use Rattle.trace_reader.specs.declared.trace.Fix.{Fix}
use Rattle.trace_reader.specs.declared.trace.Trace.{Trace}
use Rattle.trace_reader.specs.LineByLine.{lines_in}
use Rattle.match_text.specs.MatchText.{end_line, trace_line}
use Rattle.trace_match.specs.Match.{layer_of}
use Rattle.trace_sessions.specs.FollowText.{follow_lines, follow_text, last_lines, followed_lines}
use Rattle.trace_sessions.specs.ItemText.{lead_of}
use Rattle.trace_sessions.specs.Sessions.{Pair, fixes_of, with_fix}

-- ---- positions

-- a position of a stream: the id of its trace, and its fix
abbrev pub Point : Type 0
Point = ℕ × Fix

-- the positions of a file, whose traces are fragments of ids
abbrev pub fragment_points : Trace → List Point
fragment_points trace = map (λ fix. (trace.id, fix)) trace.fixes

abbrev pub points_in : List Trace → List Point
points_in traces = flat_map fragment_points traces

-- the trace of all fixes of an id
abbrev pub trace_of : Pair → Trace
trace_of pair = record { id = pair.0; fixes = pair.1 }

-- the ids with their fixes, where these positions follow those of the pairs
abbrev pub with_points : List Pair → List Point → List Pair
with_points pairs [] = pairs
with_points pairs (x ∷ more) = with_points (with_fix pairs x.0 x.1) more

-- the id has fewer fixes than it may have
abbrev pub has_room : List Pair → ℕ → Bool
has_room pairs id = nat_lt (length (fixes_of pairs id)) 100_000

-- and where the positions before the first whose id has no room do so
abbrev pub with_taken : List Pair → List Point → List Pair
with_taken pairs [] = pairs
with_taken pairs (x ∷ more) =
    if has_room pairs x.0 then with_taken (with_fix pairs x.0 x.1) more else pairs

-- ---- lines

-- with the id and a space before each
abbrev pub led_by : ℕ → List (List ℕ) → List (List ℕ)
led_by id lines = map (λ text. lead_of (Some id) ++ text) lines

-- the line that begins a trace, before the lines of its first fix
abbrev pub trace_first_line : ℕ → List Fix → List (List ℕ)
trace_first_line id [] = trace_line id ∷ []
trace_first_line id (fix ∷ fixes) = []

-- the lines of a fix after the others of its id
abbrev pub lines_of_fix : Net → Params → ℕ → List Fix → Fix → List (List ℕ)
lines_of_fix n p id fixes fix =
    trace_first_line id fixes ++ followed_lines n p (map (layer_of n p) (fixes ++ fix ∷ [])) (length fixes)

-- the lines of positions after those of the pairs, up to the first whose id has no room
abbrev pub stream_lines : Net → Params → List Pair → List Point → List (List ℕ)
stream_lines n p pairs [] = []
stream_lines n p pairs (x ∷ more) =
    if has_room pairs x.0
    then led_by x.0 (lines_of_fix n p x.0 (fixes_of pairs x.0) x.1)
    ++ stream_lines n p (with_fix pairs x.0 x.1) more
    else []

-- the id of that position; none where each has room
abbrev pub full_id : List Pair → List Point → Option ℕ
full_id pairs [] = None
full_id pairs (x ∷ more) =
    if has_room pairs x.0 then full_id (with_fix pairs x.0 x.1) more else Some x.0

-- the last lines of an id
abbrev pub lines_at_end : Net → Params → Pair → List (List ℕ)
lines_at_end n p pair =
    led_by pair.0 (last_lines n p (map (layer_of n p) pair.1) ++ end_line pair.0 ∷ [])

-- the lines at the end of the stream, id by id in order of first appearance
abbrev pub closing_lines : Net → Params → List Pair → List (List ℕ)
closing_lines n p pairs = flat_map (lines_at_end n p) pairs

-- all lines of a stream
abbrev pub all_lines : Net → Params → List Point → List (List ℕ)
all_lines n p points = stream_lines n p [] points ++ closing_lines n p (with_points [] points)

-- ---- each id is followed as if it were alone

-- the fixes of the id among these positions
abbrev pub fixes_among : ℕ → List Point → List Fix
fixes_among id points = map (λ x. x.1) (filter (λ x. nat_eq id x.0) points)

-- the lines that begin with the id and a space, without these
abbrev pub lines_led_by : ℕ → List (List ℕ) → List (List ℕ)
lines_led_by id lines =
    map (drop (length (lead_of (Some id))))
    (filter (λ text. starts_with nat_eq text (lead_of (Some id))) lines)

-- the lines of an id are the follow text of its positions alone
abbrev pub IdsAreFollowedAlone : Type 0
IdsAreFollowedAlone =
    (n : Net) (p : Params) (points : List Point) (id : ℕ)
    → All (λ x. x.0 < 2 ^ 32) points → id < 2 ^ 32
    → full_id [] points ≡ None → 0 < length (fixes_among id points)
    → lines_led_by id (all_lines n p points)
    ≡ follow_lines n p (record { id = id; fixes = fixes_among id points })

-- of the lines that begin with the id and a space the rest, as a text
abbrev pub text_led_by : ℕ → List ℕ → List ℕ
text_led_by id text =
    concat (map (λ part. drop (length (lead_of (Some id))) part ++ 10 ∷ [])
    (filter (λ part. starts_with nat_eq part (lead_of (Some id))) (lines_in text)))

-- the same of the bytes that are written
abbrev pub IdsHaveFollowTexts : Type 0
IdsHaveFollowTexts =
    (n : Net) (p : Params) (points : List Point) (id : ℕ)
    → All (λ x. x.0 < 2 ^ 32) points → id < 2 ^ 32
    → full_id [] points ≡ None → 0 < length (fixes_among id points)
    → text_led_by id (concat (all_lines n p points))
    ≡ follow_text n p (record { id = id; fixes = fixes_among id points })
