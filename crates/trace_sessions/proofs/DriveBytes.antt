-- The bytes of a stream whose drives end: the lines of an id are the follow texts of its drives.
use Rattle.std.proofs.Common.{◌≡◌, ℕ, ◌^◌, ◌<◌, false, cond, List, [], ◌∷◌, ◌++◌, Some, refl, sym, ap, ◌∙◌, arith, drop, length, map}
use Rattle.std.specs.List.{All, concat, flat_map}
use Rattle.std.proofs.lemmas.List.{append-nil, length-append}
use Rattle.std.proofs.lemmas.List.Elements.{All-append, All-cons, All-nil}
use Rattle.std.proofs.lemmas.List.Folds.{concat-append}
use Rattle.cost_model.specs.declared.params.Params.{Params}
use Rattle.decimal_text.specs.Number.{decimal}
use Rattle.road_network.specs.Net.{Net}
use Rattle.trace_sessions.specs.Drives.{Fleet, all_drive_lines, drive_lines, drives_of, ended_at, no_drives, open_at, fleet_lines, fleet_after, fleet_after_all}
use Rattle.trace_sessions.specs.DrivesAlone.{drives_with}
use Rattle.trace_sessions.specs.FollowText.{follow_lines, follow_text}
use Rattle.trace_sessions.specs.ItemText.{lead_of}
use Rattle.trace_sessions.specs.Sessions.{Pair, fixes_of}
use Rattle.trace_sessions.specs.StreamText.{Point, closing_lines, led_by, lines_led_by, lines_of_fix, text_led_by, trace_of}
use Rattle.trace_sessions.proofs.ByteLines.{IsOneLine, IsPlain, begins, closing-one, decimal-plain, fix-one, led-one, parts-are-lines}
use Rattle.trace_sessions.proofs.DrivesAlone.{drives_are_followed_alone}
use Rattle.trace_sessions.proofs.StreamAlone.{led-append}

row-one : (n : Net) (p : Params) (idle : ℕ) (fleet : Fleet) (x : Point) → All IsOneLine (fleet_lines n p idle fleet x)
row-one n p idle fleet x =
    let fixes = fixes_of (open_at idle fleet x) x.0 in
    All-append IsOneLine (closing_lines n p (ended_at idle fleet x)) (led_by x.0 (lines_of_fix n p x.0 fixes x.1)) (closing-one n p (ended_at idle fleet x))
    (led-one x.0 (lines_of_fix n p x.0 fixes x.1) (fix-one n p x.0 fixes x.1))

drives-one : (n : Net) (p : Params) (idle : ℕ) (fleet : Fleet) (points : List Point) → All IsOneLine (drive_lines n p idle fleet points)
drives-one n p idle fleet [] = All-nil IsOneLine
drives-one n p idle fleet (x ∷ more) =
    All-append IsOneLine (fleet_lines n p idle fleet x) (drive_lines n p idle (fleet_after idle fleet x) more) (row-one n p idle fleet x) (drives-one n p idle (fleet_after idle fleet x) more)

-- the follow texts of drives are those of their lines
texts-of : (n : Net) (p : Params) (drives : List Pair) → concat (flat_map (λ drive. follow_lines n p (trace_of drive)) drives) ≡ flat_map (λ drive. follow_text n p (trace_of drive)) drives
texts-of n p [] = refl
texts-of n p (drive ∷ drives) =
    concat-append (follow_lines n p (trace_of drive)) (flat_map (λ d. follow_lines n p (trace_of d)) drives)
    ∙ ap (λ t. concat (follow_lines n p (trace_of drive)) ++ t) (texts-of n p drives)

-- before a last line that is no id's
pub drives_have_follow_texts_before : (n : Net) (p : Params) (idle : ℕ) (points : List Point) (id : ℕ) (last : List ℕ) → All (λ x. x.0 < 2 ^ 32) points → id < 2 ^ 32
    → IsOneLine last → begins (lead_of (Some id)) last ≡ false
    → text_led_by id (concat (all_drive_lines n p idle points) ++ last) ≡ flat_map (λ drive. follow_text n p (trace_of drive)) (drives_with id (drives_of idle points))
drives_have_follow_texts_before n p idle points id last small own one other =
    let lead = lead_of (Some id) in
    let lines = all_drive_lines n p idle points in
    let plain = All-append IsPlain (decimal id) (32 ∷ []) (decimal-plain id) (All-cons IsPlain 32 [] refl (All-nil IsPlain)) in
    let count = length-append (decimal id) (32 ∷ []) in
    let closed = (fleet_after_all idle no_drives points).drives in
    let all = All-append IsOneLine (drive_lines n p idle no_drives points) (closing_lines n p closed) (drives-one n p idle no_drives points) (closing-one n p closed) in
    let are = All-append IsOneLine lines (last ∷ []) all (All-cons IsOneLine last [] one (All-nil IsOneLine)) in
    let whole : concat (lines ++ last ∷ []) ≡ concat lines ++ last = concat-append lines (last ∷ []) ∙ ap (λ t. concat lines ++ t) (append-nil last) in
    let none : lines_led_by id (last ∷ []) ≡ [] = ap (λ b. map (drop (length lead)) (cond b (last ∷ []) [])) other in
    let led : lines_led_by id (lines ++ last ∷ []) ≡ lines_led_by id lines =
    led-append id lines (last ∷ []) ∙ ap (λ ls. lines_led_by id lines ++ ls) none ∙ append-nil (lines_led_by id lines) in
    ap (text_led_by id) (sym whole)
    ∙ parts-are-lines lead (lines ++ last ∷ []) (omega (arith, count)) plain are
    ∙ ap concat (led ∙ drives_are_followed_alone n p idle points id small own)
    ∙ texts-of n p (drives_with id (drives_of idle points))
