-- The lines of one position and of the end of a trace, from their items.
use Rattle.std.specs.Prelude.{ℕ, zero, suc, List, [], ◌∷◌, ◌++◌, Option, None, ◌≡◌, length, take}
use Rattle.road_network.specs.Net.{Net}
use Rattle.match_text.specs.MatchText.{end_line, trace_line}
use Rattle.online_commit.specs.declared.items.Item.{Item}
use Rattle.trace_sessions.specs.FollowText.{finish_line, fix_line}
use Rattle.trace_sessions.specs.ItemText.{item_lines, lead_of}
use Rattle.trace_sessions.specs.StreamText.{led_by}

-- the line that begins the trace, before its first position
abbrev pub heading : (id point : ℕ) → List (List ℕ)
heading id zero = trace_line id ∷ []
heading id (suc point) = []

abbrev pub lines_of_items : Net → (id point : ℕ) → List Item → List (List ℕ)
lines_of_items n id point items = led_by id (heading id point ++ fix_line point ∷ item_lines n None items)

-- each line after the lead: of a position after the heading, and at the end
abbrev pub step_lines : Net → (lead : Option ℕ) → (point : ℕ) → List Item → List (List ℕ)
step_lines n lead point items = (lead_of lead ++ fix_line point) ∷ item_lines n lead items

abbrev pub rest_lines : Net → (lead : Option ℕ) → (id : ℕ) → List Item → List (List ℕ)
rest_lines n lead id items =
    (lead_of lead ++ finish_line) ∷ item_lines n lead items ++ (lead_of lead ++ end_line id) ∷ []

-- what was in a text is still at its front
abbrev pub KeepsFront : (text text' : List ℕ) → Type 0
KeepsFront text text' = take (length text) text' ≡ text
