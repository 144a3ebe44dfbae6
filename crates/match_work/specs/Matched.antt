-- The matches of traces, as they are written.
use Rattle.std.specs.Prelude.{◌≡◌, ◌≤◌, ℕ, List, All, length, map}
use Rattle.std.specs.List.{sum_by}
use Rattle.match_text.specs.MatchText.{IsLawful}
use Rattle.match_text.specs.declared.matched.MatchedTrace.{MatchedTrace}
use Rattle.program_frame.specs.Jobs.{position_count}
use Rattle.trace_match.specs.Match.{match_of}
use Rattle.trace_reader.specs.declared.trace.Trace.{Trace}
use Rattle.trace_match.specs.Setting.{Setting}

-- how many pieces these matches have
abbrev pub pieces_in : List MatchedTrace → ℕ
pieces_in matches = sum_by (λ matched. length matched.pieces) matches

-- the matches of these traces, which can be written and have no more pieces than the traces have positions
pub record AreMatchesOf (on : Setting) (traces : List Trace) (matches : List MatchedTrace) : Type 0 where
  pub are : matches ≡ map (match_of on.network on.params) traces
  pub lawful : All IsLawful matches
  pub few : pieces_in matches ≤ position_count traces
