-- What a job of `match` has done.
use Rattle.std.specs.Prelude.{◌≡◌, ◌↔◌, ℕ, List, true}
use Rattle.program_frame.specs.inside.Tallies.{Counts}
use Rattle.program_frame.specs.declared.total.Tally.{Tally}
use Rattle.row_store.specs.Store.{Reading, is_known_to_any}
use Rattle.trace_reader.specs.declared.trace.Trace.{Trace}
use Rattle.trace_match.specs.Setting.{Setting}
use Rattle.match_work.specs.Sharing.{ShareStore}
use Rattle.trace_match.specs.Totals.{is_asked_by, piece_count}

-- some reader knows what these traces ask for, and nothing else
abbrev pub KnowAsked : Setting → List Trace → List Reading → Type 0
KnowAsked on traces readers =
    (v : ℕ) → (is_known_to_any readers v ≡ true) ↔ (is_asked_by on traces v ≡ true)

-- these traces were matched and counted by readers of one store, and exactly what they ask for is known
pub record HasMatched (on : Setting) (readers : List Reading) (tally : Tally) (traces : List Trace)
    : Type 0 where
  pub shared : ShareStore on readers
  pub asked : KnowAsked on traces readers
  pub counts : Counts (piece_count on) traces tally
