-- What a job of `follow` has done.
use Rattle.std.specs.Prelude.{◌≡◌, ◌↔◌, ℕ, List, true, Contains}
use Rattle.bounded_table.specs.Rows.{AreRowsOf, RowsState}
use Rattle.program_frame.specs.inside.Tallies.{Counts}
use Rattle.trace_match.specs.Setting.{Setting}
use Rattle.trace_match.specs.Totals.{is_asked_by, piece_count}
use Rattle.program_frame.specs.declared.total.Tally.{Tally}
use Rattle.trace_reader.specs.declared.trace.Trace.{Trace}

-- known is what these traces ask for
abbrev pub KnowsAsked : Setting → List Trace → List ℕ → Type 0
KnowsAsked on traces known = (v : ℕ) → Contains known v ↔ (is_asked_by on traces v ≡ true)

-- these traces were followed and counted, and exactly what they ask for is known
pub record HasFollowed (on : Setting) (rows : RowsState) (tally : Tally) (traces : List Trace)
    : Type 0 where
  pub rows_are : AreRowsOf rows on.network on.params.bound
  pub asked : KnowsAsked on traces rows.known
  pub counts : Counts (piece_count on) traces tally
