-- The total line of a run, and the counts in it.
use Rattle.std.specs.Prelude.{◌≡◌, ℕ, ◌+◌, ◌<◌, ◌^◌, List, [], ◌∷◌, ◌++◌, codes, length}
use Rattle.decimal_text.specs.Number.{decimal}
use Rattle.trace_reader.specs.declared.trace.Trace.{Trace}
use Rattle.program_frame.specs.Jobs.{position_count}
use Rattle.program_frame.specs.declared.total.Tally.{Tally}

-- a word and a number after it
abbrev pub worded : List ℕ → ℕ → List ℕ
worded word n = word ++ decimal n

abbrev pub total_line : (traces points pieces rows : ℕ) → List ℕ
total_line traces points pieces rows =
    worded (codes "total traces ") traces
    ++ worded (codes " points ") points
    ++ worded (codes " pieces ") pieces
    ++ worded (codes " rows ") rows
    ++ 10 ∷ []

-- these counts and those of some traces fit 63 bits
pub record CountsFit (traces : List Trace) (pieces : ℕ) (tally : Tally) : Type 0 where
  pub few : tally.traces + length traces < 2 ^ 63
  pub few_points : tally.points + position_count traces < 2 ^ 63
  pub few_pieces : tally.pieces + pieces < 2 ^ 63

-- the counts with those of some traces of this many pieces
pub record AddsCounts (traces : List Trace) (pieces : ℕ) (old new : Tally) : Type 0 where
  pub more : new.traces ≡ old.traces + length traces
  pub more_points : new.points ≡ old.points + position_count traces
  pub more_pieces : new.pieces ≡ old.pieces + pieces
