-- What words ask of the live program, they ask of this program with `follow` before them.
use Rattle.std.specs.Prelude.{◌≡◌, ℕ, List, ◌∷◌, codes}
use Rattle.live_pipeline.specs.Words.{asked_of_live_words as asked_of_live}
use Rattle.program_run.specs.Words.{asked_by}

-- the plan, or the line of a refusal, that `live` promises for words is the one of this program for `follow` and
-- these words
abbrev pub LiveProgramPlansAlike : Type 0
LiveProgramPlansAlike = (words : List (List ℕ)) → asked_of_live words ≡ asked_by (codes "follow" ∷ words)
