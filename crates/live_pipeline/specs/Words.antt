-- The plan that the words of the live program ask for: that of `follow` before them.
use Rattle.std.specs.Prelude.{ℕ, List, ◌∷◌, codes, map, Result, String, string_bytes}
use Rattle.command_line.specs.Words.{command_of}
use Rattle.follow_work.specs.Alone.{follow_alone}
use Rattle.program_frame.specs.Asked.{asked_of}
use Rattle.program_frame.specs.Plan.{Plan}

-- the words with the command's name before them
abbrev pub with_follow : List (List ℕ) → List (List ℕ)
with_follow words = codes "follow" ∷ words

-- the plan that the words ask for, or the line of their refusal
abbrev pub asked_of_live_words : List (List ℕ) → Result Plan (List ℕ)
asked_of_live_words words = asked_of follow_alone (command_of (with_follow words))

-- the same of words as they are handed to a run
abbrev pub asked_live_plan : {Z : Type 0} → List (String Z) → Result Plan (List ℕ)
asked_live_plan words = asked_of_live_words (map string_bytes words)
