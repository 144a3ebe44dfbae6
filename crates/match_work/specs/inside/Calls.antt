-- The calls by which the traces of a batch are matched and their matches are written.
use Rattle.std.specs.Prelude.{ℕ, List, ◌≡◌, ◌++◌, All, ◌≤◌, ◌^◌, Result, OnOk, IfOk}
use Rattle.std.specs.List.{flat_map}
use Rattle.match_text.specs.MatchText.{IsLawful, text_of}
use Rattle.match_text.specs.declared.matched.MatchedTrace.{MatchedTrace}
use Rattle.row_store.specs.Store.{Reading}
use Rattle.trace_reader.specs.declared.trace.Trace.{Trace}
use denote.Ref.{Bor, MutBor}
use Rattle.std.specs.declared.alloc.AllocError.{AllocError}
use Rattle.match_pool.specs.Learning.{AreReadersFor}
use Rattle.match_pool.specs.Working.{AreJobTraces}
use Rattle.trace_match.specs.Setting.{Setting}
use denote.Param.Members.{Shared}
use Rattle.match_work.specs.Sharing.{MatchesBatch}
use Rattle.match_work.specs.Matched.{pieces_in}

-- the texts of matches
abbrev pub text_of_matches : List MatchedTrace → List ℕ
text_of_matches matches = flat_map text_of matches

-- what a call on a batch is given, and what it leaves: the place of the first trace, the traces, and
-- the readers
abbrev pub BatchGiven : Type 0
BatchGiven = ℕ × (Bor (List Trace) × (MutBor (List Reading) × Unit {0}))

abbrev pub BatchLeft : Type 0
BatchLeft = Result (List MatchedTrace) AllocError × (MutBor (List Reading) × Unit {0})

-- each call matches the batch that it is given
pub record MatchesBatches {F : Type 0} (g : Shared F BatchGiven BatchLeft) (on : Setting) (f : F)
    : Type 0 where
  pub may : (first : ℕ) (traces : Bor (List Trace)) (readers : MutBor (List Reading))
      → AreJobTraces first traces.now → AreReadersFor on.network on.params readers.now
      → g.pre f (first, (traces, (readers, tt)))
  pub does : (first : ℕ) (traces : Bor (List Trace)) (readers left : MutBor (List Reading))
      (result : Result (List MatchedTrace) AllocError)
      → AreJobTraces first traces.now → AreReadersFor on.network on.params readers.now
      → g.post f (first, (traces, (readers, tt))) (result, (left, tt))
      → MatchesBatch on traces.now readers.now result left.now

-- what a call that writes matches is given, and what it leaves: the matches, and the text
abbrev pub TextGiven : Type 0
TextGiven = Bor (List MatchedTrace) × (MutBor (List ℕ) × Unit {0})

abbrev pub TextLeft : Type 0
TextLeft = Result ℕ AllocError × (MutBor (List ℕ) × Unit {0})

-- each call appends the texts of the matches that it is given, and returns the number of their pieces
pub record WritesMatches {W : Type 0} (g : Shared W TextGiven TextLeft) (w : W) : Type 0 where
  pub may : (matches : Bor (List MatchedTrace)) (into : MutBor (List ℕ))
      → All IsLawful matches.now → pieces_in matches.now ≤ 2 ^ 62
      → g.pre w (matches, (into, tt))
  pub does : (matches : Bor (List MatchedTrace)) (into left : MutBor (List ℕ))
      (result : Result ℕ AllocError)
      → All IsLawful matches.now → pieces_in matches.now ≤ 2 ^ 62
      → g.post w (matches, (into, tt)) (result, (left, tt))
      → OnOk result (left.now ≡ into.now ++ text_of_matches matches.now)
      × IfOk result (λ pieces. pieces ≡ pieces_in matches.now)
