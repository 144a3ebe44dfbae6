-- A job of `match`, before its first trace and after more.
use Rattle.std.proofs.Common.{◌≡◌, ℕ, List, [], ◌++◌, length, sym, ◌∙◌, ap, subst, arith, length-append}
use Rattle.std.specs.List.{AllZip}
use Rattle.std.proofs.lemmas.List.Concat.{flat_map-append}
use Rattle.match_pool.specs.Learning.{LearnAsked}
use Rattle.match_pool.specs.Working.{AreJobTraces, StaysReader}
use Rattle.match_text.specs.MatchText.{text_of}
use Rattle.program_frame.specs.Jobs.{GrowsByTexts, IsBatch, IsBounded, position_count}
use Rattle.program_frame.specs.Total.{AddsCounts, total_line}
use Rattle.program_frame.specs.declared.total.Tally.{Tally}
use Rattle.program_frame.proofs.Bounds.{lawful_back}
use Rattle.row_store.specs.Store.{Reading, Stored, count_known}
use Rattle.trace_match.specs.Match.{match_of}
use Rattle.trace_reader.specs.declared.trace.Trace.{Trace}
use Rattle.trace_match.specs.Setting.{Setting}
use Rattle.match_work.specs.Sharing.{ShareStore, fresh_readers}
use Rattle.program_frame.specs.Counts.{total_of}
use Rattle.trace_match.specs.Totals.{piece_count, asked_count}
use Rattle.match_work.specs.Matches.{match_text, texts_of}
use Rattle.program_frame.specs.inside.Tallies.{IsCountOfPieces}
use Rattle.match_work.specs.inside.MatchesDone.{HasMatched, KnowAsked}
use Rattle.match_work.proofs.Asking.{asked_more}
use Rattle.program_frame.proofs.Counting.{counts_more}
use Rattle.match_work.proofs.Sharing.{know_nothing, rows_counted, share_on}
use Rattle.trace_match.proofs.Traces.{pieces-append}

-- no trace was matched
pub begun : (on : Setting) (store : Stored) (readers : List Reading) (tally : Tally) → readers ≡ fresh_readers on store → ShareStore on readers → tally.traces ≡ 0 → tally.points ≡ 0 → tally.pieces ≡ 0 → HasMatched on readers tally []
begun on store readers tally fresh shared traces points pieces = record {
  shared = shared;
  asked = subst (KnowAsked on []) (sym fresh) (know_nothing on store);
  counts = record { traces_are = traces; points_are = points; pieces_are = record { are = pieces; few = omega (arith, pieces) } };
}

-- more traces may be matched, no more than a batch
pub can_match : (on : Setting) (before more : List Trace) (readers : List Reading) (tally : Tally) → HasMatched on readers tally before → IsBounded (before ++ more) → IsBatch more → AreJobTraces tally.traces more
can_match on before more readers tally has bounded batch = record {
  first_place = (let few = bounded.few in omega (arith, few, has.counts.traces_are, length-append before more));
  few = omega (arith, batch);
  lawful = lawful_back before more bounded.lawful;
}

-- more traces were matched and counted
pub matched_more : (on : Setting) (before more : List Trace) (readers readers' : List Reading) (tally tally' : Tally) (pieces : ℕ) → HasMatched on readers tally before → IsCountOfPieces (piece_count on) more pieces → AllZip StaysReader readers readers' → LearnAsked on.network on.params more readers readers' → AddsCounts more pieces tally tally' → HasMatched on readers' tally' (before ++ more)
matched_more on before more readers readers' tally tally' pieces has are stay learn adds = record {
  shared = share_on on readers readers' has.shared stay;
  asked = asked_more on before more readers readers' has.asked learn;
  counts = counts_more (piece_count on) (pieces-append on) before more tally tally' pieces has.counts are adds;
}

pub text_grows : (on : Setting) (before more : List Trace) (old new : List ℕ) → new ≡ old ++ texts_of on more → GrowsByTexts (match_text on) before more old new
text_grows on before more old new grown = record {
  text = texts_of on more;
  grown = grown;
  is = flat_map-append (λ trace. text_of (match_of on.network on.params trace)) before more;
}

-- the total line of what was counted
pub total_is : (on : Setting) (taken : List Trace) (readers : List Reading) (tally : Tally) (count : ℕ) → HasMatched on readers tally taken → count ≡ count_known readers → total_line tally.traces tally.points tally.pieces count ≡ total_of (piece_count on) (asked_count on) taken
total_is on taken readers tally count has counted =
    ap (λ n. total_line n tally.points tally.pieces count) has.counts.traces_are
    ∙ ap (λ n. total_line (length taken) n tally.pieces count) has.counts.points_are
    ∙ ap (λ n. total_line (length taken) (position_count taken) n count) has.counts.pieces_are.are
    ∙ ap (total_line (length taken) (position_count taken) (piece_count on taken)) (counted ∙ rows_counted on taken readers has.shared has.asked)
