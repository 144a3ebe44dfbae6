-- A job of `follow`, before its first trace and after more.
use Rattle.std.proofs.Common.{◌≡◌, ℕ, false, true, List, [], ◌++◌, length, ◌∙◌, ap, subst, inl, inr, ⊎_elim, arith}
use Rattle.bounded_table.specs.Known.{IsKnownList}
use Rattle.bounded_table.specs.Rows.{AreRowsOf, RowsState, no_rows}
use Rattle.bounded_table.proofs.Counting.{count_listed}
use Rattle.program_frame.specs.Jobs.{position_count}
use Rattle.program_frame.specs.Total.{AddsCounts, total_line}
use Rattle.program_frame.specs.declared.total.Tally.{Tally}
use Rattle.trace_reader.specs.declared.trace.Trace.{Trace}
use Rattle.trace_match.specs.inside.Asked.{AsksTraces, LearnsAsked}
use Rattle.program_frame.specs.inside.Tallies.{IsCountOfPieces}
use Rattle.trace_match.specs.Setting.{Setting}
use Rattle.program_frame.specs.Counts.{total_of}
use Rattle.trace_match.specs.Totals.{is_asked_by, piece_count, asked_count}
use Rattle.trace_match.proofs.Asking.{asked_parts}
use Rattle.program_frame.proofs.Counting.{counts_more}
use Rattle.follow_work.specs.inside.FollowDone.{HasFollowed, KnowsAsked}
use Rattle.trace_match.proofs.Traces.{pieces-append}

-- what more traces make known, behind those that made known what is
asked_more : (on : Setting) (matched more : List Trace) (before after : List ℕ) → KnowsAsked on matched before → LearnsAsked on more before after → KnowsAsked on (matched ++ more) after
asked_more on matched more before after knows learns v =
    let parts = asked_parts on matched more v in (
      λ has. ⊎_elim (λ old. parts.1 (inl ((knows v).0 old))) (λ is. parts.1 (inr is)) ((learns v).0 has),
      λ is. ⊎_elim (λ old. (learns v).1 (inl ((knows v).1 old))) (λ new. (learns v).1 (inr new)) (parts.0 is),
    )

-- no trace is matched, and no node known
asked_none : (on : Setting) (known : List ℕ) → known ≡ [] → KnowsAsked on [] known
asked_none on known none v = (λ has. let low = has.1 in absurd (let e : length known ≡ 0 = ap length none in omega (arith, low, e)), λ (is : false ≡ true). cc)

-- how many rows are known, where exactly those that are asked for are
counted_rows : (on : Setting) (matched : List Trace) (rows : RowsState) → AreRowsOf rows on.network on.params.bound → KnowsAsked on matched rows.known → IsKnownList rows.network rows.known → length rows.known ≡ asked_count on matched
counted_rows on matched rows are knows listed =
    let inside = subst (λ n. IsKnownList n rows.known) are.network listed in
    count_listed (length on.network.nodes) rows.known (is_asked_by on matched) inside.rising inside.nodes (λ v low. knows v)

pub begun : (on : Setting) (rows : RowsState) (tally : Tally) → rows ≡ no_rows on.network on.params.bound → tally.traces ≡ 0 → tally.points ≡ 0 → tally.pieces ≡ 0 → HasFollowed on rows tally []
begun on rows tally fresh traces points pieces = record {
  rows_are = record { network = ap (λ r. r.network) fresh; bound = ap (λ r. r.bound) fresh };
  asked = asked_none on rows.known (ap (λ r. r.known) fresh);
  counts = record { traces_are = traces; points_are = points; pieces_are = record { are = pieces; few = omega (arith, pieces) } };
}

-- more traces were matched and counted
pub followed_more : (on : Setting) (before more : List Trace) (rows rows' : RowsState) (tally tally' : Tally) (pieces : ℕ) → HasFollowed on rows tally before → IsCountOfPieces (piece_count on) more pieces → AsksTraces on more rows rows' → AddsCounts more pieces tally tally' → HasFollowed on rows' tally' (before ++ more)
followed_more on before more rows rows' tally tally' pieces has are asks adds = record {
  rows_are = asks.rows;
  asked = asked_more on before more rows.known rows'.known has.asked asks.learns;
  counts = counts_more (piece_count on) (pieces-append on) before more tally tally' pieces has.counts are adds;
}

-- the total line of what was counted
pub total_is : (on : Setting) (taken : List Trace) (rows : RowsState) (tally : Tally) (count : ℕ) → HasFollowed on rows tally taken → IsKnownList rows.network rows.known → count ≡ length rows.known → total_line tally.traces tally.points tally.pieces count ≡ total_of (piece_count on) (asked_count on) taken
total_is on taken rows tally count has listed counted =
    ap (λ n. total_line n tally.points tally.pieces count) has.counts.traces_are
    ∙ ap (λ n. total_line (length taken) n tally.pieces count) has.counts.points_are
    ∙ ap (λ n. total_line (length taken) (position_count taken) n count) has.counts.pieces_are.are
    ∙ ap (total_line (length taken) (position_count taken) (piece_count on taken)) (counted ∙ counted_rows on taken rows has.rows_are has.asked listed)
