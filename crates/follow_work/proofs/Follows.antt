-- The follow texts of the next of some traces, and their pieces.
use Rattle.std.proofs.Common.{◌≡◌, ℕ, ◌+◌, ◌<◌, List, [], ◌∷◌, ◌++◌, length, take, get_or, sym, ◌∙◌, ap, append-nil, append_assoc, arith}
use Rattle.std.proofs.lemmas.List.Concat.{flat_map-append}
use Rattle.program_frame.specs.Jobs.{GrowsByTexts, position_count}
use Rattle.program_frame.proofs.PointCounts.{points-append}
use Rattle.trace_reader.specs.declared.trace.Trace.{Trace}
use Rattle.trace_sessions.specs.FollowText.{follow_text}
use Rattle.trace_sessions.specs.Following.{IsPieceCount}
use Rattle.trace_match.specs.Setting.{Setting}
use Rattle.follow_work.specs.Follow.{follow_job, followed_of}
use Rattle.trace_match.specs.Totals.{piece_count}
use Rattle.program_frame.specs.inside.Tallies.{IsCountOfPieces}
use Rattle.trace_match.proofs.Traces.{pieces-append}
use Rattle.trace_match.proofs.Traces.{next_trace}

followed-append : (on : Setting) (front back : List Trace) → followed_of on (front ++ back) ≡ followed_of on front ++ followed_of on back
followed-append on front back = flat_map-append (follow_text on.network on.params) front back

-- one more trace was followed
pub followed_next : (on : Setting) (traces : List Trace) (i : ℕ) (trace : Trace) (base old new : List ℕ) → i < length traces → trace ≡ get_or traces i trace
    → old ≡ base ++ followed_of on (take i traces) → new ≡ old ++ follow_text on.network on.params trace → new ≡ base ++ followed_of on (take (i + 1) traces)
followed_next on traces i trace base old new low is texts grown =
    let text = follow_text on.network on.params trace in
    let one : followed_of on (trace ∷ []) ≡ text = append-nil text in
    grown
    ∙ ap (λ (t : List ℕ). t ++ text) texts
    ∙ ap (λ (t : List ℕ). (base ++ followed_of on (take i traces)) ++ t) (sym one)
    ∙ append_assoc base (followed_of on (take i traces)) (followed_of on (trace ∷ []))
    ∙ ap (λ (t : List ℕ). base ++ t) (sym (followed-append on (take i traces) (trace ∷ [])) ∙ ap (followed_of on) (sym (next_trace traces i trace low is)))

pub pieces_followed : (on : Setting) (traces : List Trace) (i : ℕ) (trace : Trace) (pieces count : ℕ) → i < length traces → trace ≡ get_or traces i trace
    → IsPieceCount on.network on.params trace count → IsCountOfPieces (piece_count on) (take i traces) pieces → IsCountOfPieces (piece_count on) (take (i + 1) traces) (pieces + count)
pieces_followed on traces i trace pieces count low is one before =
    let next = next_trace traces i trace low is in
    let all : piece_count on (take (i + 1) traces) ≡ piece_count on (take i traces) + piece_count on (trace ∷ []) = ap (piece_count on) next ∙ pieces-append on (take i traces) (trace ∷ []) in
    let points : position_count (take (i + 1) traces) ≡ position_count (take i traces) + position_count (trace ∷ []) = ap position_count next ∙ points-append (take i traces) (trace ∷ []) in
    record {
      are = omega (arith, before.are, one.is, all);
      few = omega (arith, one.few, before.few, points);
    }

pub followed_grows : (on : Setting) (before more : List Trace) (old new : List ℕ) → new ≡ old ++ followed_of on more → GrowsByTexts (follow_job on) before more old new
followed_grows on before more old new grown = record {
  text = followed_of on more;
  grown = grown;
  is = followed-append on before more;
}
