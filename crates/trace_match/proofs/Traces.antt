-- Lists of traces: the next of some, and the pieces of two lists together.
use Rattle.std.proofs.Common.{◌≡◌, ℕ, ◌+◌, ◌<◌, List, [], ◌∷◌, ◌++◌, length, take, get_or, sym, ◌∙◌, ap}
use Rattle.std.proofs.lemmas.List.{take_more}
use Rattle.std.proofs.lemmas.List.Sums.{sum_by-append}
use Rattle.trace_match.specs.Match.{match_of}
use Rattle.trace_match.specs.Setting.{Setting}
use Rattle.trace_match.specs.Totals.{piece_count}
use Rattle.trace_reader.specs.declared.trace.Trace.{Trace}

-- one more trace of a list
pub next_trace : (traces : List Trace) (i : ℕ) (trace : Trace) → i < length traces → trace ≡ get_or traces i trace → take (i + 1) traces ≡ take i traces ++ trace ∷ []
next_trace traces i trace low is = take_more traces i trace low ∙ ap (λ t. take i traces ++ t ∷ []) (sym is)

pub pieces-append : (on : Setting) (front back : List Trace) → piece_count on (front ++ back) ≡ piece_count on front + piece_count on back
pieces-append on front back = sum_by-append (λ trace. length (match_of on.network on.params trace).pieces) front back
