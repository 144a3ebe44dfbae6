-- The match of a trace is one value, and the text of traces is one text.
use Rattle.std.specs.Prelude.{◌≡◌, ◌↔◌, ℕ, List}
use Rattle.cost_model.specs.Options.{IsAccepted}
use Rattle.cost_model.specs.declared.params.Params.{Params}
use Rattle.match_law.specs.LeastMatch.{IsLeastMatch, IsMatchText}
use Rattle.match_text.specs.declared.matched.MatchedTrace.{MatchedTrace}
use Rattle.road_network.specs.Net.{Net, IsLawful}
use Rattle.trace_match.specs.Match.{match_of}
use Rattle.trace_reader.specs.Trace.{IsLawfulTrace}
use Rattle.trace_reader.specs.declared.trace.Trace.{Trace}

-- the match of a trace as a value is its least match, and nothing else is
abbrev pub MatchesAreLeast : Type 0
MatchesAreLeast =
    (n : Net) (p : Params) (trace : Trace) (matched : MatchedTrace)
    → IsLawful n → IsAccepted p → IsLawfulTrace trace
    → IsLeastMatch n p trace matched ↔ (matched ≡ match_of n p trace)

-- at most one text is the text of some traces, whatever the network, the options and the traces are
abbrev pub MatchTextsAreOne : Type 0
MatchTextsAreOne =
    (n : Net) (p : Params) (traces : List Trace) (text other : List ℕ)
    → IsMatchText n p traces text → IsMatchText n p traces other → text ≡ other
