-- The committed labels of a trace, as what lists of labels have in common.
use Rattle.std.specs.Prelude.{◌≡◌, ℕ, ◌-◌, ◌≤◌, List, ◌++◌, Some, length, map, take, drop, reverse}
use Rattle.std.specs.List.{All}
use Rattle.cost_model.specs.declared.params.Params.{Params}
use Rattle.road_network.specs.Net.{Net, IsLawful}
use Rattle.matching.specs.CommittedValue.{ends_of, open_first}
use Rattle.matching.specs.Layers.{HasCandidateAt, trellis}
use Rattle.matching.specs.Value.{solution}
use Rattle.match_text.specs.declared.matched.Label.{Label}
use Rattle.matching.specs.declared.parts.Layer.{Layer}
use Rattle.trace_match.specs.Laws.{LabelsBeginWith, committed_labels}
use Rattle.trace_match.specs.Match.{labels_of, layers_of, match_of}
use Rattle.trace_reader.specs.declared.trace.Trace.{Trace}
use Rattle.trace_reader.specs.Trace.{IsLawfulTrace}

-- each of these lists begins with this one, and with none that is longer
pub record IsLongestCommonPrefix (lists : List (List Label)) (front : List Label) : Type 0 where
  pub common : All (λ labels. LabelsBeginWith labels front) lists
  pub longest : (other : List Label) → All (λ labels. LabelsBeginWith labels other) lists
      → length other ≤ length front

-- the labels of all positions: those of the closed pieces, which end before position `first`, and then those of
-- each best sequence over the positions of the open piece, one for each rank of the latest position
abbrev pub lists_from : Net → Params → List Layer → ℕ → List (List Label)
lists_from n p layers first =
    map (λ ranks. labels_of n layers (take first (solution (trellis n p) layers).ranks ++ map (λ r. Some r) ranks))
    (ends_of (trellis n p) (reverse (drop first layers)))

abbrev pub label_lists : Net → Params → List Layer → List (List Label)
label_lists n p layers =
    lists_from n p layers (open_first (solution (trellis n p) layers).pieces (length layers))

-- the latest of these positions has a candidate
abbrev pub LatestIsNear : List Layer → Type 0
LatestIsNear layers = HasCandidateAt layers (length layers - 1)

-- where the latest fix has a candidate, the committed labels are the longest common prefix of these lists;
-- where it has none, they are all labels of the match
pub record AreCommonLabels (n : Net) (p : Params) (trace : Trace) : Type 0 where
  pub shared : LatestIsNear (layers_of n p trace)
      → IsLongestCommonPrefix (label_lists n p (layers_of n p trace)) (committed_labels n p trace)
  pub whole : ¬ LatestIsNear (layers_of n p trace) → committed_labels n p trace ≡ (match_of n p trace).labels

abbrev pub CommittedIsCommonPrefix : Type 0
CommittedIsCommonPrefix =
    (n : Net) (p : Params) (trace : Trace) → IsLawful n → IsLawfulTrace trace → AreCommonLabels n p trace
