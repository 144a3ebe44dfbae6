-- What the match of a trace always has, and what of it stays while fixes still come.
use Rattle.std.specs.Prelude.{ℕ, ◌≡◌, ◌<◌, ◌≤◌, ◌↔◌, List, ◌++◌, Option, IfSome, length, take}
use Rattle.cost_model.specs.declared.params.Params.{Params}
use Rattle.cost_model.specs.Options.{IsAccepted}
use Rattle.matching.specs.declared.parts.Layer.{Layer}
use Rattle.matching.specs.CommittedValue.{committed_of}
use Rattle.matching.specs.Layers.{trellis}
use Rattle.match_text.specs.declared.matched.Label.{Label}
use Rattle.match_text.specs.MatchText.{IsLawful}
use Rattle.polyline_geometry.specs.Plane.{InRange}
use Rattle.road_network.specs.Net.{Net, IsLawful as IsLawfulNet}
use Rattle.trace_reader.specs.declared.trace.Fix.{Fix}
use Rattle.trace_reader.specs.declared.trace.Trace.{Trace}
use Rattle.trace_reader.specs.Trace.{IsLawfulTrace, point_of_fix}
use Rattle.trace_match.specs.Match.{label_of_rank, labels_of, layer_of, layers_of, match_of}

-- the match of a trace can be written, and has a label for each fix and no more pieces than fixes
pub record IsWritableMatch (n : Net) (p : Params) (trace : Trace) : Type 0 where
  pub lawful : IsLawful (match_of n p trace)
  pub labels_count : length (match_of n p trace).labels ≡ length trace.fixes
  pub pieces_few : length (match_of n p trace).pieces ≤ length trace.fixes

abbrev pub MatchesAreLawful : Type 0
MatchesAreLawful =
    (n : Net) (p : Params) (trace : Trace) → IsAccepted p → IsLawfulTrace trace
    → IsWritableMatch n p trace

-- this rank, if it is one, is that of a candidate of the fix
abbrev pub IsRankOf : Net → Params → Fix → Option ℕ → Type 0
IsRankOf n p fix rank = IfSome rank (λ r. r < length (layer_of n p fix).candidates)

-- the candidates of a fix lie on different edges, so its labels agree exactly where its ranks do
abbrev pub LabelsAgreeAsRanks : Type 0
LabelsAgreeAsRanks =
    (n : Net) (p : Params) (fix : Fix) (a b : Option ℕ)
    → IsLawfulNet n → InRange (point_of_fix fix) → IsRankOf n p fix a → IsRankOf n p fix b
    → (label_of_rank n (layer_of n p fix) a ≡ label_of_rank n (layer_of n p fix) b) ↔ (a ≡ b)

-- the first labels depend on the first layers and ranks alone
abbrev pub FirstLabelsStay : Type 0
FirstLabelsStay =
    (n : Net) (layers : List Layer) (ranks : List (Option ℕ)) (count : ℕ)
    → take count (labels_of n layers ranks) ≡ labels_of n (take count layers) (take count ranks)

-- the labels that are committed after the fixes of a trace so far
abbrev pub committed_labels : Net → Params → Trace → List Label
committed_labels n p trace =
    take (committed_of (trellis n p) (layers_of n p trace)) (match_of n p trace).labels

-- the trace with more fixes after its last
abbrev pub with_more : Trace → List Fix → Trace
with_more trace more = record trace { fixes = trace.fixes ++ more }

-- the list begins with this one
abbrev pub LabelsBeginWith : List Label → List Label → Type 0
LabelsBeginWith whole front = (rest : List Label) × (whole ≡ front ++ rest)

-- whatever fixes follow, the labels that are committed are those that the match of the whole trace
-- begins with, and those that are committed then
pub record AreLabelsCommitted (n : Net) (p : Params) (trace : Trace)
    (more : List Fix) : Type 0 where
  pub stay : LabelsBeginWith (match_of n p (with_more trace more)).labels (committed_labels n p trace)
  pub grow : LabelsBeginWith (committed_labels n p (with_more trace more)) (committed_labels n p trace)

abbrev pub CommittedLabelsStay : Type 0
CommittedLabelsStay =
    (n : Net) (p : Params) (trace : Trace) (more : List Fix) → AreLabelsCommitted n p trace more
