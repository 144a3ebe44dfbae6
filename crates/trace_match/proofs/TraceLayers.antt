-- The layers of a trace are layers of the network.
use Rattle.std.proofs.Common.{◌≡◌, ◌^◌, ◌≤◌, List, length, refl, sym, subst, arith}
use Rattle.std.specs.Prelude.{slice_index_or}
use Rattle.std.proofs.lemmas.List.{length-map}
use Rattle.std.proofs.lemmas.List.Elements.{All-map}
use Rattle.cost_model.specs.declared.params.Params.{Params}
use Rattle.cost_model.specs.Options.{IsAccepted}
use Rattle.road_network.specs.Net.{Net}
use Rattle.trace_reader.specs.declared.trace.Trace.{Trace}
use Rattle.trace_reader.specs.Trace.{IsLawfulTrace}
use Rattle.matching.specs.declared.parts.Layer.{Layer}
use Rattle.matching.specs.Layers.{AreLayers, IsLayer, IsMatchable}
use Rattle.matching.proofs.CandidateLayers.{candidates_narrow, layer_of_candidates}
use Rattle.trace_match.specs.Match.{layer_of, layers_of}

layers_are : (n : Net) (p : Params) (trace : Trace) → IsAccepted p → IsLawfulTrace trace → AreLayers n p (layers_of n p trace)
layers_are n p trace accepted lawful = record {
  few = omega (arith, length-map trace.fixes (layer_of n p), lawful.few);
  each = All-map (IsLayer n p) (layer_of n p) trace.fixes
      (λ k d lt. layer_of_candidates n p (layer_of n p (slice_index_or trace.fixes k d)) (lawful.in_range k d lt) refl);
  narrow = All-map (λ (l : Layer). length l.candidates ≤ 2 ^ 32) (layer_of n p) trace.fixes
      (λ k d lt. let few = candidates_narrow n p (layer_of n p (slice_index_or trace.fixes k d)) accepted refl in omega (arith, few));
}

-- they are layers of a trace, by accepted options
pub matchable : (n : Net) (p : Params) (trace : Trace) (layers : List Layer)
    → IsAccepted p → IsLawfulTrace trace → layers ≡ layers_of n p trace → IsMatchable n p layers
matchable n p trace layers accepted lawful is = record { options = accepted; are = subst (AreLayers n p) (sym is) (layers_are n p trace accepted lawful) }
