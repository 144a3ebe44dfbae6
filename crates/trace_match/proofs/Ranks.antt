-- The ranks of a match name candidates.
use Rattle.std.proofs.Common.{◌≡◌, ℕ, ◌<◌, List, Option, Some, None, IfSome, refl, sym, ◌∙◌, subst, length, get_or}
use Rattle.std.specs.Prelude.{unwrap_or}
use Rattle.std.proofs.lemmas.List.{get_or_default}
use Rattle.cost_model.specs.declared.params.Params.{Params}
use Rattle.road_network.specs.Net.{Net, IsLawful}
use Rattle.matching.specs.declared.parts.Layer.{Layer}
use Rattle.matching.specs.Layers.{IsLayer, trellis}
use Rattle.matching.specs.Places.{IsAt}
use Rattle.matching.proofs.Lists.{all-at}
use Rattle.route_rebuild.specs.Chosen.{IsSolved}
use Rattle.route_rebuild.specs.Routes.{no_layer}
use Rattle.trellis.specs.declared.parts.Solved.{Solved}
use Rattle.route_rebuild.proofs.ChosenRun.{chosen_run}
use Rattle.trace_match.specs.Ranked.{AreRanked}
use Rattle.trace_match.proofs.Points.{ranked_lies}

if_some : (P : ℕ → Type 0) (o : Option ℕ) → ((r : ℕ) → o ≡ Some r → P r) → IfSome o P
if_some P None h = tt
if_some P (Some r) h = h r refl

rank_among : (n : Net) (p : Params) (layers : List Layer) (s : Solved) {i r : ℕ} {l : Layer}
    → IsLawful n → IsSolved n p layers s → IsAt layers i l → get_or s.ranks i None ≡ Some r → r < length l.candidates
rank_among n p layers s {i} {r} {l} lawful is at e =
    let lies = ranked_lies (trellis n p) layers s i r l is.matched at e in
    let run = chosen_run n p layers s lies.0 lawful is lies.1.below in
    let among = (run.points i lies.1.after_first lies.1.to_last).among in
    let layer-is : get_or layers i no_layer ≡ l = get_or_default layers i no_layer l at.below ∙ sym at.is in
    subst (λ (x : Layer). r < length x.candidates) layer-is
    (subst (λ (x : Option ℕ). unwrap_or x 0 < length (get_or layers i no_layer).candidates) e among)

pub are_ranked : (n : Net) (p : Params) (layers : List Layer) (s : Solved) → IsLawful n → IsSolved n p layers s → AreRanked n layers s.ranks
are_ranked n p layers s lawful is = record {
  count = is.matched.ranks_count;
  each = λ i l at. record {
    edges = λ j d lt. ((all-at (IsLayer n p) layers i l is.trace.are.each at).candidates j d lt).edge;
    among = if_some (λ r. r < length l.candidates) (get_or s.ranks i None) (λ r e. rank_among n p layers s lawful is at e);
  };
}
