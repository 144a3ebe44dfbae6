-- A node that the match of a trace asks for is one of the network.
use Rattle.std.proofs.Common.{◌≡◌, ℕ, zero, suc, ◌+◌, ◌-◌, true, List, [], ◌∷◌, take, drop, reverse, Some, refl, sym, ◌∙◌, ap, subst, arith, slice_get}
use Rattle.cost_model.specs.declared.params.Params.{Params}
use Rattle.cost_model.specs.Options.{IsAccepted}
use Rattle.road_network.specs.Net.{HasNode, IsLawful, Net}
use Rattle.trace_reader.specs.declared.trace.Trace.{Trace}
use Rattle.trace_reader.specs.Trace.{IsLawfulTrace}
use Rattle.matching.specs.Asked.{IsAskedNodeAt}
use Rattle.matching.specs.Layers.{IsLayer, candidate_of_rank, end_of, no_candidate, trellis}
use Rattle.matching.specs.Places.{IsAt}
use Rattle.matching.specs.Sequences.{IsRankReached}
use Rattle.matching.proofs.Asking.{is_asked_node-tells}
use Rattle.matching.proofs.Costs.{cost-in_range}
use Rattle.matching.proofs.Lists.{all-at, at-drop, reverse-take}
use Rattle.trace_match.specs.Match.{asks, layers_of, solution_of}
use Rattle.trace_match.proofs.TraceLayers.{matchable}
use Rattle.cert_checker.proofs.MatchProofs.{asks_are}

at_get : {X : Type 0} (xs : List X) (i : ℕ) (x : X) → slice_get xs i ≡ Some x → IsAt xs i x
at_get [] i x e = absurd (cc)
at_get (y ∷ xs) zero x e = record { below = omega arith; is = cc }
at_get (y ∷ xs) (suc i) x e = let at = at_get xs i x e in let lt = at.below in record { below = omega (arith, lt); is = at.is }

pub asked_node : (n : Net) (p : Params) (trace : Trace) (v : ℕ) → IsLawful n → IsAccepted p → IsLawfulTrace trace → asks n p trace v ≡ true → HasNode n v
asked_node n p trace v lawful accepted fixes e =
    let t = trellis n p in
    let layers = layers_of n p trace in
    let asked = (is_asked_node-tells t (end_of n) layers (solution_of n p trace).pieces v).1 (sym (asks_are n p trace v) ∙ e) in
    let first = asked.0.first in
    let i = asked.2.0 in
    let at : IsAskedNodeAt t (end_of n) layers asked.0 i v = asked.2.1 in
    let after = at.after_first in
    let here_at = at_get layers i at.here at.here_is in
    let xs = drop first layers in
    let k = i - first in
    let count : i + 1 - first ≡ k + 1 = omega (arith, after) in
    let back : reverse (take (i + 1 - first) xs) ≡ at.here ∷ reverse (take k xs) =
    ap (λ m. reverse (take m xs)) count ∙ reverse-take xs k at.here (at-drop layers first i at.here after here_at) in
    let reached : IsRankReached t (at.here ∷ reverse (take k xs)) at.rank = subst (λ ys. IsRankReached t ys at.rank) back at.reached in
    let rank_in = cost-in_range t at.here (reverse (take k xs)) at.rank reached.1 reached.0 reached.2 in
    let layer = all-at (IsLayer n p) layers i at.here (matchable n p trace layers accepted fixes refl).are.each here_at in
    let edge = (layer.candidates at.rank no_candidate rank_in).edge in
    subst (HasNode n) at.node_is (lawful.targets (candidate_of_rank at.here at.rank).edge.0 edge)
