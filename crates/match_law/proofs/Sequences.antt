-- A sequence of the law is a sequence of the trellis, with the same cost.
use Rattle.std.proofs.Common.{◌≡◌, ℕ, ◌+◌, ◌<◌, List, [], ◌∷◌, map, Option, Some, None, MatchOption, option_map, sym, ap, subst, ◌∙◌, arith, length, slice_get}
use Rattle.std.proofs.lemmas.Option.{get_or_from_slice_get, slice_get-get_or, slice_get_within}
use Rattle.cost_model.specs.Costs.{emission, transition}
use Rattle.cost_model.specs.declared.params.Params.{Params}
use Rattle.match_law.specs.LeastMatch.{AreChosen, IsCost, IsSequence, IsStepCost, candidates_of}
use Rattle.matching.specs.Layers.{candidate_of_rank, no_candidate, trellis}
use Rattle.matching.specs.RouteBetween.{route_between}
use Rattle.matching.specs.RouteLength.{length_of_route}
use Rattle.matching.specs.Routes.{Route, HasNoRoute, IsTheRoute, route_length}
use Rattle.matching.specs.Sequences.{cost}
use Rattle.matching.proofs.Costs.{cost-goes_on, cost-in_range, cost-length, cost-parts, one-cost, one-parts}
use Rattle.matching.proofs.RouteBetweens.{routes_least}
use Rattle.matching.proofs.RouteLengths.{length_of_route-is, length_of_route-none}
use Rattle.polyline_geometry.specs.Plane.{straight}
use Rattle.road_network.specs.Net.{Net, IsLawful}
use Rattle.road_network.specs.declared.Candidate.{Candidate}
use Rattle.trace_match.specs.Match.{layer_of}
use Rattle.trace_reader.specs.Trace.{point_of_fix}
use Rattle.trace_reader.specs.declared.trace.Fix.{Fix}

-- ---- candidates by their rank

pub rank_of : (n : Net) (p : Params) (f : Fix) (j : ℕ) (c : Candidate) → slice_get (candidates_of n p f) j ≡ Some c → candidate_of_rank (layer_of n p f) j ≡ c
rank_of n p f j c is = get_or_from_slice_get (candidates_of n p f) j c no_candidate is

pub at_rank : (n : Net) (p : Params) (f : Fix) (j : ℕ) → j < length (candidates_of n p f) → slice_get (candidates_of n p f) j ≡ Some (candidate_of_rank (layer_of n p f) j)
at_rank n p f j lt = slice_get-get_or (candidates_of n p f) j no_candidate lt

-- ---- steps

abbrev step_over : Params → Fix → Fix → ℕ → ℕ
step_over p f g length = transition p length (straight (point_of_fix f) (point_of_fix g))

step_by : (n : Net) (p : Params) (f g : Fix) (a b : Candidate) (move : ℕ) (o : Option Route) → IsLawful n
    → MatchOption o (HasNoRoute n p.bound p.back a b) (IsTheRoute n p.bound p.back a b)
    → option_map (step_over p f g) (length_of_route n p.bound p.back a b) ≡ Some move → IsStepCost n p f a g b move
step_by n p f g a b move None lawful none is =
    let no : option_map (step_over p f g) None ≡ Some move = sym (ap (option_map (step_over p f g)) (length_of_route-none n p.bound p.back a b lawful none)) ∙ is in
    absurd (cc no)
step_by n p f g a b move (Some r) lawful the is =
    let same : option_map (step_over p f g) (Some (route_length n a b r)) ≡ Some move = sym (ap (option_map (step_over p f g)) (length_of_route-is n p.bound p.back a b r lawful the)) ∙ is in
    (r, the, sym (cc same))

step_of : (n : Net) (p : Params) (f g : Fix) (a b : Candidate) (move : ℕ) → IsLawful n
    → option_map (step_over p f g) (length_of_route n p.bound p.back a b) ≡ Some move → IsStepCost n p f a g b move
step_of n p f g a b move lawful is = step_by n p f g a b move (route_between n p.bound p.back a b) lawful (routes_least n p.bound p.back a b lawful) is

move_of : (n : Net) (p : Params) (f g : Fix) (a b : Candidate) (move : ℕ) → IsLawful n
    → IsStepCost n p f a g b move → option_map (step_over p f g) (length_of_route n p.bound p.back a b) ≡ Some move
move_of n p f g a b move lawful (r, the, is) =
    ap (option_map (step_over p f g)) (length_of_route-is n p.bound p.back a b r lawful the)
    ∙ ap (λ (k : ℕ). let o : Option ℕ = Some k in o) (sym is)

-- ---- sequences

-- a sequence goes on from the chosen candidates of the positions before
goes_on : (n : Net) (p : Params) (g f : Fix) (fixes : List Fix) (j a : ℕ) (ranks : List ℕ) (chosen : List Candidate) (before move c : ℕ) → IsLawful n
    → j < length (candidates_of n p g)
    → AreChosen n p (f ∷ fixes) (a ∷ ranks) chosen → IsCost n p (f ∷ fixes) chosen before
    → option_map (step_over p f g) (length_of_route n p.bound p.back (candidate_of_rank (layer_of n p f) a) (candidate_of_rank (layer_of n p g) j)) ≡ Some move
    → c ≡ before + move + emission p (candidate_of_rank (layer_of n p g) j).d2
    → IsSequence n p (g ∷ f ∷ fixes) (j ∷ a ∷ ranks) c
goes_on n p g f fixes j a ranks [] before move c lawful lt are costs moves sum = absurd are
goes_on n p g f fixes j a ranks (m ∷ chosen) before move c lawful lt are costs moves sum =
    let b = candidate_of_rank (layer_of n p g) j in
    let step = step_of n p f g (candidate_of_rank (layer_of n p f) a) b move lawful moves in
    record {
      chosen = b ∷ m ∷ chosen;
      are = (at_rank n p g j lt, are);
      costs = (before, move, costs, subst (λ (x : Candidate). IsStepCost n p f x g b move) (rank_of n p f a m are.0) step, sum);
    }

pub sequence_of : (n : Net) (p : Params) (fixes : List Fix) (ranks : List ℕ) (c : ℕ) → IsLawful n
    → cost (trellis n p) (map (layer_of n p) fixes) ranks ≡ Some c → IsSequence n p fixes ranks c
sequence_of n p [] [] c lawful is = record { chosen = []; are = tt; costs = sym (cc is) }
sequence_of n p [] (j ∷ ranks) c lawful is = absurd (cc is)
sequence_of n p (f ∷ fixes) [] c lawful is = absurd (cc is)
sequence_of n p (f ∷ []) (j ∷ []) c lawful is =
    let l = layer_of n p f in
    let parts = one-parts (trellis n p) l j [] c is in
    record {
      chosen = candidate_of_rank l j ∷ [];
      are = (at_rank n p f j (cost-in_range (trellis n p) l [] j [] c is), tt);
      costs = parts.1;
    }
sequence_of n p (f ∷ []) (j ∷ a ∷ ranks) c lawful is =
    let count = cost-length (trellis n p) (layer_of n p f ∷ []) (j ∷ a ∷ ranks) c is in absurd (omega (arith, count))
sequence_of n p (g ∷ f ∷ fixes) (j ∷ []) c lawful is =
    let count = cost-length (trellis n p) (layer_of n p g ∷ layer_of n p f ∷ map (layer_of n p) fixes) (j ∷ []) c is in absurd (omega (arith, count))
sequence_of n p (g ∷ f ∷ fixes) (j ∷ a ∷ ranks) c lawful is =
    let t = trellis n p in
    let s = cost-parts t (layer_of n p f) (map (layer_of n p) fixes) a ranks (layer_of n p g) j c is in
    let before = sequence_of n p (f ∷ fixes) (a ∷ ranks) s.before lawful s.before-is in
    goes_on n p g f fixes j a ranks before.chosen s.before s.move c lawful s.in_range before.are before.costs s.move-is s.sum-is

cost_by : (n : Net) (p : Params) (fixes : List Fix) (ranks : List ℕ) (chosen : List Candidate) (c : ℕ) → IsLawful n
    → AreChosen n p fixes ranks chosen → IsCost n p fixes chosen c → cost (trellis n p) (map (layer_of n p) fixes) ranks ≡ Some c
cost_by n p [] [] [] c lawful are costs = ap (λ (k : ℕ). let o : Option ℕ = Some k in o) (sym costs)
cost_by n p [] [] (x ∷ chosen) c lawful are costs = absurd are
cost_by n p [] (j ∷ ranks) chosen c lawful are costs = absurd are
cost_by n p (f ∷ fixes) [] chosen c lawful are costs = absurd are
cost_by n p (f ∷ fixes) (j ∷ ranks) [] c lawful are costs = absurd are
cost_by n p (f ∷ []) (j ∷ a ∷ ranks) (x ∷ chosen) c lawful are costs = absurd are.1
cost_by n p (f ∷ []) (j ∷ []) (x ∷ y ∷ chosen) c lawful are costs = absurd are.1
cost_by n p (f ∷ []) (j ∷ []) (x ∷ []) c lawful are costs =
    one-cost (trellis n p) (layer_of n p f) j (slice_get_within (candidates_of n p f) j x are.0)
    ∙ ap (λ (k : Candidate). let o : Option ℕ = Some (emission p k.d2) in o) (rank_of n p f j x are.0)
    ∙ ap (λ (k : ℕ). let o : Option ℕ = Some k in o) (sym costs)
cost_by n p (g ∷ f ∷ fixes) (j ∷ []) (b ∷ chosen) c lawful are costs = absurd are.1
cost_by n p (g ∷ f ∷ fixes) (j ∷ i ∷ ranks) (b ∷ []) c lawful are costs = absurd are.1
cost_by n p (g ∷ f ∷ fixes) (j ∷ i ∷ ranks) (b ∷ a ∷ chosen) c lawful are (before, step, costs, steps, sum) =
    let t = trellis n p in
    let m = layer_of n p f in
    let l = layer_of n p g in
    let earlier = cost_by n p (f ∷ fixes) (i ∷ ranks) (a ∷ chosen) before lawful are.1 costs in
    let from_a = subst (λ (x : Candidate). IsStepCost n p f x g b step) (sym (rank_of n p f i a are.1.0)) steps in
    let from_b = subst (λ (x : Candidate). IsStepCost n p f (candidate_of_rank m i) g x step) (sym (rank_of n p g j b are.0)) from_a in
    let moves : t.transition m i l j ≡ Some step = move_of n p f g (candidate_of_rank m i) (candidate_of_rank l j) step lawful from_b in
    cost-goes_on t m (map (layer_of n p) fixes) i ranks l j before step (slice_get_within (candidates_of n p g) j b are.0) earlier moves
    ∙ ap (λ (k : Candidate). let o : Option ℕ = Some (before + step + emission p k.d2) in o) (rank_of n p g j b are.0)
    ∙ ap (λ (k : ℕ). let o : Option ℕ = Some k in o) (sym sum)

pub cost_of : (n : Net) (p : Params) (fixes : List Fix) (ranks : List ℕ) (c : ℕ) → IsLawful n
    → IsSequence n p fixes ranks c → cost (trellis n p) (map (layer_of n p) fixes) ranks ≡ Some c
cost_of n p fixes ranks c lawful is = cost_by n p fixes ranks is.chosen c lawful is.are is.costs
