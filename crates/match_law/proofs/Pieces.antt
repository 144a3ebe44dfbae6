-- A piece of the law is a piece of the trellis, and its best sequence is that of the trellis.
use Rattle.std.proofs.Common.{Some, ◌≡◌, ℕ, ◌≤◌, IsTrue, nat_le, List, [], ◌∷◌, ◌++◌, map, refl, sym, ap, subst, ◌∙◌, arith, reverse, take}
use Rattle.std.proofs.lemmas.Bool.Decides.{nat_tests}
use Rattle.std.proofs.lemmas.List.{length-map, map-append, reverse-append, take-map}
use Rattle.cost_model.specs.declared.params.Params.{Params}
use Rattle.cost_model.specs.Costs.{difference}
use Rattle.match_law.specs.LeastMatch.{ArePositionsNear, CanPositionsBePiece, IsBestOfPositions, IsLongest, IsSequence}
use Rattle.match_law.proofs.Sequences.{cost_of, sequence_of}
use Rattle.matching.specs.declared.parts.Layer.{Layer}
use Rattle.matching.specs.Layers.{trellis}
use Rattle.matching.specs.Pieces.{AreNear as AreNearLayers, CanBePiece as CanBePieceOf, IsPiece}
use Rattle.matching.specs.Sequences.{IsBest as IsBestOf, cost}
use Rattle.road_network.specs.Net.{Net, IsLawful}
use Rattle.trace_match.specs.Match.{layer_of}
use Rattle.trace_reader.specs.declared.trace.Fix.{Fix}

-- ---- near in time

pub le_if : (a b : ℕ) → IsTrue (nat_le a b) → a ≤ b
le_if a b is = grind (arith, nat_tests, is)

pub true_if : (a b : ℕ) → a ≤ b → IsTrue (nat_le a b)
true_if a b le = grind (arith, nat_tests, le)

near_fixes : (n : Net) (p : Params) (fixes : List Fix) → AreNearLayers (trellis n p) (map (layer_of n p) fixes) → ArePositionsNear p fixes
near_fixes n p [] near = tt
near_fixes n p (f ∷ []) near = tt
near_fixes n p (f ∷ g ∷ fixes) near = (le_if (difference f.time g.time) p.gap near.0, near_fixes n p (g ∷ fixes) near.1)

near_layers : (n : Net) (p : Params) (fixes : List Fix) → ArePositionsNear p fixes → AreNearLayers (trellis n p) (map (layer_of n p) fixes)
near_layers n p [] near = tt
near_layers n p (f ∷ []) near = tt
near_layers n p (f ∷ g ∷ fixes) near = (true_if (difference f.time g.time) p.gap near.0, near_layers n p (g ∷ fixes) near.1)

-- ---- back to front

pub reverse-map : {X Y : Type 0} (f : X → Y) (xs : List X) → reverse (map f xs) ≡ map f (reverse xs)
reverse-map f [] = refl
reverse-map f (x ∷ xs) =
    reverse-append (f x ∷ []) (map f xs)
    ∙ ap (λ (ys : List _). ys ++ f x ∷ []) (reverse-map f xs)
    ∙ sym (map-append f (reverse xs) (x ∷ []))
    ∙ ap (map f) (sym (reverse-append (x ∷ []) xs))

-- ---- pieces

pub layers_back : (n : Net) (p : Params) (fixes : List Fix) (ranks : List ℕ) (c : ℕ) → IsLawful n
    → IsSequence n p (reverse fixes) ranks c → cost (trellis n p) (reverse (map (layer_of n p) fixes)) ranks ≡ Some c
layers_back n p fixes ranks c lawful is =
    ap (λ (ls : List Layer). cost (trellis n p) ls ranks) (reverse-map (layer_of n p) fixes) ∙ cost_of n p (reverse fixes) ranks c lawful is

pub fixes_back : (n : Net) (p : Params) (fixes : List Fix) (ranks : List ℕ) (c : ℕ) → IsLawful n
    → cost (trellis n p) (reverse (map (layer_of n p) fixes)) ranks ≡ Some c → IsSequence n p (reverse fixes) ranks c
fixes_back n p fixes ranks c lawful is =
    sequence_of n p (reverse fixes) ranks c lawful
    (ap (λ (ls : List Layer). cost (trellis n p) ls ranks) (sym (reverse-map (layer_of n p) fixes)) ∙ is)

can_be : (n : Net) (p : Params) (fixes : List Fix) (count : ℕ) → IsLawful n
    → CanBePieceOf (trellis n p) (map (layer_of n p) fixes) count → CanPositionsBePiece n p (take count fixes)
can_be n p fixes count lawful can =
    let same = take-map (layer_of n p) count fixes in
    record {
      near = near_fixes n p (take count fixes) (subst (λ (ls : List Layer). AreNearLayers (trellis n p) ls) same can.near);
      ranks_back = can.sequence.1;
      cost = can.sequence.0;
      sequence = fixes_back n p (take count fixes) can.sequence.1 can.sequence.0 lawful
          (ap (λ (ls : List Layer). cost (trellis n p) (reverse ls) can.sequence.1) (sym same) ∙ can.sequence.2);
    }

can_be_layers : (n : Net) (p : Params) (fixes : List Fix) (count : ℕ) → IsLawful n
    → CanPositionsBePiece n p (take count fixes) → CanBePieceOf (trellis n p) (map (layer_of n p) fixes) count
can_be_layers n p fixes count lawful can =
    let same = take-map (layer_of n p) count fixes in
    record {
      near = subst (λ (ls : List Layer). AreNearLayers (trellis n p) ls) (sym same) (near_layers n p (take count fixes) can.near);
      sequence = (
        can.cost,
        can.ranks_back,
        ap (λ (ls : List Layer). cost (trellis n p) (reverse ls) can.ranks_back) same
            ∙ layers_back n p (take count fixes) can.ranks_back can.cost lawful can.sequence,
      );
    }

pub longest_of : (n : Net) (p : Params) (fixes : List Fix) (count : ℕ) → IsLawful n
    → IsPiece (trellis n p) (map (layer_of n p) fixes) count → IsLongest n p fixes count
longest_of n p fixes count lawful piece =
    let long = length-map fixes (layer_of n p) in
    let within = piece.within in
    record {
      within = omega (arith, long, within);
      can = can_be n p fixes count lawful piece.can;
      longest = λ more lt le can. piece.greatest more lt (omega (arith, long, le)) (can_be_layers n p fixes more lawful can);
    }

pub best_of : (n : Net) (p : Params) (fixes : List Fix) (ranks : List ℕ) (c : ℕ) → IsLawful n
    → IsBestOf (trellis n p) (reverse (map (layer_of n p) fixes)) c (reverse ranks) → IsBestOfPositions n p fixes ranks c
best_of n p fixes ranks c lawful best = record {
  is = fixes_back n p fixes (reverse ranks) c lawful best.costs;
  least = λ others other is. best.least other others (layers_back n p fixes others other lawful is);
}
