-- Positions, one after the other.
use Rattle.std.proofs.Common.{◌≡◌, ◌<◌, ◌≤◌, ℕ, ◌+◌, ◌-◌, List, [], ◌∷◌, ◌++◌, length, get_or, map, take, drop, sym, ap, ◌∙◌, arith, length-append}
use Rattle.std.proofs.lemmas.List.{drop_more, length-drop, length-map, map_more, take_all}
use Rattle.cost_model.specs.declared.params.Params.{Params}
use Rattle.road_network.specs.declared.Candidate.{Candidate}
use Rattle.matching.specs.declared.parts.Layer.{Layer}
use Rattle.road_network.specs.Near.{candidates}
use Rattle.road_network.specs.Net.{Net}
use Rattle.trace_match.specs.Match.{layer_of}
use Rattle.trace_reader.specs.declared.trace.Fix.{Fix}
use Rattle.trace_reader.specs.Trace.{point_of_fix}

pub mapped_next : {X Y : Type 0} (f : X → Y) (xs : List X) (i : ℕ) (d : X) (ys : List Y) (y : Y) → i < length xs → ys ≡ map f (take i xs) → y ≡ f (get_or xs i d) → ys ++ y ∷ [] ≡ map f (take (i + 1) xs)
mapped_next f xs i d ys y below before is = (λ j. before j ++ is j ∷ []) ∙ sym (map_more f xs i d below)

module _ (n : Net) (p : Params) (fixes : List Fix) where
  abbrev near : Fix → List Candidate
  near fix = candidates n p.k p.radius (point_of_fix fix)

  -- so many positions have their candidates, and these lists are left
  pub record AreMade (layers : List Layer) (left : List (List Candidate)) : Type 0 where
    pub made : layers ≡ map (layer_of n p) (take (length layers) fixes)
    pub left_is : left ≡ map near (drop (length layers) fixes)

  pub begins : (layers : List Layer) (left : List (List Candidate)) → layers ≡ [] → left ≡ map near fixes → AreMade layers left
  begins layers left none is =
      let count : length layers ≡ 0 = ap (λ (l : List Layer). length l) none in
      record {
        made = none ∙ ap (λ k. map (layer_of n p) (take k fixes)) (sym count);
        left_is = is ∙ ap (λ k. map near (drop k fixes)) (sym count);
      }

  left_count : (layers : List Layer) (left : List (List Candidate)) → AreMade layers left → length left ≡ length fixes - length layers
  left_count layers left are =
      ap (λ (l : List (List Candidate)). length l) are.left_is ∙ length-map (drop (length layers) fixes) near ∙ length-drop (length layers) fixes

  pub next_inside : (layers : List Layer) (list : List Candidate) (left : List (List Candidate)) → AreMade layers (list ∷ left) → length layers < length fixes
  next_inside layers list left are = omega (arith, left_count layers (list ∷ left) are)

  pub next_made : (layers new : List Layer) (list : List Candidate) (left : List (List Candidate)) (last : Layer) (d : Fix) → AreMade layers (list ∷ left)
      → last ≡ record { point = point_of_fix (get_or fixes (length layers) d); candidates = list; time = (get_or fixes (length layers) d).time } → new ≡ layers ++ last ∷ [] → AreMade new left
  next_made layers new list left last d are is new_is =
      let k = length layers in
      let below = next_inside layers list left are in
      let step : list ∷ left ≡ near (get_or fixes k d) ∷ map near (drop (k + 1) fixes) = are.left_is ∙ ap (map near) (drop_more fixes k d below) in
      let own : list ≡ near (get_or fixes k d) = ap (λ (l : List (List Candidate)). get_or l 0 list) step in
      let fix = get_or fixes k d in
      let own_last : last ≡ layer_of n p fix = is ∙ ap (λ (l : List Candidate). let y : Layer = record { point = point_of_fix fix; candidates = l; time = fix.time } in y) own in
      let count : length new ≡ k + 1 = ap (λ (l : List Layer). length l) new_is ∙ length-append layers (last ∷ []) in
      record {
        made = new_is ∙ mapped_next (layer_of n p) fixes k d layers last below are.made own_last ∙ ap (λ m. map (layer_of n p) (take m fixes)) (sym count);
        left_is = ap (λ (l : List (List Candidate)). drop 1 l) step ∙ ap (λ m. map near (drop m fixes)) (sym count);
      }

  pub all_made : (layers : List Layer) (left : List (List Candidate)) → length left ≡ 0 → AreMade layers left → layers ≡ map (layer_of n p) fixes
  all_made layers left none are =
      let long : length fixes ≤ length layers = omega (arith, none, left_count layers left are) in
      are.made ∙ ap (map (layer_of n p)) (take_all (length layers) fixes long)
