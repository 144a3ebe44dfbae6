-- The match of a trace is the least.
use Rattle.std.proofs.Common.{◌≡◌, ℕ, suc, ◌+◌, ◌-◌, ◌<◌, ◌≤◌, List, [], ◌∷◌, map, All, Option, Some, None, refl, sym, ap, subst, ◌∙◌, arith, length, reverse, take, drop, get_or}
use Rattle.std.proofs.lemmas.List.{drop-map, get_or-drop, get_or-take, get_or_default, length-drop, length-map, length-take, take-map, take_all}
use Rattle.std.proofs.lemmas.List.Elements.{All-head, All-tail}
use Rattle.cost_model.specs.Options.{IsAccepted}
use Rattle.cost_model.specs.declared.params.Params.{Params}
use Rattle.match_law.specs.LeastMatch.{AreChosen, AreLeastPieces, AreMissing, IsLeastMatch, IsLeastPiece, IsLongest, IsRouteOver}
use Rattle.match_law.specs.Matches.{MatchesAreLeast}
use Rattle.match_law.proofs.Choices.{added_of, chosen_at_place, chosen_count, chosen_in_order, labels_chosen, labels_part, missing_of}
use Rattle.match_law.proofs.Pieces.{best_of, longest_of}
use Rattle.match_law.proofs.Unique.{match-unique}
use Rattle.match_text.specs.declared.matched.Label.{Label}
use Rattle.matching.specs.declared.parts.Layer.{Layer}
use Rattle.matching.specs.declared.parts.Piece.{Piece}
use Rattle.matching.specs.Layers.{trellis}
use Rattle.matching.specs.Match.{IsMatch, IsMatchedPiece, from_to}
use Rattle.matching.specs.Pieces.{ArePieces, IsPiece, NoCandidates}
use Rattle.matching.specs.Sequences.{IsBest as IsBestOf}
use Rattle.matching.specs.Value.{solution}
use Rattle.matching.proofs.SolutionMatches.{solution_is_a_match}
use Rattle.road_network.specs.Net.{Net, IsLawful}
use Rattle.road_network.specs.declared.Candidate.{Candidate}
use Rattle.route_rebuild.specs.Routes.{AreLegs, IsRouteOf, chosen_at, no_layer, route_of}
use Rattle.route_rebuild.proofs.ChosenRun.{length_between}
use Rattle.route_rebuild.proofs.RouteValue.{routes_value}
use Rattle.trace_match.specs.Match.{labels_of, layer_of, layers_of, match_of, routed_of}
use Rattle.trace_match.proofs.Lawful.{labels_all}
use Rattle.trace_match.proofs.TraceLayers.{matchable}
use Rattle.trace_reader.specs.Trace.{IsLawfulTrace}
use Rattle.trace_reader.specs.declared.trace.Fix.{Fix}
use Rattle.trace_reader.specs.declared.trace.Trace.{Trace}
use Rattle.trellis.specs.declared.parts.Solved.{Solved}

-- ---- parts of a trace

pub part_map : (n : Net) (p : Params) (fixes : List Fix) (at count : ℕ) → take count (drop at (map (layer_of n p) fixes)) ≡ map (layer_of n p) (take count (drop at fixes))
part_map n p fixes at count = ap (take count) (drop-map (layer_of n p) at fixes) ∙ take-map (layer_of n p) count (drop at fixes)

module _ (n : Net) (p : Params) (fixes : List Fix) (s : Solved) (is : IsMatch (trellis n p) (map (layer_of n p) fixes) s.ranks s.pieces s.tables) where
  abbrev layers : List Layer
  layers = map (layer_of n p) fixes

  abbrev labels : List Label
  labels = labels_of n layers s.ranks

  count_same : length s.ranks ≡ length fixes
  count_same = is.ranks_count ∙ length-map fixes (layer_of n p)

  -- ---- positions without candidates

  unranked : (at count : ℕ) → NoCandidates (trellis n p) (take count (drop at layers)) → All (λ (r : Option ℕ). r ≡ None) (take count (drop at s.ranks))
  unranked at count none k d lt =
      let long = length-take count (drop at s.ranks) in
      let rest = length-drop at s.ranks in
      let few : k < count = omega (arith, long, lt) in
      let below : at + k < length s.ranks = omega (arith, long, rest, lt) in
      let inside : at + k < length layers = omega (arith, below, is.ranks_count) in
      let in_part : k < length (take count (drop at layers)) = omega (arith, length-take count (drop at layers), length-drop at layers, few, inside) in
      let l = get_or layers (at + k) no_layer in
      let there : get_or (take count (drop at layers)) k no_layer ≡ l = get_or-take count (drop at layers) k no_layer few ∙ get_or-drop at layers k no_layer in
      let empty : (trellis n p).width l ≡ 0 = ap (trellis n p).width (sym there) ∙ none k no_layer in_part in
      get_or-take count (drop at s.ranks) k d few ∙ get_or-drop at s.ranks k d
      ∙ get_or_default s.ranks (at + k) d (Some 0) below
      ∙ (is.missing (at + k) l inside (get_or_default layers (at + k) no_layer l inside) empty).0

  missing_part : (at count : ℕ) → NoCandidates (trellis n p) (take count (drop at layers)) → AreMissing n p (take count (drop at fixes)) (take count (drop at labels))
  missing_part at count none =
      let part = part_map n p fixes at count in
      let part_ranks = take count (drop at s.ranks) in
      let long : length part_ranks ≡ length (take count (drop at fixes)) =
      omega (arith, length-take count (drop at s.ranks), length-drop at s.ranks, length-take count (drop at fixes), length-drop at fixes, count_same) in
      subst (λ (ls : List Label). AreMissing n p (take count (drop at fixes)) ls)
      (sym (labels_part n layers s.ranks at count ∙ ap (λ (ls : List Layer). labels_of n ls part_ranks) part))
      (missing_of n p (take count (drop at fixes)) part_ranks long
      (subst (λ (ls : List Layer). NoCandidates (trellis n p) ls) part none) (unranked at count none))

  whole_rest : {X : Type 0} (at : ℕ) (xs : List X) (long : ℕ) → length xs ≤ long → take long (drop at xs) ≡ drop at xs
  whole_rest at xs long le = take_all long (drop at xs) (omega (arith, length-drop at xs, le))

  missing_rest : (at : ℕ) → NoCandidates (trellis n p) (drop at layers) → AreMissing n p (drop at fixes) (drop at labels)
  missing_rest at none =
      let count = length fixes in
      let long = length-map fixes (layer_of n p) in
      let labelled = labels_all n layers s.ranks is.ranks_count in
      let some = missing_part at count (subst (λ (ls : List Layer). NoCandidates (trellis n p) ls) (sym (whole_rest at layers count (omega (arith, long)))) none) in
      subst (λ (ls : List Label). AreMissing n p (drop at fixes) ls) (whole_rest at labels count (omega (arith, long, labelled)))
      (subst (λ (fs : List Fix). AreMissing n p fs (take count (drop at labels))) (whole_rest at fixes count (omega arith)) some)

  -- ---- a piece

  route_over : (piece : Piece) (rs : List ℕ) (cs : List Candidate) (es : List ℕ) → piece.first ≤ piece.last → piece.last < length fixes
      → AreChosen n p (from_to piece.first piece.last fixes) rs cs → from_to piece.first piece.last s.ranks ≡ map (λ r. Some r) rs
      → IsRouteOf n p layers s.ranks piece es → IsRouteOver n p cs es
  route_over piece rs [] es some below are ranked route =
      let count = chosen_count n p (from_to piece.first piece.last fixes) rs [] are in
      absurd (omega (arith, count.0, length_between fixes piece.first piece.last some below, some))
  route_over piece rs (c ∷ cs) es some below are ranked route =
      let count = chosen_count n p (from_to piece.first piece.last fixes) rs (c ∷ cs) are in
      let long : suc (length cs) ≡ piece.last + 1 - piece.first = omega (arith, count.0, length_between fixes piece.first piece.last some below) in
      let f : Fix = record { x = no_layer.point.x; y = no_layer.point.y; time = 0 } in
      let at_place : (k : ℕ) (d : Candidate) → k < suc (length cs) → chosen_at layers s.ranks (piece.first + k) ≡ get_or (c ∷ cs) k d =
      λ k d lt. chosen_at_place n p fixes s.ranks rs (c ∷ cs) piece.first piece.last k d f are ranked (omega (arith, long, lt)) (omega (arith, long, lt, some, below)) lt in
      let e : piece.first ≡ piece.first + 0 = omega arith in
      let here : chosen_at layers s.ranks piece.first ≡ c = ap (chosen_at layers s.ranks) e ∙ at_place 0 c (omega arith) in
      let steps : piece.last - piece.first ≡ length cs = omega (arith, long, some) in (
        route.rest,
        route.begins ∙ ap (λ (x : Candidate). x.edge.0 ∷ route.rest) here,
        added_of n p (chosen_at layers s.ranks) piece.first c cs route.rest here
            (λ k d lt. let q : piece.first + 1 + k ≡ piece.first + suc k = omega arith in ap (chosen_at layers s.ranks) q ∙ at_place (suc k) d (omega (arith, lt)))
            (subst (λ (k : ℕ). AreLegs n p.bound p.back (chosen_at layers s.ranks) piece.first k route.rest) steps route.legs_are),
      )

  least_piece : (piece : Piece) → IsLawful n → piece.first ≤ piece.last → piece.last < length fixes
      → IsMatchedPiece (trellis n p) layers s.ranks s.tables piece
      → IsRouteOf n p layers s.ranks piece (route_of n p layers s.ranks piece)
      → IsLeastPiece n p (from_to piece.first piece.last fixes) (from_to piece.first piece.last labels) (routed_of n p layers s.ranks piece)
  least_piece piece lawful some below matched route =
      let t = trellis n p in
      let part = part_map n p fixes piece.first (piece.last + 1 - piece.first) in
      let fs = from_to piece.first piece.last fixes in
      let best = best_of n p fs matched.chosen piece.cost lawful
      (subst (λ (ls : List Layer). IsBestOf t (reverse ls) piece.cost (reverse matched.chosen)) part matched.best) in
      let cs = reverse best.is.chosen in
      let are = chosen_in_order n p fs matched.chosen best.is.chosen best.is.are in
      record {
        ranks = matched.chosen;
        chosen = cs;
        edges = route_of n p layers s.ranks piece;
        best = best;
        are = are;
        labels_are = labels_part n layers s.ranks piece.first (piece.last + 1 - piece.first)
            ∙ ap (λ (ls : List Layer). labels_of n ls (from_to piece.first piece.last s.ranks)) part
            ∙ ap (labels_of n (map (layer_of n p) fs)) matched.ranks_are
            ∙ labels_chosen n p fs matched.chosen cs are;
        route = route_over piece matched.chosen cs (route_of n p layers s.ranks piece) some below are matched.ranks_are route;
        route_is = refl;
      }

  -- ---- all pieces

  abbrev HasRoute : Piece → Type 0
  HasRoute piece = IsRouteOf n p layers s.ranks piece (route_of n p layers s.ranks piece)

  abbrev IsFound : Piece → Type 0
  IsFound piece = IsMatchedPiece (trellis n p) layers s.ranks s.tables piece

  longest_part : (first count : ℕ) → IsLawful n → IsPiece (trellis n p) (drop first layers) count → IsLongest n p (drop first fixes) count
  longest_part first count lawful piece =
      longest_of n p (drop first fixes) count lawful (subst (λ (ls : List Layer). IsPiece (trellis n p) ls count) (drop-map (layer_of n p) first fixes) piece)

  least_pieces : (at : ℕ) (pieces : List Piece) → IsLawful n → ArePieces (trellis n p) layers at pieces → All IsFound pieces → All HasRoute pieces
      → AreLeastPieces n p fixes labels at (map (routed_of n p layers s.ranks) pieces)
  least_pieces at [] lawful are found routes = missing_rest at are
  least_pieces at (piece ∷ pieces) lawful are found routes =
      let within = are.3.within in
      let some = are.2 in
      let below : piece.last < length fixes = omega (arith, within, some, length-drop piece.first layers, length-map fixes (layer_of n p)) in (
        are.0,
        missing_part at (piece.first - at) are.1,
        some,
        longest_part piece.first (piece.last + 1 - piece.first) lawful are.3,
        least_piece piece lawful some below (All-head IsFound piece pieces found) (All-head HasRoute piece pieces routes),
        least_pieces (piece.last + 1) pieces lawful are.4 (All-tail IsFound piece pieces found) (All-tail HasRoute piece pieces routes),
      )

-- ---- the match

pub match_of-is_least : (n : Net) (p : Params) (trace : Trace) → IsLawful n → IsAccepted p → IsLawfulTrace trace → IsLeastMatch n p trace (match_of n p trace)
unfolding match_of
match_of-is_least n p trace lawful accepted trace_is =
    let t = trellis n p in
    let layers = layers_of n p trace in
    let v = solution t layers in
    let s : Solved = record { ranks = v.ranks; pieces = v.pieces; tables = v.tables } in
    let is : IsMatch t layers s.ranks s.pieces s.tables = solution_is_a_match t layers in
    let none : Piece = record { first = 0; last = 0; cost = 0 } in
    record {
      id = refl;
      labels = labels_all n layers s.ranks is.ranks_count ∙ length-map trace.fixes (layer_of n p);
      pieces = least_pieces n p trace.fixes s is 0 s.pieces lawful is.pieces_are is.each
          (λ k d lt. subst (λ (q : Piece). IsRouteOf n p layers s.ranks q (route_of n p layers s.ranks q)) (get_or_default s.pieces k none d lt)
          ((routes_value n p layers s k _ lawful (record { trace = matchable n p trace layers accepted trace_is refl; matched = is }) lt).1 refl));
    }

pub matches_are_least : MatchesAreLeast
matches_are_least n p trace matched lawful accepted trace_is =
    let least = match_of-is_least n p trace lawful accepted trace_is in (
      λ is. match-unique n p trace matched (match_of n p trace) is least,
      λ same. subst (IsLeastMatch n p trace) (sym same) least,
    )
