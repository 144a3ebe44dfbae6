-- A proof of the match of a trace, and the case that it makes.
use Rattle.std.proofs.Common.{◌≡◌, ◌<◌, ℕ, suc, List, [], ◌∷◌, length, map, Option, refl, sym, ◌∙◌, ap, subst, arith}
use Rattle.std.proofs.lemmas.List.{get_or-map, length-map}
use Rattle.cost_model.specs.declared.params.Params.{Params}
use Rattle.road_network.specs.Net.{Net, edge_name}
use Rattle.trace_reader.specs.declared.trace.Trace.{Trace}
use Rattle.bounded_table.specs.Table.{TableRow}
use Rattle.matching.specs.declared.parts.Cell.{Cell}
use Rattle.matching.specs.declared.parts.Layer.{Layer}
use Rattle.matching.specs.declared.parts.Piece.{Piece}
use Rattle.matching.specs.AskedValue.{is_asked_node}
use Rattle.matching.specs.Layers.{end_of, trellis}
use Rattle.matching.specs.Match.{IsMatch}
use Rattle.matching.specs.PieceSteps.{AsksTrace}
use Rattle.matching.specs.Value.{Solution}
use Rattle.matching.proofs.Asking.{is_asked_node-tells}
use Rattle.matching.proofs.SolutionMatches.{solution_is_a_match}
use Rattle.matching.proofs.Values.{solution-is}
use Rattle.match_text.specs.declared.matched.Routed.{Routed}
use Rattle.route_rebuild.specs.Routes.{route_of}
use Rattle.trace_match.specs.Match.{asks, layers_of, match_of, routed_of, solution_of}
use Rattle.potential_certificate.specs.declared.proof.TraceProof.{TraceProof}
use Rattle.cert_checker.specs.Laws.{HasAskedRows, IsProofOf}
use Rattle.cert_checker.specs.Verdicts.{case_of, piece_without_route}
use Rattle.cert_checker.proofs.PieceTests.{no_piece, piece_no}
use Rattle.cert_checker.proofs.MatchedCases.{IsMatchOf, pieces_of}

-- the routed pieces of a match
abbrev matched_pieces : Net → Params → Trace → Solution → List Routed
matched_pieces n p trace s = map (routed_of n p (layers_of n p trace) s.ranks) s.pieces

pieces_are : (n : Net) (p : Params) (trace : Trace) → (match_of n p trace).pieces ≡ matched_pieces n p trace (solution_of n p trace)
unfolding match_of
pieces_are n p trace = refl

-- each piece has its route
abbrev HaveRoutes : Net → Params → List Layer → List (Option ℕ) → List Routed → Type 0
HaveRoutes n p layers ranks pieces =
    (k : ℕ) → k < length pieces → (piece_no pieces k).route ≡ map (edge_name n) (route_of n p layers ranks (piece_without_route (piece_no pieces k)))

unrouted : (n : Net) (p : Params) (layers : List Layer) (ranks : List (Option ℕ)) (pieces : List Piece) → pieces_of (map (routed_of n p layers ranks) pieces) ≡ pieces
unrouted n p layers ranks [] = refl
unrouted n p layers ranks (q ∷ pieces) = ap (λ ps. q ∷ ps) (unrouted n p layers ranks pieces)

have_routes : (n : Net) (p : Params) (layers : List Layer) (ranks : List (Option ℕ)) (pieces : List Piece) → HaveRoutes n p layers ranks (map (routed_of n p layers ranks) pieces)
have_routes n p layers ranks pieces k lt =
    let none : Piece = record { first = 0; last = 0; cost = 0 } in
    let e = get_or-map (routed_of n p layers ranks) pieces k none no_piece (omega (arith, lt, length-map pieces (routed_of n p layers ranks))) in
    subst (λ (q : Routed). q.route ≡ map (edge_name n) (route_of n p layers ranks (piece_without_route q))) (sym e) refl

routed_is : (n : Net) (p : Params) (layers : List Layer) (ranks : List (Option ℕ)) (q : Routed) → q.route ≡ map (edge_name n) (route_of n p layers ranks (piece_without_route q)) → q ≡ routed_of n p layers ranks (piece_without_route q)
routed_is n p layers ranks q e i = record { first = q.first; last = q.last; cost = q.cost; route = e i }

rerouted : (n : Net) (p : Params) (layers : List Layer) (ranks : List (Option ℕ)) (pieces : List Routed) → HaveRoutes n p layers ranks pieces
    → pieces ≡ map (routed_of n p layers ranks) (pieces_of pieces)
rerouted n p layers ranks [] h = refl
rerouted n p layers ranks (q ∷ pieces) h =
    ap (λ x. x ∷ pieces) (routed_is n p layers ranks q (h 0 (omega arith)))
    ∙ ap (λ ps. routed_of n p layers ranks (piece_without_route q) ∷ ps) (rerouted n p layers ranks pieces (λ k lt. h (suc k) (omega (arith, lt))))

pub asks_are : (n : Net) (p : Params) (trace : Trace) (v : ℕ) → asks n p trace v ≡ is_asked_node (trellis n p) (end_of n) (layers_of n p trace) (solution_of n p trace).pieces v
unfolding asks
asks_are n p trace v = refl

-- a proof of the match makes a case that is matched
pub case_matched : (n : Net) (p : Params) (rows : List TableRow) (trace : Trace) (proof : TraceProof) → IsProofOf n p trace proof → HasAskedRows n p rows trace → IsMatchOf (case_of n p rows trace proof)
case_matched n p rows trace proof h rows_there =
    let t = trellis n p in
    let layers = layers_of n p trace in
    let s = solution_of n p trace in
    let routed = h.pieces ∙ pieces_are n p trace in
    let pieces : pieces_of proof.pieces ≡ s.pieces = ap pieces_of routed ∙ unrouted n p layers s.ranks s.pieces in
    record {
      matched =
          subst (λ (r : List (Option ℕ)). IsMatch t layers r (pieces_of proof.pieces) proof.tables) (sym h.ranks)
          (subst (λ (ps : List Piece). IsMatch t layers s.ranks ps proof.tables) (sym pieces)
          (subst (λ (ts : List (List Cell)). IsMatch t layers s.ranks s.pieces ts) (sym h.tables) (solution_is_a_match t layers)));
      routes =
          subst (λ (r : List (Option ℕ)). HaveRoutes n p layers r proof.pieces) (sym h.ranks)
          (subst (λ (ps : List Routed). HaveRoutes n p layers s.ranks ps) (sym routed) (have_routes n p layers s.ranks s.pieces));
      asked = λ v asked.
          rows_there v (asks_are n p trace v ∙ (is_asked_node-tells t (end_of n) layers s.pieces v).0 (subst (λ (ps : List Piece). AsksTrace n p layers ps v) pieces asked));
    }

-- and a case that is matched comes from a proof of the match
pub matched_case : (n : Net) (p : Params) (rows : List TableRow) (trace : Trace) (proof : TraceProof) → IsMatchOf (case_of n p rows trace proof) → IsProofOf n p trace proof × HasAskedRows n p rows trace
matched_case n p rows trace proof h =
    let t = trellis n p in
    let layers = layers_of n p trace in
    let found : Solution = record { ranks = proof.ranks; pieces = pieces_of proof.pieces; tables = proof.tables } in
    let same : solution_of n p trace ≡ found = solution-is t layers proof.ranks (pieces_of proof.pieces) proof.tables h.matched in
    let is : IsProofOf n p trace proof = record {
      ranks = ap (λ (s : Solution). s.ranks) (sym same);
      tables = ap (λ (s : Solution). s.tables) (sym same);
      pieces = rerouted n p layers proof.ranks proof.pieces h.routes ∙ ap (matched_pieces n p trace) (sym same) ∙ sym (pieces_are n p trace);
    } in (
      is,
      λ v asked.
          let tells = is_asked_node-tells t (end_of n) layers (solution_of n p trace).pieces v in
          h.asked v (subst (λ (s : Solution). AsksTrace n p layers s.pieces v) same (tells.1 (sym (asks_are n p trace v) ∙ asked))),
    )
