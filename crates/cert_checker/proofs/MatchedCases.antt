-- A case whose proof is that of the match of its layers: its pieces and their points.
use Rattle.std.proofs.Common.{◌≡◌, ◌<◌, ◌≤◌, ℕ, zero, suc, ◌+◌, ◌-◌, true, List, [], ◌∷◌, length, get_or, map, drop, Option, Some, None, IfSome, subst, arith}
use Rattle.std.proofs.lemmas.List.{get_or-map, length-drop, length-map}
use Rattle.matching.specs.declared.parts.Piece.{Piece}
use Rattle.matching.specs.Match.{IsMatch, IsMatchedPiece}
use Rattle.matching.specs.Pieces.{ArePieces, IsPiece}
use Rattle.matching.specs.PieceSteps.{AsksTrace}
use Rattle.matching.specs.Sequences.{Trellis}
use Rattle.matching.proofs.LinkedOfCells.{linked_of_cells}
use Rattle.matching.proofs.Lists.{at-get_or}
use Rattle.matching.proofs.PieceSoFar.{IsGround}
use Rattle.match_text.specs.declared.matched.Routed.{Routed}
use Rattle.route_rebuild.specs.Chosen.{IsSolved}
use Rattle.route_rebuild.specs.Routes.{no_layer}
use Rattle.route_rebuild.proofs.ChosenRun.{length_between, point_chosen}
use Rattle.trellis.specs.declared.parts.Solved.{Solved}
use Rattle.trace_match.proofs.Points.{point_lies}
use Rattle.trace_match.proofs.Ranks.{are_ranked}
use Rattle.cert_checker.specs.Case.{Case, has_row, layer, rank, width}
use Rattle.cert_checker.specs.Verdicts.{piece_without_route}
use Rattle.cert_checker.proofs.PieceTests.{IsIn, RisesFrom, no_piece, piece_no}
use Rattle.cert_checker.proofs.RunPoints.{IsRunOf, layers_from, tables_in, trellis_of}
use Rattle.cert_checker.proofs.PieceConditions.{HasItsRoute}

-- the pieces without their routes
abbrev pub pieces_of : List Routed → List Piece
pieces_of pieces = map piece_without_route pieces

-- what a case stands on
abbrev pub IsGroundOf : Case → Type 0
IsGroundOf c = IsGround c.net c.params c.layers

-- the proof is that of the match of the layers, with the rows of all nodes that it asks for
pub record IsMatchOf (c : Case) : Type 0 where
  pub matched : IsMatch (trellis_of c) c.layers c.proof.ranks (pieces_of c.proof.pieces) c.proof.tables
  pub routes : (k : ℕ) → k < length c.proof.pieces → HasItsRoute c (piece_no c.proof.pieces k)
  pub asked : (v : ℕ) → AsksTrace c.net c.params c.layers (pieces_of c.proof.pieces) v → has_row c.rows v ≡ true

pub rises_from : {L : Type 0} (t : Trellis L) (layers : List L) (n : ℕ) (pieces : List Routed) → ArePieces t layers n (pieces_of pieces) → RisesFrom n pieces
rises_from t layers n [] are = tt
rises_from t layers n (q ∷ pieces) are = (are.0, (are.2, rises_from t layers (q.last + 1) pieces are.4))

piece_is : {L : Type 0} (t : Trellis L) (layers : List L) (n : ℕ) (pieces : List Routed) (k : ℕ) → ArePieces t layers n (pieces_of pieces) → k < length pieces
    → IsPiece t (drop (piece_no pieces k).first layers) ((piece_no pieces k).last + 1 - (piece_no pieces k).first) × ((piece_no pieces k).first ≤ (piece_no pieces k).last)
piece_is t layers n [] k are lt = absurd (omega (arith, lt))
piece_is t layers n (q ∷ pieces) zero are lt = (are.3, are.2)
piece_is t layers n (q ∷ pieces) (suc k) are lt = piece_is t layers (q.last + 1) pieces k are.4 (omega (arith, lt))

-- piece number k without its route
pub piece_there : (pieces : List Routed) (k : ℕ) → k < length pieces → get_or (pieces_of pieces) k (piece_without_route no_piece) ≡ piece_without_route (piece_no pieces k)
piece_there pieces k lt = get_or-map piece_without_route pieces k no_piece (piece_without_route no_piece) lt

pub matched_piece : (c : Case) (k : ℕ) → IsMatchOf c → k < length c.proof.pieces
    → IsMatchedPiece (trellis_of c) c.layers c.proof.ranks c.proof.tables (piece_without_route (piece_no c.proof.pieces k))
matched_piece c k h lt =
    subst (λ (p : Piece). IsMatchedPiece (trellis_of c) c.layers c.proof.ranks c.proof.tables p) (piece_there c.proof.pieces k lt)
    (h.matched.each k (piece_without_route no_piece) (omega (arith, lt, length-map c.proof.pieces piece_without_route)))

pub run_of : (c : Case) (k : ℕ) → IsMatchOf c → k < length c.proof.pieces → IsRunOf c (piece_no c.proof.pieces k)
run_of c k h lt =
    let q = piece_no c.proof.pieces k in
    let is = piece_is (trellis_of c) c.layers 0 c.proof.pieces k h.matched.pieces_are lt in
    let some = is.1 in
    let within = is.0.within in
    let left = length-drop q.first c.layers in
    let inside : q.last < length c.layers = omega (arith, within, left, some) in
    let tables = h.matched.tables_count in
    let count = length_between c.proof.tables q.first q.last some (omega (arith, inside, tables)) in
    let fits : length (tables_in c q) ≤ length (layers_from c q) = omega (arith, count, within) in
    record {
      some = some;
      inside = inside;
      tables = tables;
      piece = is.0;
      run = record {
        some = omega (arith, count, some);
        within = fits;
        linked = linked_of_cells (trellis_of c) (layers_from c q) (tables_in c q) (matched_piece c k h lt).cells fits;
      };
    }

-- a point with candidates is in a piece
pub point_in : (c : Case) (i : ℕ) → IsMatchOf c → i < length c.layers → 0 < width c i → (k : ℕ) × (k < length c.proof.pieces) × IsIn i (piece_no c.proof.pieces k)
point_in c i h lt some =
    let lies = point_lies (trellis_of c) c.layers 0 (pieces_of c.proof.pieces) i no_layer h.matched.pieces_are (omega arith) lt some in
    let below = lies.1.below in
    let k_in : lies.0 < length c.proof.pieces = omega (arith, below, length-map c.proof.pieces piece_without_route) in
    let same = piece_there c.proof.pieces lies.0 k_in in
    (lies.0, k_in, (subst (λ (p : Piece). p.first ≤ i) same lies.1.after_first, subst (λ (p : Piece). i ≤ p.last) same lies.1.to_last))

-- the rank of a point of a piece
pub rank_in : (c : Case) (k i : ℕ) (h : IsMatchOf c) (lt : k < length c.proof.pieces) → IsIn i (piece_no c.proof.pieces k)
    → rank c i ≡ Some (get_or (matched_piece c k h lt).chosen (i - (piece_no c.proof.pieces k).first) 0)
rank_in c k i h lt in_q =
    let q = piece_no c.proof.pieces k in
    let m = matched_piece c k h lt in
    let inside = (run_of c k h lt).inside in
    let count = h.matched.ranks_count in
    (point_chosen c.proof.ranks m.chosen q.first q.last i m.ranks_are (record { from_first = in_q.0; to_last = in_q.1; inside = omega (arith, inside, count) })).1

pub chosen_count : (c : Case) (k : ℕ) (h : IsMatchOf c) (lt : k < length c.proof.pieces)
    → length (matched_piece c k h lt).chosen ≡ (piece_no c.proof.pieces k).last + 1 - (piece_no c.proof.pieces k).first
chosen_count c k h lt =
    let q = piece_no c.proof.pieces k in
    let m = matched_piece c k h lt in
    let run = run_of c k h lt in
    let inside = run.inside in
    let count = h.matched.ranks_count in
    (point_chosen c.proof.ranks m.chosen q.first q.last q.first m.ranks_are (record { from_first = omega arith; to_last = run.some; inside = omega (arith, inside, count) })).0

if_some : (P : ℕ → Type 0) (o : Option ℕ) (r : ℕ) → o ≡ Some r → IfSome o P → P r
if_some P None r e h = absurd (cc)
if_some P (Some s) r e h = let same : s ≡ r = cc in subst P same h

pub rank_below : (c : Case) (i r : ℕ) → IsGroundOf c → IsMatchOf c → i < length c.layers → rank c i ≡ Some r → r < width c i
rank_below c i r ground h lt e =
    let s : Solved = record { ranks = c.proof.ranks; pieces = pieces_of c.proof.pieces; tables = c.proof.tables } in
    let is : IsSolved c.net c.params c.layers s = record { trace = ground.trace; matched = h.matched } in
    let ranked = (are_ranked c.net c.params c.layers s ground.lawful is).each i (layer c i) (at-get_or c.layers i no_layer lt) in
    if_some (λ v. v < width c i) (rank c i) r e ranked.among
