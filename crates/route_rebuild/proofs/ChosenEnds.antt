-- The trace asks for each node where a walk of a piece's route starts.
use Rattle.std.proofs.Common.{◌≡◌, ℕ, zero, suc, ◌+◌, ◌-◌, ◌<◌, ◌≤◌, IsTrue, List, [], ◌∷◌, ◌++◌, Some, None, sym, ap, ◌∙◌, subst, arith, length, take, drop, reverse, get_or}
use Rattle.std.specs.Prelude.{unwrap_or}
use Rattle.std.proofs.lemmas.List.{length-drop, length-reverse, reverse-append, take-append-drop, take-take}
use Rattle.std.proofs.lemmas.List.Elements.{Contains-get_or}
use Rattle.std.proofs.lemmas.Option.{slice_get-get_or}
use Rattle.std.proofs.Math.Seq.{drop-append_seam, drop-cons}
use Rattle.cost_model.specs.declared.params.Params.{Params}
use Rattle.road_network.specs.Net.{Net, IsLawful}
use Rattle.matching.specs.declared.parts.Layer.{Layer}
use Rattle.matching.specs.declared.parts.Piece.{Piece}
use Rattle.matching.specs.Layers.{trellis}
use Rattle.matching.specs.PieceSteps.{AsksTrace}
use Rattle.matching.specs.Match.{IsMatchedPiece, from_to}
use Rattle.matching.specs.Pieces.{AreNear, ArePieces, IsPiece}
use Rattle.matching.specs.Sequences.{Trellis, IsRankReached, cost}
use Rattle.matching.proofs.Costs.{cost-length, cost-parts}
use Rattle.route_rebuild.specs.Chosen.{IsSolved}
use Rattle.route_rebuild.specs.inside.ChosenRuns.{IsChosenPoint}
use Rattle.route_rebuild.specs.Routes.{IsWalkStart, no_layer, piece_at}
use Rattle.route_rebuild.proofs.ChosenRun.{IsInPiece, between, chosen_run, length_between, pieces_within, point_rank}
use Rattle.trellis.specs.declared.parts.Solved.{Solved}

-- a piece of a match is the longest from its first point on
pub piece_is : {L : Type 0} (t : Trellis L) (layers : List L) (at : ℕ) (pieces : List Piece) (k : ℕ)
    → ArePieces t layers at pieces → k < length pieces
    → IsPiece t (drop (piece_at pieces k).first layers) ((piece_at pieces k).last + 1 - (piece_at pieces k).first)
piece_is t layers at [] k are lt = absurd (omega (arith, lt))
piece_is t layers at (p ∷ pieces) zero are lt = are.3
piece_is t layers at (p ∷ pieces) (suc k) are lt = piece_is t layers (p.last + 1) pieces k are.4 (omega (arith, lt))

-- what is left of a sequence without its last m points is a sequence
cost_earlier : {L : Type 0} (t : Trellis L) (layers : List L) (ranks : List ℕ) (c m : ℕ) → cost t layers ranks ≡ Some c → m < length layers
    → (d : ℕ) × (cost t (drop m layers) (drop m ranks) ≡ Some d)
cost_earlier t [] ranks c m h lt = absurd (omega (arith, lt))
cost_earlier t (l ∷ layers) [] c m h lt = absurd (cc)
cost_earlier t (l ∷ layers) (j ∷ ranks) c zero h lt = (c, h)
cost_earlier t (l ∷ []) (j ∷ ranks) c (suc m) h lt = absurd (omega (arith, lt))
cost_earlier t (l ∷ h1 ∷ layers) (j ∷ []) c (suc m) h lt = absurd (let len = cost-length t (l ∷ h1 ∷ layers) (j ∷ []) c h in omega (arith, len))
cost_earlier t (l ∷ h1 ∷ layers) (j ∷ a ∷ ranks) c (suc m) h lt =
    let p = cost-parts t h1 layers a ranks l j c h in
    cost_earlier t (h1 ∷ layers) (a ∷ ranks) p.before m p.before-is (omega (arith, lt))

-- a reversed list without its first m elements
drop-reverse : {X : Type 0} (xs : List X) (m k : ℕ) → m + k ≡ length xs → drop m (reverse xs) ≡ reverse (take k xs)
drop-reverse xs m k e =
    let front = reverse (drop k xs) in
    let len : length front ≡ m = length-reverse (drop k xs) ∙ omega (arith, e, length-drop k xs) in
    let whole : reverse xs ≡ front ++ reverse (take k xs) = ap reverse (sym (take-append-drop k xs)) ∙ reverse-append (take k xs) (drop k xs) in
    ap (drop m) whole ∙ ap (λ i. drop i (front ++ reverse (take k xs))) (sym len) ∙ drop-append_seam front (reverse (take k xs))

near_at : {L : Type 0} (t : Trellis L) (layers : List L) (k : ℕ) (d : L) → AreNear t layers → suc k < length layers → IsTrue (t.near (get_or layers k d) (get_or layers (suc k) d))
near_at t [] k d h lt = absurd (omega (arith, lt))
near_at t (l ∷ []) k d h lt = absurd (omega (arith, lt))
near_at t (l ∷ m ∷ layers) zero d h lt = h.0
near_at t (l ∷ m ∷ layers) (suc k) d h lt = near_at t (m ∷ layers) k d h.1 (omega (arith, lt))

-- neighbouring points of a piece are near in time
near_in : {L : Type 0} (t : Trellis L) (layers : List L) (first last i : ℕ) (d : L)
    → AreNear t (from_to first last layers) → first ≤ i → i < last → last < length layers → IsTrue (t.near (get_or layers i d) (get_or layers (i + 1) d))
near_in t layers first last i d near ge less inside =
    let len = length_between layers first last (omega (arith, ge, less)) inside in
    let k = i - first in
    let here : first + k ≡ i = omega (arith, ge) in
    let next : first + suc k ≡ i + 1 = omega (arith, ge) in
    let here_is : get_or (from_to first last layers) k d ≡ get_or layers i d = between layers first last k d (omega (arith, ge, less)) ∙ ap (λ j. get_or layers j d) here in
    let next_is : get_or (from_to first last layers) (suc k) d ≡ get_or layers (i + 1) d = between layers first last (suc k) d (omega (arith, ge, less)) ∙ ap (λ j. get_or layers j d) next in
    subst (λ x. IsTrue (t.near x (get_or layers (i + 1) d))) here_is
    (subst (λ x. IsTrue (t.near (get_or (from_to first last layers) k d) x)) next_is
    (near_at t (from_to first last layers) k d near (omega (arith, len, ge, less))))

-- the chosen candidate of a point ends a sequence from the piece's first point on
chosen_reached : {L : Type 0} (t : Trellis L) (layers : List L) (s : Solved) (piece : Piece) (i : ℕ)
    → IsMatchedPiece t layers s.ranks s.tables piece → length s.ranks ≡ length layers → IsInPiece piece.first piece.last (length layers) i
    → IsRankReached t (reverse (take (i + 1 - piece.first) (drop piece.first layers))) (unwrap_or (get_or s.ranks i None) 0)
chosen_reached t layers s piece i m count place =
    let first = piece.first in
    let last = piece.last in
    let ge = place.from_first in
    let le = place.to_last in
    let inside = place.inside in
    let points = from_to first last layers in
    let back = reverse points in
    let len = length_between layers first last (omega (arith, ge, le)) inside in
    let long : length back ≡ last + 1 - first = length-reverse points ∙ len in
    let chosen : List ℕ = reverse m.chosen in
    let same_count : length chosen ≡ length back = cost-length t back chosen piece.cost m.best.costs in
    let q = last - i in
    let earlier = cost_earlier t back chosen piece.cost q m.best.costs (omega (arith, long, ge, le)) in
    let points-are : drop q back ≡ reverse (take (i + 1 - first) (drop first layers)) =
    drop-reverse points q (i + 1 - first) (omega (arith, len, ge, le)) ∙ ap reverse (take-take (i + 1 - first) (last + 1 - first) (drop first layers) (omega (arith, le))) in
    let rank-is : get_or chosen q 0 ≡ unwrap_or (get_or s.ranks i None) 0 = point_rank s.ranks m.chosen first last i m.ranks_are (record { from_first = ge; to_last = le; inside = omega (arith, inside, count) }) in
    let ranks_are : drop q chosen ≡ unwrap_or (get_or s.ranks i None) 0 ∷ drop (suc q) chosen =
    drop-cons chosen q 0 (omega (arith, same_count, long, ge, le)) ∙ ap (λ r. r ∷ drop (suc q) chosen) rank-is in (
      earlier.0,
      drop (suc q) chosen,
      subst (λ xs. cost t xs (unwrap_or (get_or s.ranks i None) 0 ∷ drop (suc q) chosen) ≡ Some earlier.0) points-are
          (subst (λ rs. cost t (drop q back) rs ≡ Some earlier.0) ranks_are earlier.1),
    )

-- the trace asks for each node where a walk of this piece starts
abbrev pub EndsAreAsked : Net → Params → List Layer → Solved → ℕ → Type 0
EndsAreAsked n p layers s k = (v : ℕ) → IsWalkStart n p layers s.ranks (piece_at s.pieces k) v → AsksTrace n p layers s.pieces v

pub chosen_asked : (n : Net) (p : Params) (layers : List Layer) (s : Solved) (k : ℕ) → IsLawful n → IsSolved n p layers s → k < length s.pieces → EndsAreAsked n p layers s k
chosen_asked n p layers s k lawful is lt v (i, ge, less, long, end) =
    let t : Trellis Layer = trellis n p in
    let none : Piece = record { first = 0; last = 0; cost = 0 } in
    let piece : Piece = piece_at s.pieces k in
    let within = pieces_within t layers 0 s.pieces k none is.matched.pieces_are lt in
    let inside = within.inside in
    let whole : IsPiece t (drop piece.first layers) (piece.last + 1 - piece.first) = piece_is t layers 0 s.pieces k is.matched.pieces_are lt in
    let run = chosen_run n p layers s k lawful is lt in
    let next : IsChosenPoint layers s.ranks (i + 1) = run.points (i + 1) (omega (arith, ge)) (omega (arith, less)) in
    let among = next.among in
    let le : i ≤ piece.last = omega (arith, less) in (
      piece,
      Contains-get_or s.pieces k none lt,
      (
        i,
        record {
          after_first = ge;
          to_last = le;
          here = get_or layers i no_layer;
          next = get_or layers (i + 1) no_layer;
          rank = unwrap_or (get_or s.ranks i None) 0;
          here_is = slice_get-get_or layers i no_layer (omega (arith, le, inside));
          next_is = slice_get-get_or layers (i + 1) no_layer next.layer;
          next_some = omega (arith, among);
          near = near_in t layers piece.first piece.last i no_layer whole.can.near ge less inside;
          reached = chosen_reached t layers s piece i (is.matched.each k none lt) is.matched.ranks_count (record { from_first = ge; to_last = le; inside = inside });
          node_is = sym end;
        },
      ),
    )
