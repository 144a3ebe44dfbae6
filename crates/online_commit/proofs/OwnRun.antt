-- The open piece as a trace on its own. In this file layers and tables stand in the order of the points.
use Rattle.std.proofs.Common.{◌≡◌, ℕ, ◌+◌, ◌-◌, ◌<◌, List, [], ◌∷◌, refl, sym, ap, ◌∙◌, subst, arith, length, take, drop, reverse, unwrap_or}
use Rattle.std.proofs.Math.Seq.{take-length}
use Rattle.road_network.specs.Net.{IsLawful}
use Rattle.matching.specs.declared.parts.Cell.{Cell}
use Rattle.matching.specs.declared.parts.Piece.{Piece}
use Rattle.std.specs.Prelude.{Contains, zero, suc}
use Rattle.matching.specs.Asked.{IsAskedNodeIn}
use Rattle.matching.specs.Layers.{end_of, trellis}
use Rattle.matching.specs.Pieces.{IsPiece}
use Rattle.matching.specs.Local.{IsLeastCell, by_pointers}
use Rattle.matching.specs.Match.{IsPieceFrom}
use Rattle.matching.specs.PieceSteps.{AsksIn}
use Rattle.matching.specs.Places.{IsAt}
use Rattle.matching.specs.Sequences.{IsBest}
use Rattle.std.proofs.lemmas.List.{length-reverse}
use Rattle.matching.proofs.Costs.{cost-length}
use Rattle.matching.proofs.Matches.{match_all, match_none, match_piece, solved_from}
use Rattle.matching.proofs.WholePiece.{IsFollowed, in_asked, piece_from}
use Rattle.trellis.specs.declared.parts.Solved.{Solved}
use Rattle.route_rebuild.specs.Chosen.{IsSolved}
use Rattle.route_rebuild.specs.inside.ChosenRuns.{IsChosenRun}
use Rattle.route_rebuild.specs.Routes.{IsWalkStart}
use Rattle.route_rebuild.proofs.ChosenEnds.{chosen_asked}
use Rattle.route_rebuild.proofs.ChosenRun.{chosen_run}
use Rattle.online_commit.specs.inside.Steps.{IsSession, KeptSession, as_ranks, whole_piece}
use Rattle.online_commit.proofs.Extending.{session-ground, tabled-of}

-- what is read at the end of the open piece
pub record IsEndRead (s : KeptSession) (last : Cell) (c : ℕ) (ranks : List ℕ) : Type 0 where
  pub lawful : IsLawful s.network
  pub session : IsSession s
  pub some : 0 < length s.layers
  pub cells : List Cell
  pub at : IsAt s.tables (length s.tables - 1) cells
  pub least : IsLeastCell cells last
  pub cost-is : c ≡ unwrap_or (last.cost) 0
  pub ranks_are : reverse ranks ≡ by_pointers (reverse s.tables) (last.«from»)

own-from : (s : KeptSession) (last : Cell) (c : ℕ) (ranks : List ℕ) → IsEndRead s last c ranks → IsPieceFrom (trellis s.network s.params) s.layers 0 (whole_piece (length s.layers) c) ranks s.tables
own-from s last c ranks h =
    let count = h.session.tables_count in
    let followed : IsFollowed (trellis s.network s.params) (drop 0 s.layers) s.tables last c ranks = record {
      run = (h.session.open_is h.some).run;
      piece = subst (λ k. IsPiece (trellis s.network s.params) s.layers k) (sym count) (tabled-of s h.session h.some).piece;
      cells = h.cells;
      at = h.at;
      least = h.least;
      cost-is = h.cost-is;
      ranks_are = h.ranks_are;
    } in
    piece_from (trellis s.network s.params) s.layers 0 s.tables last (whole_piece (length s.layers) c) ranks followed refl (omega (arith, count))

-- its ranks are those of the best sequence
pub own-ranks : (s : KeptSession) (last : Cell) (c : ℕ) (ranks : List ℕ) → IsEndRead s last c ranks → IsBest (trellis s.network s.params) (reverse s.layers) c (reverse ranks)
own-ranks s last c ranks h =
    let some = h.some in
    let e : length s.layers - 1 + 1 - 0 ≡ length s.layers = omega (arith, some) in
    let best = (own-from s last c ranks h).best in
    subst (λ ys. IsBest (trellis s.network s.params) (reverse ys) c (reverse ranks)) (ap (λ k. take k s.layers) e ∙ take-length s.layers) best

own-solved : (s : KeptSession) (last : Cell) (c : ℕ) (ranks : List ℕ) → IsEndRead s last c ranks
    → IsSolved s.network s.params s.layers (record { ranks = as_ranks ranks; pieces = whole_piece (length s.layers) c ∷ []; tables = s.tables })
own-solved s last c ranks h =
    let t = trellis s.network s.params in
    let p = whole_piece (length s.layers) c in
    let some = h.some in
    let solved = solved_from t s.layers 0 p ranks s.tables (own-from s last c ranks h) in
    record {
      trace = (session-ground s h.session h.lawful).trace;
      matched = match_all t s.layers (0 + (p.last + 1 - 0)) (as_ranks ranks) (p ∷ []) s.tables
          (match_piece t s.layers 0 (p.last + 1 - 0) p [] [] [] ranks s.tables (match_none t s.layers) solved) (omega (arith, some));
    }

pub own-run : (s : KeptSession) (last : Cell) (c : ℕ) (ranks : List ℕ) → IsEndRead s last c ranks → IsChosenRun s.network s.params s.layers (as_ranks ranks) (whole_piece (length s.layers) c)
own-run s last c ranks h =
    let solved : Solved = record { ranks = as_ranks ranks; pieces = whole_piece (length s.layers) c ∷ []; tables = s.tables } in
    chosen_run s.network s.params s.layers solved 0 h.lawful (own-solved s last c ranks h) (omega arith)

one-of : (q x : Piece) → Contains (q ∷ []) x → x ≡ q
one-of q x (zero, lt, e) = sym e
one-of q x (suc k, lt, e) = absurd (omega (arith, lt))

-- the points of the open piece ask for each node where a walk of its route starts
pub own-asked : (s : KeptSession) (last : Cell) (c : ℕ) (ranks : List ℕ) (v : ℕ) → IsEndRead s last c ranks → IsWalkStart s.network s.params s.layers (as_ranks ranks) (whole_piece (length s.layers) c) v
    → AsksIn s.network s.params s.layers s.tables v
own-asked s last c ranks v h start =
    let n = s.network in
    let p = s.params in
    let q = whole_piece (length s.layers) c in
    let solved : Solved = record { ranks = as_ranks ranks; pieces = q ∷ []; tables = s.tables } in
    let count = h.session.tables_count in
    let asked = chosen_asked n p s.layers solved 0 h.lawful (own-solved s last c ranks h) (omega arith) v start in
    let only : asked.0 ≡ q = one-of q asked.0 asked.1 in
    in_asked n p s.layers 0 s.tables q v (h.session.open_is h.some).run refl (omega (arith, count)) (subst (λ x. IsAskedNodeIn (trellis n p) (end_of n) s.layers x v) only asked.2)

-- it has a rank for each point
pub own-count : (s : KeptSession) (last : Cell) (c : ℕ) (ranks : List ℕ) → IsEndRead s last c ranks → length ranks ≡ length s.layers
own-count s last c ranks h =
    sym (length-reverse ranks) ∙ cost-length (trellis s.network s.params) (reverse s.layers) (reverse ranks) c (own-ranks s last c ranks h).costs ∙ length-reverse s.layers
