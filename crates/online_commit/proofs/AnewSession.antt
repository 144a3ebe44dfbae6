-- What a session is made of that begins anew. In this file layers and tables stand in the order of the points.
use Rattle.std.proofs.Common.{◌≡◌, ℕ, ◌+◌, ◌-◌, ◌^◌, ◌<◌, ◌≤◌, List, [], ◌∷◌, refl, sym, ap, subst, arith, length, get_or, ⊎_elim}
use Rattle.std.specs.List.{All}
use Rattle.std.proofs.lemmas.Bool.{cases_lt}
use Rattle.cost_model.specs.declared.params.Params.{Params}
use Rattle.road_network.specs.Net.{Net, IsLawful}
use Rattle.matching.specs.declared.parts.Cell.{Cell}
use Rattle.matching.specs.declared.parts.Layer.{Layer}
use Rattle.matching.specs.Cells.{IsLive}
use Rattle.matching.specs.Layers.{IsLayer, trellis}
use Rattle.matching.specs.Local.{AreFirst}
use Rattle.matching.specs.Pieces.{IsPiece}
use Rattle.matching.specs.PieceSteps.{PieceEndsBefore}
use Rattle.matching.proofs.Ends.{can_begin, ends_here}
use Rattle.matching.proofs.Fronts.{front-none}
use Rattle.matching.proofs.Lists.{all-cons}
use Rattle.matching.proofs.PieceSoFar.{IsGround, IsPieceSoFar, so_far_first}
use Rattle.online_commit.specs.declared.items.Item.{Item}
use Rattle.online_commit.specs.inside.Masks.{AreMasks, HasFewRanks, mask_at}
use Rattle.online_commit.specs.inside.Pieces.{IsBegun, IsExtended, Piece, alone, empty_piece, session_with}
use Rattle.online_commit.specs.Session.{IsFedLayer, fed_position_count}
use Rattle.online_commit.specs.inside.Steps.{IsKeptOf, IsSession, KeptSession, last_cells, last_layer, seen_session}
use Rattle.online_commit.proofs.Fresh.{IsFresh, fresh-committed}
use Rattle.online_commit.proofs.Passing.{IsTabled}
use Rattle.online_commit.proofs.Ranks.{first-ranks}

-- one point with candidates is a piece so far

pub one-piece : (n : Net) (p : Params) (l : Layer) → 0 < length l.candidates → IsPiece (trellis n p) (l ∷ []) 1
one-piece n p l some =
    ends_here (trellis n p) (l ∷ []) 1 (omega arith) (can_begin (trellis n p) (l ∷ []) l (record { below = omega arith; is = refl }) some) (λ lt can. omega (arith, lt))

-- a piece of which all points are kept
alone-kept : (n : Net) (p : Params) (a : Piece) → length a.masks ≡ length a.layers → (0 < length a.layers → AreMasks a.tables (mask_at a.masks) (length a.layers)) → IsKeptOf (session_with n p (alone a))
alone-kept n p a count masks = record {
  within = omega arith;
  first = omega arith;
  told = omega arith;
  layers = refl;
  tables = refl;
  masks_count = count;
  masks = masks;
  chosen = λ j i live lt. absurd (omega (arith, lt));
}

-- a point begins a piece
pub record BeginsPiece (n : Net) (p : Params) (i : ℕ) (l : Layer) (cells : List Cell) (new : Piece) (items : List Item) : Type 0 where
  pub some : 0 < length l.candidates
  pub first : AreFirst (trellis n p) l cells
  pub grown : IsExtended (empty_piece i) l cells new items

pub begun-fresh : (n : Net) (p : Params) (i : ℕ) (l : Layer) (cells : List Cell) (new : Piece) (items : List Item) → BeginsPiece n p i l cells new items → IsFresh (session_with n p (alone new)) [] l 0 items
begun-fresh n p i l cells new items h =
    let t = trellis n p in
    let ext = h.grown in
    let tabled : IsTabled t (l ∷ []) (cells ∷ []) = record { some = omega arith; count = refl; linked = h.first; piece = one-piece n p l h.some } in
    let first-cell = h.first.each 0 h.some in
    record {
      layers = ext.layers;
      told_is = ext.told;
      tabled = subst (λ ys. IsTabled t ys new.tables) (sym ext.layers) (subst (λ ts. IsTabled t (l ∷ []) ts) (sym ext.tables) tabled);
      low = 0;
      below = omega arith;
      mask = mask_at new.masks;
      masks = record { live = ext.masks.live; back = λ i high. ext.masks.back i };
      settled = ext.settled;
      rank = 0;
      live = subst (λ ts. IsLive (get_or ts (length ts - 1) []) 0) (sym ext.tables) (t.emission l 0, ap (λ c. c.cost) first-cell);
      front = front-none t;
    }

-- what a session is made of that begins anew

-- a session takes a point with which its piece does not go on
pub record BeginsAnew (s : KeptSession) (l : Layer) : Type 0 where
  pub lawful : IsLawful s.network
  pub session : IsSession s
  pub room : fed_position_count (seen_session s) < 100_000
  pub layer : IsFedLayer s.network s.params l
  pub ends : 0 < length s.layers → PieceEndsBefore (trellis s.network s.params) (last_layer s) (last_cells s) l

begun-session : (s : KeptSession) (l : Layer) (cells : List Cell) (new : Piece) (items : List Item) → BeginsAnew s l → BeginsPiece s.network s.params (fed_position_count (seen_session s)) l cells new items
    → IsSession (session_with s.network s.params (alone new))
begun-session s l cells new items h b =
    let n = s.network in
    let p = s.params in
    let is = h.session in
    let ext = b.grown in
    let room = h.room in
    let fresh = begun-fresh n p (fed_position_count (seen_session s)) l cells new items b in
    let len : length new.layers ≡ 1 = ap length ext.layers in
    let lent : length new.tables ≡ 1 = ap length ext.tables in
    let first : new.first ≡ fed_position_count (seen_session s) = ext.first in
    let few = h.layer.few in
    let ground : IsGround n p (l ∷ []) = record {
      lawful = h.lawful;
      trace = record {
        options = is.options;
        are = record {
          few = omega arith;
          each = all-cons (IsLayer n p) l [] h.layer.layer (λ k d lt. absurd (omega (arith, lt)));
          narrow = all-cons (λ (x : Layer). length x.candidates ≤ 2 ^ 32) l [] (omega (arith, few)) (λ k d lt. absurd (omega (arith, lt)));
        };
      };
    } in
    let so_far = so_far_first n p (l ∷ []) l cells ground (record { below = omega arith; is = refl }) b.some b.first in
    record {
      options = is.options;
      few = omega (arith, room, first, len);
      layers = subst (All (IsFedLayer n p)) (sym ext.layers) (all-cons (IsFedLayer n p) l [] h.layer (λ k d lt. absurd (omega (arith, lt))));
      ranks = subst (All HasFewRanks) (sym ext.tables) (all-cons HasFewRanks cells [] (first-ranks (trellis n p) l cells b.first h.layer.few) (λ k d lt. absurd (omega (arith, lt))));
      tables_count = omega (arith, len, lent);
      open_is = λ some. subst (λ ys. IsPieceSoFar n p ys new.tables) (sym ext.layers) (subst (λ ts. IsPieceSoFar n p (l ∷ []) ts) (sym ext.tables) so_far);
      kept = alone-kept n p new ext.masks_count (λ some. ext.masks);
      front = fresh-committed (session_with n p (alone new)) [] l 0 items fresh;
    }

empty-session : (s : KeptSession) (l : Layer) (new : Piece) → BeginsAnew s l → new ≡ empty_piece (fed_position_count (seen_session s) + 1) → IsSession (session_with s.network s.params (alone new))
empty-session s l new h e =
    let room = h.room in
    subst (λ a. IsSession (session_with s.network s.params (alone a))) (sym e)
    (record {
      options = h.session.options;
      few = omega (arith, room);
      layers = λ k d lt. absurd (omega (arith, lt));
      ranks = λ k d lt. absurd (omega (arith, lt));
      tables_count = refl;
      open_is = λ some. absurd (omega (arith, some));
      kept = alone-kept s.network s.params (empty_piece (fed_position_count (seen_session s) + 1)) refl (λ some. absurd (omega (arith, some)));
      front = front-none (trellis s.network s.params);
    })

pub anew-session : (s : KeptSession) (l : Layer) (new : Piece) (items : List Item) → BeginsAnew s l → IsBegun s.params (fed_position_count (seen_session s)) l new items → IsSession (session_with s.network s.params (alone new))
anew-session s l new items h b =
    ⊎_elim
    (λ some. let g = b.some some in begun-session s l g.0 new items h (record { some = some; first = g.1 s.network; grown = g.2 }))
    (λ few. empty-session s l new h (b.none (omega (arith, few))).0)
    (cases_lt 0 (length l.candidates))
