-- A session whose open piece goes on. In this file layers and tables stand in the order of the points.
use Rattle.std.proofs.Common.{◌≡◌, ℕ, ◌+◌, ◌-◌, ◌^◌, ◌<◌, ◌≤◌, List, [], ◌∷◌, ◌++◌, sym, ap, ◌∙◌, subst, arith, length, take, drop, reverse, get_or}
use Rattle.std.specs.List.{All}
use Rattle.std.proofs.lemmas.List.{get_or-drop, get_or_append_left, length-append, length-drop, length-reverse, length_push, take-append-le}
use Rattle.std.proofs.Math.Seq.{get_or-append_seam, take-length}
use Rattle.cost_model.specs.declared.params.Params.{Params}
use Rattle.road_network.specs.Net.{Net, IsLawful}
use Rattle.matching.specs.declared.parts.Cell.{Cell}
use Rattle.matching.specs.declared.parts.Layer.{Layer}
use Rattle.matching.specs.Layers.{IsLayer, trellis}
use Rattle.matching.specs.Local.{AreLinked}
use Rattle.matching.specs.Pieces.{AreNear, IsPiece}
use Rattle.matching.specs.PieceSteps.{PieceGoesOn}
use Rattle.matching.specs.Places.{IsAt}
use Rattle.matching.specs.Sequences.{HasSequence}
use Rattle.matching.proofs.Lists.{all-at, all-push, at-get_or}
use Rattle.matching.proofs.PieceSoFar.{IsGround, IsPieceSoFar, IsStepAt, so_far_all, so_far_more}
use Rattle.matching.proofs.Runs.{EndsWith}
use Rattle.route_rebuild.specs.Routes.{no_layer}
use Rattle.online_commit.specs.inside.Masks.{AreMasks, HasFewRanks, mask_at}
use Rattle.online_commit.specs.inside.Pieces.{MayGrow, Piece}
use Rattle.online_commit.specs.Session.{IsFedLayer, fed_position_count}
use Rattle.online_commit.specs.inside.Steps.{IsSession, KeptSession, last_cells, last_layer, seen_session}
use Rattle.online_commit.proofs.Passing.{IsTabled}
use Rattle.online_commit.proofs.Ranks.{next-ranks}

abbrev pub piece_part : KeptSession → Piece
piece_part s = record { first = s.kept_first; told = s.kept_told; layers = s.kept_layers; tables = s.kept_tables; masks = s.masks }

-- what a session stands on
pub session-ground : (s : KeptSession) → IsSession s → IsLawful s.network → IsGround s.network s.params s.layers
session-ground s is lawful = record {
  lawful = lawful;
  trace = record {
    options = is.options;
    are = record {
      few = let f = is.few in omega (arith, f);
      each = λ k d lt. (is.layers k d lt).layer;
      narrow = λ k d lt. let n = (is.layers k d lt).few in omega (arith, n);
    };
  };
}

pub tabled-of : (s : KeptSession) → IsSession s → 0 < length s.layers → IsTabled (trellis s.network s.params) s.layers s.tables
tabled-of s is some =
    let t = trellis s.network s.params in
    let so_far = is.open_is some in
    let count = is.tables_count in
    let whole-is : take (length s.tables) s.layers ≡ s.layers = ap (λ k. take k s.layers) count ∙ take-length s.layers in
    record {
      some = some;
      count = count;
      linked = subst (λ xs. AreLinked t (reverse xs) (reverse s.tables)) whole-is so_far.run.linked;
      piece = subst (λ k. IsPiece t s.layers k) count (so_far_all s.network s.params s.layers s.tables so_far (omega (arith, count)));
    }

-- a piece so far, where more points come
pub so_far-longer : (n : Net) (p : Params) (xs more : List Layer) (tables : List (List Cell)) → IsPieceSoFar n p xs tables → IsPieceSoFar n p (xs ++ more) tables
so_far-longer n p xs more tables h =
    let t = trellis n p in
    let within = h.run.within in
    let same : take (length tables) (xs ++ more) ≡ take (length tables) xs = take-append-le (length tables) xs more within in
    record {
      run = record {
        some = h.run.some;
        within = omega (arith, within, length-append xs more);
        linked = subst (λ ys. AreLinked t (reverse ys) (reverse tables)) (sym same) h.run.linked;
      };
      can = record {
        near = subst (λ ys. AreNear t ys) (sym same) h.can.near;
        sequence = subst (λ ys. HasSequence t (reverse ys)) (sym same) h.can.sequence;
      };
      slow = h.slow;
    }

-- the last point of the open piece
pub last-ends : (s : KeptSession) → IsSession s → 0 < length s.layers → EndsWith s.layers s.tables (last_layer s) (last_cells s)
last-ends s is some =
    let count = is.tables_count in
    let e : length s.layers - 1 ≡ length s.tables - 1 = omega (arith, count) in
    record {
      layer = subst (λ k. IsAt s.layers k (last_layer s)) e (at-get_or s.layers (length s.layers - 1) no_layer (omega (arith, some)));
      table = subst (λ k. IsAt s.tables k (last_cells s)) e (at-get_or s.tables (length s.layers - 1) [] (omega (arith, some, count)));
    }

-- the session goes on to this point with these cells
pub record GoesOnTo (s : KeptSession) (l : Layer) (cells : List Cell) : Type 0 where
  pub lawful : IsLawful s.network
  pub session : IsSession s
  pub room : fed_position_count (seen_session s) < 100_000
  pub layer : IsFedLayer s.network s.params l
  pub some : 0 < length s.layers
  pub goes : PieceGoesOn (trellis s.network s.params) (last_layer s) (last_cells s) l cells

pub new-ranks : (s : KeptSession) (l : Layer) (cells : List Cell) → GoesOnTo s l cells → HasFewRanks cells
new-ranks s l cells h =
    let last = last-ends s h.session h.some in
    next-ranks (trellis s.network s.params) (last_layer s) (last_cells s) l cells h.goes.next h.layer.few
    (all-at (IsFedLayer s.network s.params) s.layers (length s.tables - 1) (last_layer s) h.session.layers last.layer).few

all-drop : {X : Type 0} (P : X → Type 0) (n : ℕ) (xs : List X) → All P xs → All P (drop n xs)
all-drop P n xs h = λ k d lt. subst P (sym (get_or-drop n xs k d)) (h (n + k) d (omega (arith, lt, length-drop n xs)))

-- how many points are kept
pub kept-count : (s : KeptSession) → IsSession s → length s.kept_layers + length s.settled ≡ length s.layers
kept-count s is =
    let kept = is.kept in
    let within = kept.within in
    let all = ap length kept.layers in
    omega (arith, within, all, length-drop (length s.settled) s.layers)

pub kept-even : (s : KeptSession) → IsSession s → length s.kept_tables ≡ length s.kept_layers
kept-even s is =
    let count = is.tables_count in
    let kept = is.kept in
    let one = ap length kept.layers in
    let two = ap length kept.tables in
    omega (arith, count, one, two, length-drop (length s.settled) s.layers, length-drop (length s.settled) s.tables)

pub may-grow : (s : KeptSession) (l : Layer) (cells : List Cell) → GoesOnTo s l cells → MayGrow (piece_part s) cells
may-grow s l cells h =
    let is = h.session in
    let kept = is.kept in
    let count = kept-count s is in
    let even = kept-even s is in
    let first = kept.first in
    let told = kept.told in
    let room = h.room in
    record {
      few = omega (arith, room, count, first);
      tables_count = even;
      masks_count = kept.masks_count;
      masks_are = λ lt. subst (λ k. AreMasks s.kept_tables (mask_at s.masks) k) (sym even) (kept.masks (omega (arith, lt, even)));
      ranks = subst (All HasFewRanks) (sym kept.tables) (all-drop HasFewRanks (length s.settled) s.tables is.ranks);
      cells_few = new-ranks s l cells h;
      told = let w = is.front.within in omega (arith, w, length-reverse s.layers, told, count);
    }

pub grown-so_far : (s : KeptSession) (l : Layer) (cells : List Cell) → GoesOnTo s l cells → IsPieceSoFar s.network s.params (s.layers ++ l ∷ []) (s.tables ++ cells ∷ [])
grown-so_far s l cells h =
    let is = h.session in
    let n = s.network in
    let p = s.params in
    let xs = s.layers ++ l ∷ [] in
    let count = is.tables_count in
    let room = h.room in
    let last = last-ends s is h.some in
    let ground : IsGround n p xs = record {
      lawful = h.lawful;
      trace = record {
        options = is.options;
        are = record {
          few = omega (arith, room, length_push s.layers l);
          each = all-push (IsLayer n p) s.layers l (λ k d lt. (is.layers k d lt).layer) h.layer.layer;
          narrow = all-push (λ (x : Layer). length x.candidates ≤ 2 ^ 32) s.layers l (λ k d lt. let f = (is.layers k d lt).few in omega (arith, f)) (let f = h.layer.few in omega (arith, f));
        };
      };
    } in
    let step : IsStepAt n p xs s.tables (last_layer s) l (last_cells s) = record {
      ends = record {
        layer = record {
          below = let b = last.layer.below in omega (arith, b, length_push s.layers l);
          is = last.layer.is ∙ sym (get_or_append_left s.layers (l ∷ []) (last_layer s) (length s.tables - 1) last.layer.below);
        };
        table = last.table;
      };
      at = record {
        below = omega (arith, count, length_push s.layers l);
        is = sym (ap (λ k. get_or xs k l) count ∙ get_or-append_seam s.layers l [] l);
      };
    } in
    so_far_more n p xs s.tables (last_layer s) l (last_cells s) cells ground (so_far-longer n p s.layers (l ∷ []) s.tables (is.open_is h.some)) step h.goes
