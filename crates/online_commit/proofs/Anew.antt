-- A session in which a point begins anew. In this file layers and tables stand in the order of the points.
use Rattle.std.proofs.Common.{◌≡◌, ℕ, ◌+◌, ◌-◌, ◌<◌, List, [], ◌∷◌, ◌++◌, None, refl, sym, ap, ◌∙◌, subst, arith, length, take, drop, reverse, get_or, ⊎_elim}
use Rattle.std.proofs.lemmas.Bool.{cases_lt}
use Rattle.std.proofs.lemmas.List.{drop-append-le, drop_all, get_or-append-add, get_or_append_left, length_push, take-append-le}
use Rattle.std.proofs.Math.Seq.{drop-append_seam, get_or-append_seam}
use Rattle.cost_model.specs.declared.params.Params.{Params}
use Rattle.road_network.specs.Net.{Net}
use Rattle.matching.specs.declared.parts.Cell.{Cell}
use Rattle.matching.specs.declared.parts.Layer.{Layer}
use Rattle.matching.specs.declared.parts.Piece.{Piece as PointPiece}
use Rattle.matching.specs.Committed.{IsCommitted}
use Rattle.matching.specs.Layers.{trellis}
use Rattle.matching.specs.Local.{AreFirst}
use Rattle.matching.specs.Pieces.{IsPiece}
use Rattle.matching.specs.Sequences.{IsBest}
use Rattle.matching.specs.Value.{best_of}
use Rattle.matching.proofs.CommittedValues.{front, front_is, whole}
use Rattle.matching.proofs.Fronts.{front-none, front-unique}
use Rattle.matching.proofs.Lists.{all-cons, length-map_some}
use Rattle.matching.proofs.PieceSoFar.{IsStepAt, so_far_ends}
use Rattle.matching.proofs.Splits.{Splits, ranks_of, split_open}
use Rattle.online_commit.specs.declared.items.Item.{Item}
use Rattle.online_commit.specs.declared.items.Item.TheVariants.{Missing}
use Rattle.online_commit.specs.Items.{closed_at, handed}
use Rattle.online_commit.specs.inside.Pieces.{IsBegun, MayGrow, Piece, alone, empty_piece, session_with}
use Rattle.online_commit.specs.Session.{FeedsLayer, IsFedLayer, RepresentsLayers, fed_position_count}
use Rattle.online_commit.specs.inside.Steps.{IsClosing, IsSession, KeptSession, last_cells, last_layer, seen_session}
use Rattle.online_commit.proofs.Beginning.{ended, ended-handed, missing-items, new_items, opened, opened-handed}
use Rattle.online_commit.proofs.ClosedSession.{closing-best, closing-items}
use Rattle.online_commit.proofs.Ending.{IsOver, no-length, split_missing}
use Rattle.online_commit.proofs.Fresh.{fresh-committed, fresh-labels}
use Rattle.online_commit.proofs.Extending.{last-ends, so_far-longer}
use Rattle.online_commit.proofs.Growing.{fed-stays}
use Rattle.online_commit.proofs.Handed.{closed-later, labels_between, no_pieces}
use Rattle.online_commit.proofs.Labels.{IsSplitAt, best-is, best-length, split-of, stands-by}
use Rattle.online_commit.proofs.Ranks.{first-ranks}
use Rattle.online_commit.proofs.AnewSession.{BeginsAnew, BeginsPiece, begun-fresh, one-piece}

-- what it stands for, and what was handed out

-- with a piece of one point
new-some : (n : Net) (p : Params) (all : List Layer) (s : Splits (trellis n p) 0 all) (i j : ℕ) (l : Layer) (cells : List Cell) (new : Piece) (items : List Item) → BeginsPiece n p i l cells new items
    → s.closed ≡ i → drop s.closed all ≡ l ∷ [] → i + 1 ≡ length all
    → RepresentsLayers (seen_session (session_with n p (alone new))) all × (new_items n p all s j 0 ≡ items)
new-some n p all s i j l cells new items b at rest count =
    let t = trellis n p in
    let ext = b.grown in
    let made = session_with n p (alone new) in
    let fresh = begun-fresh n p i l cells new items b in
    let committed = fresh-committed made [] l 0 items fresh in
    let first : s.closed ≡ new.first = at ∙ sym ext.first in
    let same : drop s.closed all ≡ new.layers = rest ∙ sym ext.layers in
    let len : length new.layers ≡ 1 = ap length ext.layers in
    let told : front t (drop s.closed all) ≡ length items =
    front-unique t (reverse (drop s.closed all)) (front t (drop s.closed all)) new.told (front_is t (drop s.closed all) s.last) (subst (λ ys. IsCommitted t (reverse ys) new.told) (sym same) committed)
    ∙ ext.told ∙ omega arith in
    let z : s.closed ≡ s.closed + 0 = omega arith in (
      stands-by (seen_session made) all s first (sym same ∙ ap (λ k. drop k all) first) (omega (arith, first, at, len, count)) committed,
      ap (labels_between n p all s.closed) told ∙ ap (λ k. labels_between n p all k (length items)) z ∙ fresh-labels made all s [] l 0 items fresh first same,
    )

-- with no piece
new-none : (n : Net) (p : Params) (all : List Layer) (s : Splits (trellis n p) 0 all) (i : ℕ) → s.closed ≡ i + 1 → i + 1 ≡ length all → get_or s.ranks i None ≡ None → closed_at n p all s.ranks s.pieces i ≡ []
    → RepresentsLayers (seen_session (session_with n p (alone (empty_piece (i + 1))))) all × (new_items n p all s i 1 ≡ Missing i ∷ [])
new-none n p all s i at count rank closed =
    let rest : drop (i + 1) all ≡ [] = drop_all (i + 1) all (omega (arith, count)) in (
      stands-by (seen_session (session_with n p (alone (empty_piece (i + 1))))) all s at (sym rest) (omega (arith, count)) (front-none (trellis n p)),
      missing-items n p all s i rank closed (ap (λ k. drop k all) at ∙ rest),
    )

-- the four ways

abbrev Hands : KeptSession → Layer → Piece → List Item → List Layer → Type 0
Hands s l new items fed =
    RepresentsLayers (seen_session (session_with s.network s.params (alone new))) (fed ++ l ∷ []) × (handed s.network s.params (fed ++ l ∷ []) ≡ handed s.network s.params fed ++ items)

-- no piece was open
anew-open-some : (s : KeptSession) (l : Layer) (cells : List Cell) (new : Piece) (items : List Item) (fed : List Layer) → length s.layers ≡ 0 → RepresentsLayers (seen_session s) fed
    → BeginsPiece s.network s.params (fed_position_count (seen_session s)) l cells new items → Hands s l new items fed
anew-open-some s l cells new items fed none st b =
    let n = s.network in
    let p = s.params in
    let t = trellis n p in
    let split = whole t fed in
    let at = split-of (seen_session s) fed split st in
    let xs = drop split.closed fed in
    let empty : length xs ≡ 0 = ap length at.layers ∙ none in
    let one : xs ++ l ∷ [] ≡ l ∷ [] = ap (λ ys. ys ++ l ∷ []) (no-length xs empty) in
    let next = split_open t (0 + split.closed) (xs ++ l ∷ []) (λ some. subst (λ ys. IsPiece t ys (length ys)) (sym one) (one-piece n p l b.some)) in
    let all = opened n p fed l split next in
    let first = at.first in
    let count = at.count in
    let z : split.closed + 0 ≡ fed_position_count (seen_session s) = omega (arith, first, none) in
    let rest : drop (split.closed + 0) (fed ++ l ∷ []) ≡ l ∷ [] =
    (let e : split.closed + 0 ≡ split.closed = omega arith in ap (λ k. drop k (fed ++ l ∷ [])) e ∙ drop-append-le split.closed fed (l ∷ []) split.within ∙ one) in
    let made = new-some n p (fed ++ l ∷ []) all (fed_position_count (seen_session s)) split.closed l cells new items b z rest (omega (arith, z, count, empty, length_push fed l)) in
    (made.0, opened-handed n p fed l split next empty refl ∙ ap (λ ys. handed n p fed ++ ys) made.1)

anew-open-none : (s : KeptSession) (l : Layer) (fed : List Layer) → length s.layers ≡ 0 → RepresentsLayers (seen_session s) fed → length l.candidates ≡ 0 → Hands s l (empty_piece (fed_position_count (seen_session s) + 1)) (Missing (fed_position_count (seen_session s)) ∷ []) fed
anew-open-none s l fed none st width =
    let n = s.network in
    let p = s.params in
    let t = trellis n p in
    let split = whole t fed in
    let at = split-of (seen_session s) fed split st in
    let xs = drop split.closed fed in
    let empty : length xs ≡ 0 = ap length at.layers ∙ none in
    let one : xs ++ l ∷ [] ≡ l ∷ [] = ap (λ ys. ys ++ l ∷ []) (no-length xs empty) in
    let next = split_missing t (0 + split.closed) (xs ++ l ∷ []) l one width in
    let all = opened n p fed l split next in
    let first = at.first in
    let count = at.count in
    let i = fed_position_count (seen_session s) in
    let e : split.closed ≡ i = omega (arith, first, none) in
    let len : length split.ranks ≡ i = split.count ∙ e in
    let rank : get_or all.ranks i None ≡ None = ap (λ k. get_or (split.ranks ++ None ∷ []) k None) (sym len) ∙ get_or-append_seam split.ranks None [] None in
    let made = new-none n p (fed ++ l ∷ []) all i (omega (arith, e)) (omega (arith, e, count, empty, length_push fed l)) rank
    (closed-later n p fed (fed ++ l ∷ []) split all.ranks [] i (omega (arith, e)) (no_pieces i)) in
    (made.0, opened-handed n p fed l split next empty refl ∙ ap (λ k. handed n p fed ++ new_items n p (fed ++ l ∷ []) all k 1) e ∙ ap (λ ys. handed n p fed ++ ys) made.1)

-- the open piece ends before the point
pub ends-before : (s : KeptSession) (l : Layer) → BeginsAnew s l → 0 < length s.layers → IsPiece (trellis s.network s.params) (s.layers ++ l ∷ []) (length s.layers)
ends-before s l h some =
    let n = s.network in
    let p = s.params in
    let t = trellis n p in
    let is = h.session in
    let count = is.tables_count in
    let xs = s.layers ++ l ∷ [] in
    let last = last-ends s is some in
    let step : IsStepAt n p xs s.tables (last_layer s) l (last_cells s) = record {
      ends = record {
        layer = record {
          below = let b = last.layer.below in omega (arith, b, length_push s.layers l);
          is = last.layer.is ∙ sym (get_or_append_left s.layers (l ∷ []) (last_layer s) (length s.tables - 1) last.layer.below);
        };
        table = last.table;
      };
      at = record {
        below = omega (arith, count, length_push s.layers l);
        is = sym (ap (λ k. get_or xs k l) count ∙ get_or-append_seam s.layers l [] l);
      };
    } in
    subst (λ k. IsPiece t xs k) count (so_far_ends n p xs s.tables (last_layer s) l (last_cells s) (so_far-longer n p s.layers (l ∷ []) s.tables (is.open_is some)) step (h.ends some))

over-of : (s : KeptSession) (l : Layer) (items : List Item) (fed : List Layer) (split : Splits (trellis s.network s.params) 0 fed) (c : IsClosing s items) → IsSession s → 0 < length s.layers → IsSplitAt (seen_session s) fed split
    → IsPiece (trellis s.network s.params) (drop split.closed fed ++ l ∷ []) (length (drop split.closed fed)) → IsOver s.network s.params fed (l ∷ []) split c.cost c.ranks
over-of s l items fed split c is some at piece =
    let t = trellis s.network s.params in
    let xs = drop split.closed fed in
    let best = closing-best s items xs is some c at.layers in
    record {
      some = best.some;
      best = record {
        some = best.some;
        piece = piece;
        best = subst (λ ys. IsBest t (reverse ys) c.cost (reverse c.ranks)) (sym (take-append-le (length xs) xs (l ∷ []) (omega arith))) best.best;
      };
    }

anew-ended-some : (s : KeptSession) (l : Layer) (cells : List Cell) (new : Piece) (first-items items : List Item) (fed : List Layer) → BeginsAnew s l → 0 < length s.layers → IsClosing s first-items → RepresentsLayers (seen_session s) fed
    → BeginsPiece s.network s.params (fed_position_count (seen_session s)) l cells new items → Hands s l new (first-items ++ items) fed
anew-ended-some s l cells new first-items items fed h some c st b =
    let n = s.network in
    let p = s.params in
    let t = trellis n p in
    let split = whole t fed in
    let at = split-of (seen_session s) fed split st in
    let xs = drop split.closed fed in
    let L = length xs in
    let same : L ≡ length s.layers = ap length at.layers in
    let some-xs : 0 < L = omega (arith, some, same) in
    let piece : IsPiece t (xs ++ l ∷ []) L = subst (λ ys. IsPiece t (ys ++ l ∷ []) (length ys)) (sym at.layers) (ends-before s l h some) in
    let one : drop L (xs ++ l ∷ []) ≡ l ∷ [] = drop-append_seam xs (l ∷ []) in
    let last = split_open t (0 + split.closed + L) (drop L (xs ++ l ∷ [])) (λ k. subst (λ ys. IsPiece t ys (length ys)) (sym one) (one-piece n p l b.some)) in
    let all = ended n p fed l split some-xs piece last in
    let first = at.first in
    let count = at.count in
    let z : split.closed + (L + 0) ≡ fed_position_count (seen_session s) = omega (arith, first, same) in
    let rest : drop (split.closed + (L + 0)) (fed ++ l ∷ []) ≡ l ∷ [] =
    (let e : split.closed + (L + 0) ≡ length fed = omega (arith, count) in ap (λ k. drop k (fed ++ l ∷ [])) e ∙ drop-append_seam fed (l ∷ [])) in
    let made = new-some n p (fed ++ l ∷ []) all (fed_position_count (seen_session s)) (split.closed + L) l cells new items b z rest (omega (arith, z, count, length_push fed l)) in
    let over = over-of s l first-items fed split c h.session some at piece in (
      made.0,
      ended-handed n p fed l split c.cost c.ranks some-xs piece last over (closing-best s first-items xs h.session some c at.layers) refl
          ∙ ap (λ ys. handed n p fed ++ (ys ++ new_items n p (fed ++ l ∷ []) all (split.closed + L) 0)) (sym (closing-items s first-items fed split c at))
          ∙ ap (λ ys. handed n p fed ++ (first-items ++ ys)) made.1,
    )

anew-ended-none : (s : KeptSession) (l : Layer) (first-items : List Item) (fed : List Layer) → BeginsAnew s l → 0 < length s.layers → IsClosing s first-items → RepresentsLayers (seen_session s) fed → length l.candidates ≡ 0
    → Hands s l (empty_piece (fed_position_count (seen_session s) + 1)) (first-items ++ Missing (fed_position_count (seen_session s)) ∷ []) fed
anew-ended-none s l first-items fed h some c st width =
    let n = s.network in
    let p = s.params in
    let t = trellis n p in
    let split = whole t fed in
    let at = split-of (seen_session s) fed split st in
    let xs = drop split.closed fed in
    let L = length xs in
    let same : L ≡ length s.layers = ap length at.layers in
    let some-xs : 0 < L = omega (arith, some, same) in
    let piece : IsPiece t (xs ++ l ∷ []) L = subst (λ ys. IsPiece t (ys ++ l ∷ []) (length ys)) (sym at.layers) (ends-before s l h some) in
    let one : drop L (xs ++ l ∷ []) ≡ l ∷ [] = drop-append_seam xs (l ∷ []) in
    let last = split_missing t (0 + split.closed + L) (drop L (xs ++ l ∷ [])) l one width in
    let all = ended n p fed l split some-xs piece last in
    let first = at.first in
    let count = at.count in
    let i = fed_position_count (seen_session s) in
    let e : split.closed + L ≡ i = omega (arith, first, same) in
    let over = over-of s l first-items fed split c h.session some at piece in
    let b = best_of t (take L (xs ++ l ∷ [])) in
    let chosen-count : length (ranks_of b) ≡ L =
    length-map_some (reverse b.ranks) ∙ ap length (best-is t (xs ++ l ∷ []) L c.cost c.ranks over.best).1 ∙ best-length t (xs ++ l ∷ []) L c.cost c.ranks over.best in
    let place : length split.ranks + length (ranks_of b) ≡ i = omega (arith, split.count, chosen-count, e) in
    let rank : get_or all.ranks i None ≡ None =
    ap (λ k. get_or (split.ranks ++ (ranks_of b ++ None ∷ [])) k None) (sym place) ∙ get_or-append-add split.ranks (ranks_of b ++ None ∷ []) (length (ranks_of b)) None
    ∙ get_or-append_seam (ranks_of b) None [] None in
    let q : PointPiece = record { first = 0 + split.closed; last = 0 + split.closed + L - 1; cost = b.cost } in
    let made = new-none n p (fed ++ l ∷ []) all i (omega (arith, e)) (omega (arith, e, count, length_push fed l)) rank
    (closed-later n p fed (fed ++ l ∷ []) split all.ranks (q ∷ []) i (omega (arith, e)) (all-cons (λ (x : PointPiece). x.last ≡ i → ⊥) q [] (λ k. omega (arith, k, e, some-xs)) (no_pieces i))) in (
      made.0,
      ended-handed n p fed l split c.cost c.ranks some-xs piece last over (closing-best s first-items xs h.session some c at.layers) refl
          ∙ ap (λ ys. handed n p fed ++ (ys ++ new_items n p (fed ++ l ∷ []) all (split.closed + L) 1)) (sym (closing-items s first-items fed split c at))
          ∙ ap (λ k. handed n p fed ++ (first-items ++ new_items n p (fed ++ l ∷ []) all k 1)) e
          ∙ ap (λ ys. handed n p fed ++ (first-items ++ ys)) made.1,
    )

-- what is left of the open piece
pub record IsLeft (s : KeptSession) (items : List Item) : Type 0 where
  pub none : length s.layers ≡ 0 → items ≡ []
  pub some : 0 < length s.layers → IsClosing s items

anew-some : (s : KeptSession) (l : Layer) (new : Piece) (first-items items : List Item) (fed : List Layer) → BeginsAnew s l → IsLeft s first-items → RepresentsLayers (seen_session s) fed → IsBegun s.params (fed_position_count (seen_session s)) l new items
    → 0 < length l.candidates → Hands s l new (first-items ++ items) fed
anew-some s l new first-items items fed h left st b width =
    let g = b.some width in
    let begins : BeginsPiece s.network s.params (fed_position_count (seen_session s)) l g.0 new items = record { some = width; first = g.1 s.network; grown = g.2 } in
    ⊎_elim
    (λ some. anew-ended-some s l g.0 new first-items items fed h some (left.some some) st begins)
    (λ few.
    let none : length s.layers ≡ 0 = omega (arith, few) in
    let open_is = anew-open-some s l g.0 new items fed none st begins in
    (open_is.0, open_is.1 ∙ ap (λ ys. handed s.network s.params fed ++ (ys ++ items)) (sym (left.none none))))
    (cases_lt 0 (length s.layers))

anew-none : (s : KeptSession) (l : Layer) (new : Piece) (first-items items : List Item) (fed : List Layer) → BeginsAnew s l → IsLeft s first-items → RepresentsLayers (seen_session s) fed → IsBegun s.params (fed_position_count (seen_session s)) l new items
    → length l.candidates ≡ 0 → Hands s l new (first-items ++ items) fed
anew-none s l new first-items items fed h left st b width =
    let g = b.none width in
    let both : Hands s l (empty_piece (fed_position_count (seen_session s) + 1)) (first-items ++ Missing (fed_position_count (seen_session s)) ∷ []) fed =
    ⊎_elim
    (λ some. anew-ended-none s l first-items fed h some (left.some some) st width)
    (λ few.
    let none : length s.layers ≡ 0 = omega (arith, few) in
    let open_is = anew-open-none s l fed none st width in
    (open_is.0, open_is.1 ∙ ap (λ ys. handed s.network s.params fed ++ (ys ++ Missing (fed_position_count (seen_session s)) ∷ [])) (sym (left.none none))))
    (cases_lt 0 (length s.layers)) in
    subst (λ a. Hands s l a (first-items ++ items) fed) (sym g.0) (subst (λ ys. Hands s l (empty_piece (fed_position_count (seen_session s) + 1)) (first-items ++ ys) fed) (sym g.1) both)

pub anew-hands : (s : KeptSession) (l : Layer) (new : Piece) (first-items items : List Item) (fed : List Layer) → BeginsAnew s l → IsLeft s first-items → RepresentsLayers (seen_session s) fed → IsBegun s.params (fed_position_count (seen_session s)) l new items
    → Hands s l new (first-items ++ items) fed
anew-hands s l new first-items items fed h left st b =
    ⊎_elim (λ some. anew-some s l new first-items items fed h left st b some) (λ few. anew-none s l new first-items items fed h left st b (omega (arith, few))) (cases_lt 0 (length l.candidates))

pub anew-fed : (s : KeptSession) (l : Layer) (new : Piece) (first-items items : List Item) → BeginsAnew s l → IsLeft s first-items → IsBegun s.params (fed_position_count (seen_session s)) l new items
    → FeedsLayer (seen_session s) l (seen_session (session_with s.network s.params (alone new))) (first-items ++ items)
anew-fed s l new first-items items h left b = record {
  network = refl;
  params = refl;
  stands = λ fed st. (anew-hands s l new first-items items fed h left st b).0;
  handed_on = λ fed st. (anew-hands s l new first-items items fed h left st b).1;
  stays = λ fed more st. fed-stays s.network s.params fed more l (first-items ++ items) (anew-hands s l new first-items items fed h left st b).1;
}

-- a piece without points may take its first
pub first-grows : (n : Net) (p : Params) (i : ℕ) (l : Layer) (cells : List Cell) → i < 100_000 → IsFedLayer n p l → ((net : Net) → AreFirst (trellis net p) l cells) → MayGrow (empty_piece i) cells
first-grows n p i l cells few fed first = record {
  few = omega (arith, few);
  tables_count = refl;
  masks_count = refl;
  masks_are = λ lt. absurd (omega (arith, lt));
  ranks = λ k d lt. absurd (omega (arith, lt));
  cells_few = first-ranks (trellis n p) l cells (first n) fed.few;
  told = omega arith;
}
