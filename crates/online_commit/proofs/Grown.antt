-- A session whose open piece went on. In this file layers and tables stand in the order of the points.
use Rattle.std.proofs.Common.{◌≡◌, ℕ, ◌+◌, ◌-◌, ◌≤◌, List, [], ◌∷◌, ◌++◌, refl, sym, ap, ◌∙◌, subst, arith, length, take, drop, reverse, get_or}
use Rattle.std.specs.List.{All}
use Rattle.std.proofs.lemmas.List.{drop-append-le, length-drop, length_push}
use Rattle.std.proofs.Math.Seq.{get_or-append_seam, take-length}
use Rattle.matching.specs.declared.parts.Cell.{Cell}
use Rattle.matching.specs.declared.parts.Layer.{Layer}
use Rattle.matching.specs.Cells.{IsLive}
use Rattle.matching.specs.Committed.{IsCommitted}
use Rattle.matching.specs.Layers.{trellis}
use Rattle.matching.specs.Local.{AreLinked, AreNext}
use Rattle.matching.specs.Pieces.{IsPiece}
use Rattle.matching.proofs.CommittedValues.{front, front_is, whole}
use Rattle.matching.proofs.Fronts.{front-unique}
use Rattle.matching.proofs.Lists.{all-push}
use Rattle.matching.proofs.PieceSoFar.{IsPieceSoFar, so_far_all}
use Rattle.matching.proofs.Splits.{OneOrNone}
use Rattle.online_commit.specs.declared.items.Item.{Item}
use Rattle.online_commit.specs.Items.{handed}
use Rattle.online_commit.specs.inside.Masks.{AreMasks, HasFewRanks, mask_at}
use Rattle.online_commit.specs.inside.Pieces.{IsGrown, Whole, session_with}
use Rattle.online_commit.specs.Session.{FeedsLayer, IsFedLayer, RepresentsLayers}
use Rattle.online_commit.specs.inside.Steps.{AreChosen, AreSettled, IsKeptOf, IsSession, KeptSession, last_cells, last_layer, seen_session}
use Rattle.online_commit.proofs.Extending.{GoesOnTo, grown-so_far, new-ranks, piece_part, tabled-of}
use Rattle.online_commit.proofs.Kept.{chosen-grown, settled-shift}
use Rattle.online_commit.proofs.Growing.{fed-stays, grown, grown-handed}
use Rattle.online_commit.proofs.Handed.{labels_between}
use Rattle.online_commit.proofs.Labels.{split-of, stands-by}
use Rattle.online_commit.proofs.Passing.{AreMasksFrom, IsTabled, chain-count, last_of, masks-from}
use Rattle.online_commit.proofs.Fresh.{IsFresh, fresh-committed, fresh-labels}

abbrev pub whole_part : KeptSession → Whole
whole_part s = record { first = s.first; told = s.told; layers = s.layers; tables = s.tables; settled = s.settled; tail = piece_part s }

-- what is kept of a piece that went on

drop-more : {X : Type 0} (n : ℕ) (xs kept all more : List X) (x : X) → n ≤ length xs → kept ≡ drop n xs → all ≡ xs ++ x ∷ [] → more ≡ kept ++ x ∷ [] → more ≡ drop n all
drop-more n xs kept all more x le kept-is all-is more-is =
    more-is ∙ ap (λ ys. ys ++ x ∷ []) kept-is ∙ sym (drop-append-le n xs (x ∷ []) le) ∙ ap (drop n) (sym all-is)

grown-layers : (s : KeptSession) (l : Layer) (cells : List Cell) (new : Whole) (items : List Item) → GoesOnTo s l cells → IsGrown (whole_part s) l cells new items → new.tail.layers ≡ drop (length s.settled) new.layers
grown-layers s l cells new items h ext =
    let kept = h.session.kept in
    let within = kept.within in
    drop-more (length s.settled) s.layers s.kept_layers new.layers new.tail.layers l (omega (arith, within)) kept.layers ext.layers ext.tail.layers

grown-tables : (s : KeptSession) (l : Layer) (cells : List Cell) (new : Whole) (items : List Item) → GoesOnTo s l cells → IsGrown (whole_part s) l cells new items → new.tail.tables ≡ drop (length s.settled) new.tables
grown-tables s l cells new items h ext =
    let kept = h.session.kept in
    let within = kept.within in
    let count = h.session.tables_count in
    drop-more (length s.settled) s.tables s.kept_tables new.tables new.tail.tables cells (omega (arith, within, count)) kept.tables ext.tables ext.tail.tables

grown-first : (s : KeptSession) (l : Layer) (cells : List Cell) (new : Whole) (items : List Item) → GoesOnTo s l cells → IsGrown (whole_part s) l cells new items → new.tail.first ≡ new.first + length s.settled
grown-first s l cells new items h ext = ext.tail.first ∙ h.session.kept.first ∙ ap (λ k. k + length s.settled) (sym ext.first)

grown-masks : (s : KeptSession) (l : Layer) (cells : List Cell) (new : Whole) (items : List Item) → GoesOnTo s l cells → IsGrown (whole_part s) l cells new items
    → AreMasksFrom (length s.settled) new.tables (λ i. mask_at new.tail.masks (i - length s.settled)) (length new.layers)
grown-masks s l cells new items h ext =
    let within = h.session.kept.within in
    let layers = grown-layers s l cells new items h ext in
    let len = ap length ext.layers ∙ length_push s.layers l in
    let count : length new.tail.layers ≡ length new.layers - length s.settled = ap length layers ∙ length-drop (length s.settled) new.layers in
    masks-from (length s.settled) new.tables new.tail.masks (length new.layers) (omega (arith, within, len))
    (subst (λ k. AreMasks (drop (length s.settled) new.tables) (mask_at new.tail.masks) k) count
    (subst (λ ts. AreMasks ts (mask_at new.tail.masks) (length new.tail.layers)) (grown-tables s l cells new items h ext) ext.tail.masks))

grown-settled : (s : KeptSession) (l : Layer) (cells : List Cell) (new : Whole) (items : List Item) → GoesOnTo s l cells → IsGrown (whole_part s) l cells new items
    → AreSettled new.first new.layers (λ i. mask_at new.tail.masks (i - length s.settled)) s.told items
grown-settled s l cells new items h ext =
    let within = h.session.kept.within in
    let len = ap length ext.layers ∙ length_push s.layers l in
    subst (λ k. AreSettled new.first new.layers (λ i. mask_at new.tail.masks (i - length s.settled)) k items) (sym h.session.kept.told)
    (settled-shift new.first (length s.settled) new.layers new.tail.masks s.kept_told items (omega (arith, within, len))
    (subst (λ k. AreSettled k (drop (length s.settled) new.layers) (mask_at new.tail.masks) s.kept_told items) (grown-first s l cells new items h ext)
    (subst (λ ls. AreSettled new.tail.first ls (mask_at new.tail.masks) s.kept_told items) (grown-layers s l cells new items h ext) ext.tail.settled)))

grown-chosen : (s : KeptSession) (l : Layer) (cells : List Cell) (new : Whole) (items : List Item) → GoesOnTo s l cells → IsGrown (whole_part s) l cells new items → AreChosen new.layers new.tables new.settled
grown-chosen s l cells new items h ext =
    let is = h.session in
    let t = trellis s.network s.params in
    let within = is.kept.within in
    let count = is.tables_count in
    let tabled = tabled-of s is h.some in
    let last : last_cells s ≡ last_of s.tables = ap (λ k. get_or s.tables (k - 1) []) (sym count) in
    subst (AreChosen new.layers new.tables) (sym ext.settled) (subst (λ ts. AreChosen new.layers ts s.settled) (sym ext.tables) (subst (λ ls. AreChosen ls (s.tables ++ cells ∷ []) s.settled) (sym ext.layers)
    (chosen-grown t (last_layer s) l s.layers l s.tables cells s.settled (subst (λ c. AreNext t (last_layer s) c l cells) last h.goes.next) (omega (arith, within))
    (λ a live. chain-count t s.layers s.tables a tabled live) is.kept.chosen)))

grown-kept : (s : KeptSession) (l : Layer) (cells : List Cell) (new : Whole) (items : List Item) → GoesOnTo s l cells → IsGrown (whole_part s) l cells new items → IsKeptOf (session_with s.network s.params new)
grown-kept s l cells new items h ext =
    let within = h.session.kept.within in
    let told = h.session.kept.told in
    let len = ap length ext.layers ∙ length_push s.layers l in
    let gone : length s.settled ≡ length new.settled = ap length (sym ext.settled) in
    let more = ext.told in
    let kept-more = ext.tail.told in
    record {
      within = omega (arith, within, len, gone);
      first = grown-first s l cells new items h ext ∙ ap (λ k. new.first + k) gone;
      told = omega (arith, told, more, kept-more, gone);
      layers = grown-layers s l cells new items h ext ∙ ap (λ k. drop k new.layers) gone;
      tables = grown-tables s l cells new items h ext ∙ ap (λ k. drop k new.tables) gone;
      masks_count = ext.tail.masks_count;
      masks = λ some. ext.tail.masks;
      chosen = grown-chosen s l cells new items h ext;
    }

-- a session whose piece went on

grown-fresh : (s : KeptSession) (l : Layer) (cells : List Cell) (new : Whole) (items : List Item) → GoesOnTo s l cells → IsGrown (whole_part s) l cells new items
    → IsFresh (session_with s.network s.params new) s.layers l s.told items
grown-fresh s l cells new items h ext =
    let n = s.network in
    let p = s.params in
    let t = trellis n p in
    let is = h.session in
    let count = is.tables_count in
    let so_far = grown-so_far s l cells h in
    let lt = length_push s.tables cells in
    let ll = length_push s.layers l in
    let same : length (s.tables ++ cells ∷ []) ≡ length (s.layers ++ l ∷ []) = omega (arith, lt, ll, count) in
    let whole-is : take (length (s.tables ++ cells ∷ [])) (s.layers ++ l ∷ []) ≡ s.layers ++ l ∷ [] = ap (λ k. take k (s.layers ++ l ∷ [])) same ∙ take-length (s.layers ++ l ∷ []) in
    let tabled : IsTabled t (s.layers ++ l ∷ []) (s.tables ++ cells ∷ []) = record {
      some = omega (arith, ll);
      count = same;
      linked = subst (λ ys. AreLinked t (reverse ys) (reverse (s.tables ++ cells ∷ []))) whole-is so_far.run.linked;
      piece = subst (λ k. IsPiece t (s.layers ++ l ∷ []) k) same (so_far_all n p (s.layers ++ l ∷ []) (s.tables ++ cells ∷ []) so_far (omega (arith, same)));
    } in
    let last : last_of (s.tables ++ cells ∷ []) ≡ cells =
    (let e : length (s.tables ++ cells ∷ []) - 1 ≡ length s.tables = omega (arith, lt) in
    ap (λ k. get_or (s.tables ++ cells ∷ []) k []) e ∙ get_or-append_seam s.tables cells [] []) in
    let live = h.goes.live in
    record {
      layers = ext.layers;
      told_is = ext.told;
      tabled = subst (λ ys. IsTabled t ys new.tables) (sym ext.layers) (subst (λ ts. IsTabled t (s.layers ++ l ∷ []) ts) (sym ext.tables) tabled);
      low = length s.settled;
      below = let told = is.kept.told in omega (arith, told);
      mask = λ i. mask_at new.tail.masks (i - length s.settled);
      masks = grown-masks s l cells new items h ext;
      settled = grown-settled s l cells new items h ext;
      rank = h.goes.rank;
      live = subst (λ ts. IsLive (last_of ts) h.goes.rank) (sym ext.tables) (subst (λ c. IsLive c h.goes.rank) (sym last) live);
      front = is.front;
    }

pub grown-session : (s : KeptSession) (l : Layer) (cells : List Cell) (new : Whole) (items : List Item) → GoesOnTo s l cells → IsGrown (whole_part s) l cells new items
    → IsSession (session_with s.network s.params new)
grown-session s l cells new items h ext =
    let n = s.network in
    let p = s.params in
    let is = h.session in
    let room = h.room in
    let first = ext.first in
    let count = is.tables_count in
    let fresh = grown-fresh s l cells new items h ext in
    let so_far = grown-so_far s l cells h in
    let len = ap length ext.layers ∙ length_push s.layers l in
    let lent = ap length ext.tables ∙ length_push s.tables cells in
    record {
      options = is.options;
      few = omega (arith, room, first, len);
      layers = subst (All (IsFedLayer n p)) (sym ext.layers) (all-push (IsFedLayer n p) s.layers l is.layers h.layer);
      ranks = subst (All HasFewRanks) (sym ext.tables) (all-push HasFewRanks s.tables cells is.ranks (new-ranks s l cells h));
      tables_count = omega (arith, len, lent, count);
      open_is = λ some. subst (λ ys. IsPieceSoFar n p ys new.tables) (sym ext.layers) (subst (λ ts. IsPieceSoFar n p (s.layers ++ l ∷ []) ts) (sym ext.tables) so_far);
      kept = grown-kept s l cells new items h ext;
      front = fresh-committed (session_with n p new) s.layers l s.told items fresh;
    }

grown-stands : (s : KeptSession) (l : Layer) (cells : List Cell) (new : Whole) (items : List Item) (fed : List Layer) → GoesOnTo s l cells → IsGrown (whole_part s) l cells new items → RepresentsLayers (seen_session s) fed
    → RepresentsLayers (seen_session (session_with s.network s.params new)) (fed ++ l ∷ []) × (handed s.network s.params (fed ++ l ∷ []) ≡ handed s.network s.params fed ++ items)
grown-stands s l cells new items fed h ext st =
    let n = s.network in
    let p = s.params in
    let t = trellis n p in
    let made = session_with n p new in
    let split = whole t fed in
    let is = split-of (seen_session s) fed split st in
    let fresh = grown-fresh s l cells new items h ext in
    let xs = drop split.closed fed in
    let layers : new.layers ≡ xs ++ l ∷ [] = ext.layers ∙ ap (λ ys. ys ++ l ∷ []) (sym is.layers) in
    let one : OneOrNone t (xs ++ l ∷ []) = λ some. subst (λ ys. IsPiece t ys (length ys)) layers fresh.tabled.piece in
    let next = grown n p fed (l ∷ []) split one in
    let z : split.closed + 0 ≡ split.closed = omega arith in
    let within = is.within in
    let rest : drop (split.closed + 0) (fed ++ l ∷ []) ≡ xs ++ l ∷ [] = ap (λ k. drop k (fed ++ l ∷ [])) z ∙ drop-append-le split.closed fed (l ∷ []) split.within in
    let first : split.closed + 0 ≡ new.first = z ∙ is.first ∙ sym ext.first in
    let committed = fresh-committed made s.layers l s.told items fresh in
    let len = ap length layers ∙ length_push xs l in
    let stands = stands-by (seen_session made) (fed ++ l ∷ []) next first (layers ∙ sym rest ∙ ap (λ k. drop k (fed ++ l ∷ [])) first) (let c = is.count in omega (arith, first, len, c, length_push fed l)) committed in
    let front-is-it : front t (drop (split.closed + 0) (fed ++ l ∷ [])) ≡ front t xs + length items =
    front-unique t (reverse (drop (split.closed + 0) (fed ++ l ∷ []))) (front t (drop (split.closed + 0) (fed ++ l ∷ []))) new.told (front_is t (drop (split.closed + 0) (fed ++ l ∷ [])) next.last)
    (subst (λ ys. IsCommitted t (reverse ys) new.told) (layers ∙ sym rest) committed)
    ∙ ext.told ∙ ap (λ k. k + length items) (sym is.told) in (
      stands,
      grown-handed n p fed (l ∷ []) split one (length items) front-is-it
          ∙ ap (λ ys. handed n p fed ++ ys)
          (ap (λ k. labels_between n p (fed ++ l ∷ []) (split.closed + k) (length items)) is.told ∙ ap (λ k. labels_between n p (fed ++ l ∷ []) (k + s.told) (length items)) (sym z)
          ∙ fresh-labels made (fed ++ l ∷ []) next s.layers l s.told items fresh first (rest ∙ sym layers)),
    )

pub grown-fed : (s : KeptSession) (l : Layer) (cells : List Cell) (new : Whole) (items : List Item) → GoesOnTo s l cells → IsGrown (whole_part s) l cells new items
    → FeedsLayer (seen_session s) l (seen_session (session_with s.network s.params new)) items
grown-fed s l cells new items h ext = record {
  network = refl;
  params = refl;
  stands = λ fed st. (grown-stands s l cells new items fed h ext st).0;
  handed_on = λ fed st. (grown-stands s l cells new items fed h ext st).1;
  stays = λ fed more st. fed-stays s.network s.params fed more l items (grown-stands s l cells new items fed h ext st).1;
}
