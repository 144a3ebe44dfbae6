-- A piece that took a point, as it is made. In this file layers and tables stand in the order of the points.
use Rattle.std.proofs.Common.{◌≡◌, ℕ, ◌+◌, ◌-◌, ◌<◌, List, [], ◌∷◌, ◌++◌, sym, ap, ◌∙◌, subst, arith, length, get_or}
use Rattle.std.proofs.lemmas.List.{length_push}
use Rattle.road_network.specs.Net.{IsLawful}
use Rattle.matching.specs.declared.parts.Cell.{Cell}
use Rattle.matching.specs.declared.parts.Layer.{Layer}
use Rattle.std.specs.Prelude.{None, Some}
use Rattle.online_commit.specs.declared.items.Item.{Item}
use Rattle.online_commit.specs.inside.Masks.{AreMasks, ArePreviousRanks, IsLiveMask, IsNotOne, IsOnlyRank, mask_after, mask_at}
use Rattle.online_commit.specs.inside.Pieces.{IsAppended, IsExtended, MayGrow, Piece}
use Rattle.online_commit.specs.Session.{IsFedLayer, Session, fed_position_count}
use Rattle.online_commit.specs.inside.Steps.{AreSettled, EndsBefore, IsSession, KeptSession, TellsCells, seen_session}
use Rattle.online_commit.proofs.AnewSession.{BeginsAnew}
use Rattle.online_commit.proofs.Extending.{GoesOnTo}

masks-same : (tables : List (List Cell)) (mask mask' : ℕ → ℕ) (n : ℕ) → 0 < n → ((i : ℕ) → i < n → mask' i ≡ mask i) → AreMasks tables mask n → AreMasks tables mask' n
masks-same tables mask mask' n some same h = record {
  live = subst (IsLiveMask (get_or tables (n - 1) [])) (sym (same (n - 1) (omega (arith, some)))) h.live;
  back = λ i lt.
      subst (λ m. ArePreviousRanks (get_or tables (i + 1) []) m (mask' i)) (sym (same (i + 1) lt))
      (subst (λ m. ArePreviousRanks (get_or tables (i + 1) []) (mask (i + 1)) m) (sym (same i (omega (arith, lt)))) (h.back i lt));
}

settled-same : (first : ℕ) (layers : List Layer) (mask mask' : ℕ → ℕ) (start : ℕ) (items : List Item) → ((i : ℕ) → i < length layers → mask' i ≡ mask i) → AreSettled first layers mask start items
    → AreSettled first layers mask' start items
settled-same first layers mask mask' start items same h =
    let within = h.within in
    record {
      within = h.within;
      single = λ j ge lt. let o = h.single j ge lt in (o.0, subst (λ m. IsOnlyRank m o.0) (sym (same j (omega (arith, lt, within)))) o.1);
      ends = λ lt. subst IsNotOne (sym (same (start + length items) lt)) (h.ends lt);
      are = λ rank only. h.are rank (λ j ge lt. subst (λ m. IsOnlyRank m (rank j)) (same j (omega (arith, lt, within))) (only j ge lt));
    }

pub extended-made : (old : Piece) (l : Layer) (cells : List Cell) (changed : List ℕ) (new : Piece) (items : List Item) → MayGrow old cells → IsAppended old l cells changed new
    → AreMasks (old.tables ++ cells ∷ []) (mask_after old.masks changed) (length old.tables + 1)
    → AreSettled old.first (old.layers ++ l ∷ []) (mask_after old.masks changed) old.told items → new.told ≡ old.told + length items → IsExtended old l cells new items
extended-made old l cells changed new items may app masks settled told =
    let tc = may.tables_count in
    let mc = may.masks_count in
    let count = app.count in
    let len : length new.layers ≡ length old.layers + 1 = ap length app.layers ∙ length_push old.layers l in
    let same : (i : ℕ) → i < length new.layers → mask_at new.masks i ≡ mask_after old.masks changed i = λ i lt. app.masks i (omega (arith, lt, len, mc)) in
    let n-is : length old.tables + 1 ≡ length new.layers = omega (arith, len, tc) in
    record {
      first = app.first;
      told = told;
      layers = app.layers;
      tables = app.tables;
      masks_count = omega (arith, len, count, mc);
      masks = subst (λ k. AreMasks new.tables (mask_at new.masks) k) n-is
          (masks-same new.tables (mask_after old.masks changed) (mask_at new.masks) (length old.tables + 1) (omega arith) (λ i lt. same i (omega (arith, lt, n-is)))
          (subst (λ ts. AreMasks ts (mask_after old.masks changed) (length old.tables + 1)) (sym app.tables) masks));
      settled = subst (λ k. AreSettled k new.layers (mask_at new.masks) old.told items) (sym app.first)
          (settled-same old.first new.layers (mask_after old.masks changed) (mask_at new.masks) old.told items same
          (subst (λ ls. AreSettled old.first ls (mask_after old.masks changed) old.told items) (sym app.layers) settled));
    }

-- what is known where a point comes with which the open piece goes on

pub goes-on : (s : KeptSession) (old : Session) (l : Layer) (cells : List Cell) → seen_session s ≡ old → IsLawful s.network → IsSession s → fed_position_count old < 100_000 → IsFedLayer old.network old.params l → TellsCells s l (Some cells) → GoesOnTo s l cells
goes-on s old l cells e lawful is room fed tells = record {
  lawful = lawful;
  session = is;
  room = subst (λ x. fed_position_count x < 100_000) (sym e) room;
  layer = subst (λ x. IsFedLayer x.network x.params l) (sym e) fed;
  some = tells.0;
  goes = tells.1;
}

pub ends-at : (s : KeptSession) (old : Session) (l : Layer) → seen_session s ≡ old → IsSession s → fed_position_count old < 100_000 → IsFedLayer old.network old.params l → TellsCells s l None → EndsBefore s l
ends-at s old l e is room fed ends = record {
  session = is;
  layer = subst (λ x. IsFedLayer x.network x.params l) (sym e) fed;
  room = subst (λ x. fed_position_count x < 100_000) (sym e) room;
  ends = ends;
}

pub begins-anew : (s : KeptSession) (l : Layer) → IsLawful s.network → EndsBefore s l → BeginsAnew s l
begins-anew s l lawful h = record { lawful = lawful; session = h.session; room = h.room; layer = h.layer; ends = h.ends }
