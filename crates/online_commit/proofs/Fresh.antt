-- What a piece with a settled front stands on, whether it went on or begins.
use Rattle.std.proofs.Common.{◌≡◌, ℕ, ◌+◌, ◌≤◌, List, [], ◌∷◌, ◌++◌, sym, ap, ◌∙◌, subst, arith, length, take, drop, reverse, get_or}
use Rattle.std.proofs.lemmas.List.{reverse-reverse}
use Rattle.std.proofs.Math.Seq.{take-length}
use Rattle.matching.specs.declared.parts.Layer.{Layer}
use Rattle.matching.specs.Cells.{IsLive}
use Rattle.matching.specs.Committed.{IsCommitted}
use Rattle.matching.specs.Layers.{trellis}
use Rattle.matching.specs.Sequences.{IsBest}
use Rattle.matching.specs.Value.{best_of}
use Rattle.matching.proofs.SolutionMatches.{best_of-is}
use Rattle.matching.proofs.Splits.{Splits}
use Rattle.online_commit.specs.declared.items.Item.{Item}
use Rattle.online_commit.specs.inside.Masks.{IsOnlyRank}
use Rattle.online_commit.specs.inside.Steps.{AreSettled, KeptSession, rank_in, ranked_items}
use Rattle.online_commit.proofs.Handed.{labels_between}
use Rattle.online_commit.proofs.Labels.{IsBestOf, open-labels, tail-rank}
use Rattle.online_commit.proofs.Passing.{AreMasksFrom, IsBoundary, IsTabled, chosen-single, committed-boundary, last_of}

-- what a piece with a settled front stands on, whether it went on or begins
pub record IsFresh (t-new : KeptSession) (xs : List Layer) (l : Layer) (told : ℕ) (items : List Item) : Type 0 where
  pub layers : t-new.layers ≡ xs ++ l ∷ []
  pub told_is : t-new.told ≡ told + length items
  pub tabled : IsTabled (trellis t-new.network t-new.params) t-new.layers t-new.tables
  pub low : ℕ
  pub below : low ≤ told
  pub mask : ℕ → ℕ
  pub masks : AreMasksFrom low t-new.tables mask (length t-new.layers)
  pub settled : AreSettled t-new.first t-new.layers mask told items
  pub rank : ℕ
  pub live : IsLive (last_of t-new.tables) rank
  pub front : IsCommitted (trellis t-new.network t-new.params) (reverse xs) told

pub fresh-committed : (new : KeptSession) (xs : List Layer) (l : Layer) (told : ℕ) (items : List Item) → IsFresh new xs l told items → IsCommitted (trellis new.network new.params) (reverse new.layers) new.told
fresh-committed new xs l told items h =
    let t = trellis new.network new.params in
    let settled = h.settled in
    let within = settled.within in
    let boundary : IsBoundary h.mask told (told + length items) (length new.layers) = record { low = omega arith; high = within; single = settled.single; ends = settled.ends } in
    let same = h.layers in
    let is = committed-boundary t xs (l ∷ []) new.tables h.mask h.low told (told + length items) h.rank
    (subst (λ ys. IsTabled t ys new.tables) same h.tabled) (subst (λ ys. AreMasksFrom h.low new.tables h.mask (length ys)) same h.masks) h.below
    (subst (λ ys. IsBoundary h.mask told (told + length items) (length ys)) same boundary) h.live h.front in
    subst (λ k. IsCommitted t (reverse new.layers) k) (sym h.told_is) (subst (λ ys. IsCommitted t (reverse ys) (told + length items)) (sym same) is)

-- the best sequence of the open piece
pub own-best : (new : KeptSession) → IsTabled (trellis new.network new.params) new.layers new.tables
    → (c : ℕ) × (ranks : List ℕ) × IsBestOf (trellis new.network new.params) new.layers (length new.layers) c ranks
own-best new h =
    let t = trellis new.network new.params in
    let m = length new.layers in
    let b = best_of t (take m new.layers) in
    let is = best_of-is t (take m new.layers) h.piece.can.sequence in
    (b.cost, reverse b.ranks, record { some = h.some; piece = h.piece; best = subst (λ rs. IsBest t (reverse (take m new.layers)) b.cost rs) (sym (reverse-reverse b.ranks)) is })

-- the items that are settled are the labels of the best sequence
pub fresh-items : (new : KeptSession) (xs : List Layer) (l : Layer) (told c : ℕ) (ranks : List ℕ) (items : List Item) → IsFresh new xs l told items
    → IsBestOf (trellis new.network new.params) new.layers (length new.layers) c ranks → items ≡ ranked_items new.first new.layers (rank_in ranks) told (length items)
fresh-items new xs l told c ranks items h best =
    let t = trellis new.network new.params in
    let within = h.settled.within in
    h.settled.are (rank_in ranks) (λ j ge lt.
    let only = h.settled.single j ge lt in
    let same : get_or ranks j 0 ≡ only.0 =
    chosen-single t new.layers new.tables h.mask h.low j only.0 c ranks h.tabled h.masks (let below = h.below in omega (arith, below, ge)) (omega (arith, lt, within)) only.1
    (subst (λ ys. IsBest t (reverse ys) c (reverse ranks)) (take-length new.layers) best.best) in
    subst (λ r. IsOnlyRank (h.mask j) r) (sym same) only.1)

-- in terms of the labels of the trace
pub fresh-labels : (new : KeptSession) (all : List Layer) (s : Splits (trellis new.network new.params) 0 all) (xs : List Layer) (l : Layer) (told : ℕ) (items : List Item) → IsFresh new xs l told items
    → s.closed ≡ new.first → drop s.closed all ≡ new.layers → labels_between new.network new.params all (s.closed + told) (length items) ≡ items
fresh-labels new all s xs l told items h first layers =
    let n = new.network in
    let p = new.params in
    let t = trellis n p in
    let best = own-best new h.tabled in
    let within = h.settled.within in
    let is : IsBestOf t (drop s.closed all) (length new.layers) best.0 best.1 = subst (λ ys. IsBestOf t ys (length new.layers) best.0 best.1) (sym layers) best.2 in
    open-labels n p all s (rank_in best.1) told (length items) (λ j ge lt. tail-rank t s.closed (drop s.closed all) (length new.layers) best.0 best.1 j is (omega (arith, lt, within)))
    ∙ ap (λ k. ranked_items k (drop s.closed all) (rank_in best.1) told (length items)) first
    ∙ ap (λ ys. ranked_items new.first ys (rank_in best.1) told (length items)) layers
    ∙ sym (fresh-items new xs l told best.0 best.1 items h best.2)
