-- A session whose open piece is closed. In this file layers and tables stand in the order of the points.
use Rattle.std.proofs.Common.{◌≡◌, ◌<◌, List, [], ◌++◌, sym, ap, ◌∙◌, subst, arith, length, drop, reverse, ⊎_elim}
use Rattle.std.proofs.lemmas.Bool.{cases_lt}
use Rattle.std.proofs.Math.Seq.{take-length}
use Rattle.matching.specs.declared.parts.Layer.{Layer}
use Rattle.matching.specs.Layers.{trellis}
use Rattle.matching.specs.Sequences.{IsBest}
use Rattle.matching.proofs.CommittedValues.{front, front-within, whole}
use Rattle.matching.proofs.Splits.{Splits}
use Rattle.online_commit.specs.declared.items.Item.{Item}
use Rattle.online_commit.specs.Items.{handed, items_of}
use Rattle.online_commit.specs.Session.{IsFinished, Session, RepresentsLayers, no_points_of}
use Rattle.online_commit.specs.inside.Steps.{IsClosing, IsSession, KeptSession, closing_of, seen_session}
use Rattle.online_commit.proofs.Ending.{finished-items, finished-none}
use Rattle.online_commit.proofs.Extending.{tabled-of}
use Rattle.online_commit.proofs.Labels.{IsBestOf, IsSplitAt, split-of}

-- the best sequence of the open piece, in terms of where it begins
pub closing-best : (s : KeptSession) (items : List Item) (xs : List Layer) → IsSession s → 0 < length s.layers → (c : IsClosing s items) → xs ≡ s.layers
    → IsBestOf (trellis s.network s.params) xs (length xs) c.cost c.ranks
closing-best s items xs is some c same =
    let t = trellis s.network s.params in
    let tabled = tabled-of s is some in
    subst (λ ys. IsBestOf t ys (length ys) c.cost c.ranks) (sym same)
    (record {
      some = some;
      piece = tabled.piece;
      best = subst (λ ys. IsBest t (reverse ys) c.cost (reverse c.ranks)) (sym (take-length s.layers)) c.best;
    })

pub closing-items : (s : KeptSession) (items : List Item) (fed : List Layer) (split : Splits (trellis s.network s.params) 0 fed) → (c : IsClosing s items) → IsSplitAt (seen_session s) fed split
    → items ≡ closing_of s.network s.params split.closed (drop split.closed fed) c.cost c.ranks (front (trellis s.network s.params) (drop split.closed fed))
closing-items s items fed split c is =
    let n = s.network in
    let p = s.params in
    c.are ∙ ap (λ k. closing_of n p k s.layers c.cost c.ranks s.told) (sym is.first)
    ∙ ap (λ ys. closing_of n p split.closed ys c.cost c.ranks s.told) (sym is.layers)
    ∙ ap (closing_of n p split.closed (drop split.closed fed) c.cost c.ranks) (sym is.told)

pub finished-some : (s : KeptSession) (items : List Item) (fed : List Layer) → IsSession s → 0 < length s.layers → IsClosing s items → RepresentsLayers (seen_session s) fed
    → items_of s.network s.params fed ≡ handed s.network s.params fed ++ items
finished-some s items fed is some c st =
    let n = s.network in
    let p = s.params in
    let t = trellis n p in
    let split = whole t fed in
    let at = split-of (seen_session s) fed split st in
    let xs = drop split.closed fed in
    finished-items n p fed split c.cost c.ranks (closing-best s items xs is some c at.layers) (front-within t xs split.last)
    ∙ ap (λ ys. handed n p fed ++ ys) (sym (closing-items s items fed split c at))

pub finished-empty : (s : KeptSession) (items : List Item) (fed : List Layer) → length s.layers ≡ 0 → items ≡ [] → RepresentsLayers (seen_session s) fed
    → items_of s.network s.params fed ≡ handed s.network s.params fed ++ items
finished-empty s items fed none e st =
    let n = s.network in
    let p = s.params in
    let split = whole (trellis n p) fed in
    let at = split-of (seen_session s) fed split st in
    finished-none n p fed split (ap length at.layers ∙ none) ∙ ap (λ ys. handed n p fed ++ ys) (sym e)

pub finished-made : (s : KeptSession) (new : Session) (items : List Item) → IsSession s → (length s.layers ≡ 0 → items ≡ []) → (0 < length s.layers → IsClosing s items) → new ≡ no_points_of s.network s.params → IsFinished (seen_session s) new items
finished-made s new items is none some opened = record {
  opened = opened;
  rest = λ fed st. ⊎_elim (λ lt. finished-some s items fed is lt (some lt) st)
      (λ ge. let e : length s.layers ≡ 0 = omega (arith, ge) in finished-empty s items fed e (none e) st) (cases_lt 0 (length s.layers));
}
