-- What feeding a point leaves of the rows.
use Rattle.std.proofs.Common.{◌≡◌, ℕ, ◌<◌, ◌⊎◌, inl, inr, ⊎_elim, List, [], ◌∷◌, ◌++◌, Result, Ok, Err, OnOk, IsErr, sym, ap, ◌∙◌, subst, arith, length, drop}
use Rattle.std.specs.Prelude.{Contains}
use Rattle.bounded_table.specs.Rows.{RowsState, AsksAll, AsksOnly}
use Rattle.bounded_table.proofs.Asking.{keeps_then, only_by, only_then}
use Rattle.matching.specs.declared.parts.Layer.{Layer}
use Rattle.matching.specs.Layers.{trellis}
use Rattle.matching.specs.PieceSteps.{AsksIn}
use Rattle.matching.specs.SoFar.{IsRun}
use Rattle.matching.proofs.CommittedValues.{whole}
use Rattle.matching.proofs.Runs.{EndsWith}
use Rattle.matching.proofs.Splits.{Splits}
use Rattle.online_commit.specs.Session.{AsksFed, AsksFinished, AsksPoints, RepresentsLayers}
use Rattle.online_commit.specs.inside.Steps.{AsksStep, IsSession, KeptSession, last_cells, last_layer, seen_session}
use Rattle.online_commit.proofs.Asking.{IsLastPoint, asks-more, asks-open, asks-split, asks-step}
use Rattle.online_commit.proofs.Extending.{last-ends}
use Rattle.online_commit.proofs.Labels.{IsSplitAt, split-of}

last-point : (s : KeptSession) (fed : List Layer) (split : Splits (trellis s.network s.params) 0 fed) → IsSession s → 0 < length s.layers → IsSplitAt (seen_session s) fed split
    → IsLastPoint s.network s.params fed split s.tables (last_layer s) (last_cells s)
last-point s fed split is some at =
    let t = trellis s.network s.params in
    let same = sym at.layers in
    record {
      run = subst (λ xs. IsRun t xs s.tables) same (is.open_is some).run;
      count = is.tables_count ∙ ap length same;
      ends = subst (λ xs. EndsWith xs s.tables (last_layer s) (last_cells s)) same (last-ends s is some);
    }

step-asked : (s : KeptSession) (l : Layer) (fed : List Layer) (v : ℕ) → IsSession s → RepresentsLayers (seen_session s) fed → AsksStep s l v → AsksPoints s.network s.params (fed ++ l ∷ []) v
step-asked s l fed v is st (some, asks) =
    let split = whole (trellis s.network s.params) fed in
    asks-step s.network s.params fed l split s.tables (last_layer s) (last_cells s) v (last-point s fed split is some (split-of (seen_session s) fed split st)) asks

open-asked : (s : KeptSession) (fed : List Layer) (v : ℕ) → IsSession s → RepresentsLayers (seen_session s) fed → AsksIn s.network s.params s.layers s.tables v → AsksPoints s.network s.params fed v
open-asked s fed v is st asks =
    let t = trellis s.network s.params in
    let split = whole t fed in
    let at = split-of (seen_session s) fed split st in
    let low = asks.1.cells_are.below in
    let count = is.tables_count in
    let last = last-point s fed split is (omega (arith, low, count)) at in
    asks-open s.network s.params fed split s.tables v last.run last.count (subst (λ xs. AsksIn s.network s.params xs s.tables v) (sym at.layers) asks)

later-asked : (s : KeptSession) (l : Layer) (fed : List Layer) (v : ℕ) → IsSession s → RepresentsLayers (seen_session s) fed → AsksIn s.network s.params s.layers s.tables v → AsksPoints s.network s.params (fed ++ l ∷ []) v
later-asked s l fed v is st asks =
    asks-more s.network s.params fed (l ∷ []) (whole (trellis s.network s.params) fed) v (open-asked s fed v is st asks)

no-ok : {A E : Type 0} (result : Result A E) (P : Type 0) → IsErr result → OnOk result P
no-ok (Ok x) P h = absurd (cc)
no-ok (Err e) P h = tt

always-ok : {A E : Type 0} (result : Result A E) (P : Type 0) → P → OnOk result P
always-ok (Ok x) P h = h
always-ok (Err e) P h = tt

-- where the step failed
pub failed-asks : {A E : Type 0} {rows new : RowsState} {result : Result A E} (s : KeptSession) (l : Layer) → IsSession s → AsksOnly rows new (AsksStep s l) → IsErr result → AsksFed (seen_session s) l rows result new
failed-asks {rows = rows} {new = new} {result = result} s l is asks err = record {
  keeps = asks.keeps;
  only = λ fed st. only_by asks (λ v. step-asked s l fed v is st);
  all = no-ok result ((fed : List Layer) (v : ℕ) → RepresentsLayers (seen_session s) fed → AsksPoints s.network s.params (fed ++ l ∷ []) v → AsksPoints s.network s.params fed v ⊎ Contains new.known v) err;
}

-- where it was done, and the open piece may have been closed
pub done-asks : {A E : Type 0} {rows mid new : RowsState} {result : Result A E} (s : KeptSession) (l : Layer) → IsSession s → AsksAll rows mid (AsksStep s l)
    → AsksOnly mid new (AsksIn s.network s.params s.layers s.tables) → AsksFed (seen_session s) l rows result new
done-asks {rows = rows} {mid = mid} {new = new} {result = result} s l is step close =
    let n = s.network in
    let p = s.params in
    record {
      keeps = keeps_then step.only.keeps close.keeps;
      only = λ fed st. only_then step.only close (λ v asked. ⊎_elim (λ a. step-asked s l fed v is st a) (λ b. later-asked s l fed v is st b) asked);
      all = always-ok result ((fed : List Layer) (v : ℕ) → RepresentsLayers (seen_session s) fed → AsksPoints n p (fed ++ l ∷ []) v → AsksPoints n p fed v ⊎ Contains new.known v)
          (λ fed v st asked.
          let split = whole (trellis n p) fed in
          let at = split-of (seen_session s) fed split st in
          ⊎_elim (λ old. inl old)
          (λ later.
          let same : drop split.closed fed ≡ s.layers = at.layers in
          let some : 0 < length s.layers = subst (λ xs. 0 < length xs) same later.0 in
          inr (close.keeps.known v (step.all v (some, later.1 s.tables (last_layer s) (last_cells s) (last-point s fed split is some at)))))
          (asks-split n p fed l split v asked));
    }

pub finished-asks : {rows new : RowsState} (s : KeptSession) → IsSession s → AsksOnly rows new (AsksIn s.network s.params s.layers s.tables) → AsksFinished (seen_session s) rows new
finished-asks s is asks = record { keeps = asks.keeps; only = λ fed st. only_by asks (λ v. open-asked s fed v is st) }
