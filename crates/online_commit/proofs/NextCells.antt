-- The step from the last point of the open piece.
use Rattle.std.proofs.Common.{◌≡◌, inr, ℕ, ◌+◌, ◌-◌, ◌<◌, IsTrue, List, [], Option, None, Some, Result, is_some, refl, true, sym, ap, ◌∙◌, subst, arith, length, get_or}
use Rattle.std.proofs.lemmas.List.{get_or-drop, get_or_default}
use Rattle.road_network.specs.Net.{IsLawful}
use Rattle.bounded_table.specs.Rows.{RowsState, AsksFor}
use Rattle.bounded_table.proofs.Asking.{asks_by}
use Rattle.matching.specs.declared.parts.Cell.{Cell}
use Rattle.matching.specs.declared.parts.Layer.{Layer}
use Rattle.matching.specs.Cells.{cell_at}
use Rattle.matching.specs.Layers.{trellis}
use Rattle.matching.specs.Local.{AreNext, IsLeastCell}
use Rattle.matching.specs.PieceSteps.{AsksAny, AsksNext, PieceEndsBefore, PieceGoesOn}
use Rattle.matching.proofs.Lists.{all-at}
use Rattle.matching.proofs.PieceSoFar.{so_far_count, so_far_small}
use Rattle.route_rebuild.specs.Routes.{no_layer}
use Rattle.trellis.specs.Offers.{AreCosts}
use Rattle.online_commit.proofs.Kept.{tight-pointer}
use Rattle.online_commit.specs.Session.{IsFedLayer}
use Rattle.online_commit.specs.inside.Steps.{AsksStep, IsSession, KeptSession, last_cells, last_layer}
use Rattle.online_commit.proofs.Extending.{kept-count, last-ends, session-ground}

pub read-at : {X : Type 0} (xs : List X) (i : ℕ) (x d : X) → i < length xs → x ≡ get_or xs i x → x ≡ get_or xs i d
read-at xs i x d lt e = e ∙ get_or_default xs i x d lt

-- what was read at the last point
pub record IsLastRead (s : KeptSession) (m : Layer) (costs : List Cell) : Type 0 where
  pub some : 0 < length s.layers
  pub layer : m ≡ last_layer s
  pub cells : costs ≡ last_cells s

pub some-kept : (s : KeptSession) → IsSession s → 0 < length s.kept_layers → 0 < length s.layers
some-kept s is some = let count = kept-count s is in omega (arith, some, count)

pub kept-some : (s : KeptSession) → IsSession s → 0 < length s.layers → 0 < length s.kept_layers
kept-some s is some = let count = kept-count s is in let within = is.kept.within in omega (arith, some, count, within)

pub last-read : (s : KeptSession) (m : Layer) (costs : List Cell) (ls : List Layer) (ts : List (List Cell)) → IsSession s → 0 < length s.kept_layers → ls ≡ s.kept_layers → ts ≡ s.kept_tables
    → m ≡ get_or ls (length ls - 1) m → costs ≡ get_or ts (length ls - 1) costs → IsLastRead s m costs
last-read s m costs ls ts is some el et em ec =
    let count = is.tables_count in
    let all = kept-count s is in
    let len = ap length el in
    let e : length s.settled + (length ls - 1) ≡ length s.layers - 1 = omega (arith, len, all, some) in
    record {
      some = some-kept s is some;
      layer = read-at s.layers (length s.layers - 1) m no_layer (omega (arith, some, all))
          (em ∙ ap (λ xs. get_or xs (length ls - 1) m) (el ∙ is.kept.layers) ∙ get_or-drop (length s.settled) s.layers (length ls - 1) m ∙ ap (λ k. get_or s.layers k m) e);
      cells = read-at s.tables (length s.layers - 1) costs [] (omega (arith, some, count, all))
          (ec ∙ ap (λ xs. get_or xs (length ls - 1) costs) (et ∙ is.kept.tables) ∙ get_or-drop (length s.settled) s.tables (length ls - 1) costs ∙ ap (λ k. get_or s.tables k costs) e);
    }

pub next-costs : (s : KeptSession) (m : Layer) (costs : List Cell) → IsSession s → IsLawful s.network → IsLastRead s m costs → AreCosts m costs
next-costs s m costs is lawful read =
    let last = last-ends s is read.some in
    let so_far = is.open_is read.some in
    let count = so_far_count s.network s.params s.layers s.tables (last_layer s) (last_cells s) so_far last in
    let few = (all-at (IsFedLayer s.network s.params) s.layers (length s.tables - 1) (last_layer s) is.layers last.layer).few in
    let are : AreCosts (last_layer s) (last_cells s) = record {
      count = count;
      few = omega (arith, count, few);
      small = so_far_small s.network s.params s.layers s.tables (last_layer s) (last_cells s) (session-ground s is lawful) so_far last;
    } in
    subst (λ x. AreCosts x costs) (sym read.layer) (subst (λ c. AreCosts (last_layer s) c) (sym read.cells) are)

pub dead-ends : (s : KeptSession) (l m : Layer) (costs cells : List Cell) → IsLastRead s m costs → AreNext (trellis s.network s.params) m costs l cells → ((j c : ℕ) → (cell_at cells j).cost ≡ Some c → ⊥)
    → PieceEndsBefore (trellis s.network s.params) (last_layer s) (last_cells s) l
dead-ends s l m costs cells read next dead =
    let t = trellis s.network s.params in
    inr (inr (cells, subst (λ x. AreNext t x (last_cells s) l cells) read.layer (subst (λ c. AreNext t m c l cells) read.cells next), dead))

some-cost : (x : Option ℕ) → is_some x ≡ true → (c : ℕ) × (x ≡ Some c)
some-cost None e = absurd (cc)
some-cost (Some c) e = (c, refl)

-- where one is live, it goes on
pub goes-made : (s : KeptSession) (l m : Layer) (costs cells : List Cell) (last : Cell) → IsLastRead s m costs → IsTrue ((trellis s.network s.params).near m l) → AreNext (trellis s.network s.params) m costs l cells
    → IsLeastCell cells last → is_some (last.cost) ≡ true → (0 < length s.layers) × PieceGoesOn (trellis s.network s.params) (last_layer s) (last_cells s) l cells
goes-made s l m costs cells last read near next least some =
    let t = trellis s.network s.params in
    let c = some-cost (last.cost) some in
    let way = tight-pointer (λ j. (cell_at cells j).cost) (length cells) (last.cost) (last.«from») c.0 least.tight c.1 in
    let on : PieceGoesOn t m costs l cells = record { near = near; next = next; rank = way.0; live = (way.2, way.3) } in
    (read.some, subst (λ x. PieceGoesOn t x (last_cells s) l cells) read.layer (subst (λ v. PieceGoesOn t m v l cells) read.cells on))

pub asked-step : {A E : Type 0} {old new : RowsState} {result : Result A E} (s : KeptSession) (l m : Layer) (costs : List Cell) → IsLastRead s m costs → 0 < length l.candidates → IsTrue ((trellis s.network s.params).near m l)
    → AsksFor old (AsksAny s.network m costs) result new → AsksFor old (AsksStep s l) result new
asked-step s l m costs read some near h =
    let n = s.network in
    let p = s.params in
    asks_by h
    (λ v asks. (read.some, subst (λ x. AsksNext n p x (last_cells s) l v) read.layer (subst (λ c. AsksNext n p m c l v) read.cells (record { some = some; near = near; asks = asks }))))
    (λ v step. (subst (λ x. AsksNext n p x costs l v) (sym read.layer) (subst (λ c. AsksNext n p (last_layer s) c l v) (sym read.cells) step.1)).asks)
