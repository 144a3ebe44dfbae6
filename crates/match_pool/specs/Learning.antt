-- What several readers have learned.
use Rattle.std.specs.Prelude.{◌≡◌, ◌≤◌, ◌↔◌, ◌⊎◌, ℕ, true, List, length, All}
use Rattle.std.specs.List.{list_any}
use Rattle.cost_model.specs.declared.params.Params.{Params}
use Rattle.road_network.specs.Net.{Net}
use Rattle.row_store.specs.Store.{Reading, Stored, is_known_to_any}
use Rattle.trace_match.specs.Match.{asks}
use Rattle.trace_reader.specs.declared.trace.Trace.{Trace}
use Rattle.match_pool.specs.Working.{IsReaderFor}

-- 1 to 64 readers of one store for this network, which return rows within the bound of these options
pub record AreReadersFor (n : Net) (p : Params) (readers : List Reading) : Type 0 where
  pub some : 1 ≤ length readers
  pub few : length readers ≤ 64
  pub each : All (IsReaderFor n p) readers
  pub store : Stored
  pub shared : All (λ r. r.store ≡ store) readers

-- some reader knows what some reader knew, and what these traces ask for
abbrev pub LearnAsked : Net → Params → List Trace → List Reading → List Reading → Type 0
LearnAsked n p traces before after =
    (v : ℕ) → (is_known_to_any after v ≡ true) ↔ ((is_known_to_any before v ≡ true) ⊎ (list_any (λ t. asks n p t v) traces ≡ true))
