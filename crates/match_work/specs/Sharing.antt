-- Readers of one store, and what matching by them leaves.
use Rattle.std.specs.Prelude.{◌≡◌, List, All, Result, IfOk, OnOk, replicate}
use Rattle.std.specs.List.{AllZip}
use Rattle.std.specs.declared.alloc.AllocError.{AllocError}
use Rattle.match_pool.specs.Learning.{AreReadersFor, LearnAsked}
use Rattle.match_pool.specs.Working.{StaysReader}
use Rattle.match_text.specs.declared.matched.MatchedTrace.{MatchedTrace}
use Rattle.row_store.specs.Store.{Reading, Stored, fresh_reading}
use Rattle.trace_reader.specs.declared.trace.Trace.{Trace}
use Rattle.match_work.specs.Matched.{AreMatchesOf}
use Rattle.trace_match.specs.Setting.{Setting}

-- the store is for the network of this setting, and for rows within the bound of the options
pub record IsStoreFor (on : Setting) (store : Stored) : Type 0 where
  pub network : store.network ≡ on.network
  pub bound : store.bound ≡ on.params.bound

-- as many readers as the setting has workers, which know nothing
abbrev pub fresh_readers : Setting → Stored → List Reading
fresh_readers on store = replicate on.params.workers (fresh_reading store)

-- readers for this setting, all of one store
pub record ShareStore (on : Setting) (readers : List Reading) : Type 0 where
  pub readers_are : AreReadersFor on.network on.params readers
  pub store : Stored
  pub each : All (λ r. r.store ≡ store) readers

-- the matches of these traces; the readers stay readers of their stores, and what the traces ask for
-- became known to some of them
pub record MatchesBatch (on : Setting) (traces : List Trace) (old : List Reading)
    (result : Result (List MatchedTrace) AllocError) (new : List Reading) : Type 0 where
  pub matched : IfOk result (AreMatchesOf on traces)
  pub stay : AllZip StaysReader old new
  pub learn : OnOk result (LearnAsked on.network on.params traces old new)
