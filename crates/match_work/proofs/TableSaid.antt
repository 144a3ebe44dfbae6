-- A table file that is read for a store.
use Rattle.std.proofs.Common.{◌≡◌, ap, ◌∙◌}
use Rattle.cost_model.specs.declared.params.Params.{Params}
use Rattle.road_network.specs.Net.{Net}
use Rattle.row_store.specs.Store.{Stored}
use Rattle.table_work.specs.Preload.{table_file_said}
use Rattle.trace_match.specs.Setting.{Setting}
use Rattle.match_work.specs.Sharing.{IsStoreFor}

-- what a file says is the same for a store and for its network and options
pub said_for_store : (on : Setting) (net : Net) (options : Params) (store : Stored) → on ≡ record { network = net; params = options } → IsStoreFor on store → table_file_said store.network store.bound ≡ table_file_said net options.bound
said_for_store on net options store is for_store =
    ap (λ n. table_file_said n store.bound) (for_store.network ∙ ap (λ (m : Setting). m.network) is)
    ∙ ap (table_file_said net) (for_store.bound ∙ ap (λ (m : Setting). m.params.bound) is)
