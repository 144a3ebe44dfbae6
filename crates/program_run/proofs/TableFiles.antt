-- The outcome of `match` with a table file is that without it.
use Rattle.std.proofs.Common.{◌≡◌, ◌≢◌, ℕ, List, Option, Some, None, Result, Ok, Err, sym, ap}
use Rattle.program_frame.specs.Outcome.{Outcome, refused_with, bytes_seen}
use Rattle.program_frame.specs.Plan.{Plan, accepts, and_then, outcome_of}
use Rattle.program_frame.specs.Refusals.{network_said}
use Rattle.program_frame.specs.Stream.{works_traces}
use Rattle.road_network.specs.Limits.{file_limit}
use Rattle.road_network.specs.Net.{Net}
use Rattle.road_network.specs.declared.limits.NetworkLimits.{NetworkLimits}
use Rattle.table_work.specs.TableText.{table_text_limit}
use Rattle.program_run.specs.TableFiles.{TableFilesChangeNothing}
use Rattle.match_work.specs.Matches.{match_text}
use Rattle.table_work.specs.Preload.{preloads, table_file_said}

module _ (files : List ℕ → Option (List ℕ)) (o : Outcome) (other : o.status ≢ 9) where
  by_said : (next : Plan) (said : Result (Unit {0}) (List ℕ)) → outcome_of (accepts 9 said (λ _. next)) files ≡ Some o → outcome_of next files ≡ Some o
  by_said next (Ok done) e = e
  by_said next (Err line) e = let same : refused_with 9 line ≡ o = cc in absurd (other (sym (ap (λ x. x.status) same)))

  by_table : (next : Plan) (net : Net) (bound : ℕ) (read : Option (List ℕ)) → and_then read (λ bytes. outcome_of (accepts 9 (table_file_said net bound bytes) (λ _. next)) files) ≡ Some o → outcome_of next files ≡ Some o
  by_table next net bound None e = absurd cc
  by_table next net bound (Some bytes) e = by_said next (table_file_said net bound bytes) e

  by_net : (table : List ℕ) (bound : ℕ) (next : Net → Plan) (said : Result Net (List ℕ)) → outcome_of (accepts 5 said (λ net. preloads table net bound (next net))) files ≡ Some o → outcome_of (accepts 5 said (λ net. next net)) files ≡ Some o
  by_net table bound next (Ok net) e = by_table (next net) net bound (bytes_seen table_text_limit (files table)) e
  by_net table bound next (Err line) e = e

  pub by_network : (limits : NetworkLimits) (table : List ℕ) (bound : ℕ) (next : Net → Plan) (read : Option (List ℕ)) → and_then read (λ bytes. outcome_of (accepts 5 (network_said limits bytes) (λ net. preloads table net bound (next net))) files) ≡ Some o
      → and_then read (λ bytes. outcome_of (accepts 5 (network_said limits bytes) (λ net. next net)) files) ≡ Some o
  by_network limits table bound next None e = e
  by_network limits table bound next (Some bytes) e =
      by_net table bound next (network_said limits bytes) e

pub table_files_change_nothing : TableFilesChangeNothing
table_files_change_nothing limits network traces table options files o e other =
    by_network files o other limits table options.bound (λ net. works_traces traces (match_text (record { network = net; params = options }))) (bytes_seen (file_limit limits) (files network)) e
