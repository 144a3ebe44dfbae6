-- What `fmm match NET TRACES` does where the two files list a network and traces: it writes the least match
-- of each trace.
use Rattle.std.specs.Prelude.{◌≡◌, ℕ, List, [], Option, Some}
use Rattle.cost_model.specs.declared.params.Params.{Params}
use Rattle.edge_io.specs.State.{ShelfState, SinkState, new_shelf, new_sink}
use Rattle.listed_files.specs.NetworkText.{IsListed, network_text}
use Rattle.listed_files.specs.TraceText.{AreListed, traces_text}
use Rattle.match_law.specs.LeastMatch.{IsMatchText}
use Rattle.match_law.specs.Wrote.{Wrote}
use Rattle.match_words.specs.MatchWords.{AreGiven, IsName, OptionValue, match_words, options_given}
use Rattle.program_frame.specs.Promises.{Promises}
use Rattle.program_run.specs.RunLines.{run_lines}
use Rattle.program_run.specs.Words.{asked_by}
use Rattle.road_network.specs.Net.{Net}
use Rattle.trace_reader.specs.declared.trace.Trace.{Trace}

-- the words are `match NETWORK TRACES` and then options in their ranges, in any order and each at most once; the
-- two files of these names list this network and these traces
pub record IsListedRun (words : List (List ℕ)) (files : List ℕ → Option (List ℕ)) (n : Net) (p : Params)
    (traces : List Trace) : Type 0 where
  pub network_name : List ℕ
  pub traces_name : List ℕ
  pub given : List OptionValue
  pub words_are : words ≡ match_words network_name traces_name given
  pub network_named : IsName network_name
  pub traces_named : IsName traces_name
  pub are_given : AreGiven given
  pub options_are : p ≡ options_given given
  pub network_held : files network_name ≡ Some (network_text n)
  pub traces_held : files traces_name ≡ Some (traces_text traces)
  pub network_listed : IsListed n
  pub traces_listed : AreListed traces

-- whatever keeps the promises of a run of these words, as `run` does, wrote the text of the least matches. It begins
-- with a new shelf of these files and two new streams, on which nothing is written; `shelf`, `out` and `err` are
-- their states afterwards
abbrev pub ListedMatchIsLeast : Type 0
ListedMatchIsLeast =
    (words : List (List ℕ)) (files : List ℕ → Option (List ℕ)) (n : Net) (p : Params) (traces : List Trace)
    (shelf : ShelfState) (out err : SinkState) (status : ℕ)
    → IsListedRun words files n p traces
    → Promises run_lines (asked_by words) (new_shelf (Some files)) shelf (new_sink (Some [])) out
    (new_sink (Some [])) err status
    → (text : List ℕ) × IsMatchText n p traces text × Wrote text shelf out err status
