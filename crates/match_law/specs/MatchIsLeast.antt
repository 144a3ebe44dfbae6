-- What `fmm match NET TRACES` does, whatever the bytes of the two files are: it writes the least match of
-- each trace.
use Rattle.std.specs.Prelude.{◌≡◌, ℕ, List, [], Option, Some, None, Ok}
use Rattle.command_line.specs.Work.PlainWork.{match_files}
use Rattle.command_line.specs.Words.{command_of}
use Rattle.cost_model.specs.declared.params.Params.{Params}
use Rattle.edge_io.specs.State.{ShelfState, SinkState, new_shelf, new_sink}
use Rattle.match_law.specs.LeastMatch.{IsMatchText}
use Rattle.match_law.specs.Wrote.{Wrote}
use Rattle.program_frame.specs.Promises.{Promises}
use Rattle.program_run.specs.RunLines.{run_lines}
use Rattle.program_run.specs.Words.{asked_by}
use Rattle.road_network.specs.Net.{Net}
use Rattle.road_network.specs.NetworkFile.{network_of}
use Rattle.road_network.specs.declared.limits.NetworkLimits.TheVariants.{Standard}
use Rattle.trace_reader.specs.Reading.{file_fault, file_traces}
use Rattle.trace_reader.specs.declared.trace.Trace.{Trace}

-- the words ask to match, with these options; the files that they name are a network and traces without a
-- fault
pub record IsMatchRun (words : List (List ℕ)) (files : List ℕ → Option (List ℕ)) (n : Net) (p : Params)
    (traces : List Trace) : Type 0 where
  pub network_name : List ℕ
  pub traces_name : List ℕ
  pub network_bytes : List ℕ
  pub trace_bytes : List ℕ
  pub words_are : command_of words
      ≡ Ok (record { work = match_files network_name traces_name None; options = p })
  pub network_held : files network_name ≡ Some network_bytes
  pub traces_held : files traces_name ≡ Some trace_bytes
  pub network_is : network_of Standard network_bytes ≡ Ok n
  pub traces_are : file_traces trace_bytes ≡ traces
  pub faultless : file_fault trace_bytes ≡ None

-- whatever keeps the promises of a run of these words, as `run` does, wrote the text of the least matches. It begins
-- with a new shelf of these files and two new streams, on which nothing is written; `shelf`, `out` and `err` are
-- their states afterwards
abbrev pub MatchIsLeast : Type 0
MatchIsLeast =
    (words : List (List ℕ)) (files : List ℕ → Option (List ℕ)) (n : Net) (p : Params) (traces : List Trace)
    (shelf : ShelfState) (out err : SinkState) (status : ℕ)
    → IsMatchRun words files n p traces
    → Promises run_lines (asked_by words) (new_shelf (Some files)) shelf (new_sink (Some [])) out
    (new_sink (Some [])) err status
    → (text : List ℕ) × IsMatchText n p traces text × Wrote text shelf out err status
