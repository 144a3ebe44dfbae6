-- Which commands some statuses belong to, whether the shelf tells its bytes or not.
use Rattle.std.specs.Prelude.{◌≡◌, ◌≢◌, ℕ, List, Some, Ok}
use Rattle.command_line.specs.Work.{PlainCommand, PlainWork}
use Rattle.command_line.specs.Work.PlainWork.{check_files, match_files, match_town}
use Rattle.command_line.specs.Words.{command_of}
use Rattle.edge_io.specs.State.{ShelfState, SinkState}
use Rattle.program_frame.specs.Promises.{Promises}
use Rattle.program_run.specs.RunLines.{run_lines}
use Rattle.program_run.specs.Words.{asked_within}
use Rattle.road_network.specs.declared.limits.NetworkLimits.{NetworkLimits}

abbrev pub IsCheck : PlainWork → Type 0
IsCheck (check_files network traces certificate) = Unit {0}
IsCheck work = ⊥

-- `match` with a table file
abbrev pub HasTable : PlainWork → Type 0
HasTable (match_files network traces (Some table)) = Unit {0}
HasTable work = ⊥

abbrev pub IsTown : PlainWork → Type 0
IsTown (match_town side traces seed) = Unit {0}
IsTown work = ⊥

-- status 7 comes only for `check`, 9 only with a table file, and 3, 5 and 6 never for `town`
pub record TellsCommand (work : PlainWork) (status : ℕ) : Type 0 where
  pub check : status ≡ 7 → IsCheck work
  pub table : status ≡ 9 → HasTable work
  pub town : IsTown work → (status ≢ 3) × (status ≢ 5) × (status ≢ 6)

abbrev pub StatusesTellCommands : Type 0
StatusesTellCommands =
    (limits : NetworkLimits) (words : List (List ℕ)) (command : PlainCommand)
    (shelf shelf' : ShelfState) (out out' err err' : SinkState) (status : ℕ)
    → command_of words ≡ Ok command
    → Promises run_lines (asked_within limits words) shelf shelf' out out' err err' status
    → TellsCommand command.work status
