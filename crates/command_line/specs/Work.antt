-- What words ask for, with the bytes of its names.
use Rattle.std.specs.Prelude.{ℕ, List, Option, Result, option_map}
use Rattle.cost_model.specs.Options.{IsWithin}
use Rattle.cost_model.specs.declared.params.Params.{Params}
use Rattle.command_line.specs.Values.{range_of}
use Rattle.command_line.specs.declared.fault.WordsFault.{WordsFault}
use Rattle.command_line.specs.declared.value.ValueName.TheVariants.{Idle, N, T}
use Rattle.command_line.specs.declared.work.Command.{Command}
use Rattle.command_line.specs.declared.work.Work.{Work}
use Rattle.command_line.specs.declared.work.Work.TheVariants.{Match, Follow, Streams, Prove, Check, Table, Town}

pub data PlainWork : Type 0 where
  match_files : (network traces : List ℕ) (table : Option (List ℕ)) → PlainWork
  follow_files : (network traces : List ℕ) → PlainWork
  stream_files : (network traces : List ℕ) (idle : ℕ) → PlainWork
  prove_files : (network traces : List ℕ) → PlainWork
  check_files : (network traces certificate : List ℕ) → PlainWork
  table_of_network : (network : List ℕ) → PlainWork
  match_town : (side traces seed : ℕ) → PlainWork

pub record PlainCommand : Type 0 where
  pub work : PlainWork
  pub options : Params

abbrev pub plain_work : Work → PlainWork
plain_work (Match files) =
    match_files files.network.now files.traces.now (option_map (λ name. name.now) files.table)
plain_work (Follow files) = follow_files files.network.now files.traces.now
plain_work (Streams files) = stream_files files.network.now files.traces.now files.idle
plain_work (Prove files) = prove_files files.network.now files.traces.now
plain_work (Check files) =
    check_files files.network.now files.traces.now files.certificate.now
plain_work (Table files) = table_of_network files.network.now
plain_work (Town town) = match_town town.side town.traces town.seed

-- the numbers of a work are in their ranges
abbrev pub AreNumbersWithin : Work → Type 0
AreNumbersWithin (Match files) = Unit {0}
AreNumbersWithin (Follow files) = Unit {0}
AreNumbersWithin (Streams files) = IsWithin (range_of Idle).least (range_of Idle).most files.idle
AreNumbersWithin (Prove files) = Unit {0}
AreNumbersWithin (Check files) = Unit {0}
AreNumbersWithin (Table files) = Unit {0}
AreNumbersWithin (Town town) =
    IsWithin (range_of N).least (range_of N).most town.side
    × IsWithin (range_of T).least (range_of T).most town.traces

abbrev pub plain : Command → PlainCommand
plain command = record { work = plain_work command.work; options = command.options }

-- a kind of work as words ask for it: the name of its command, the options that it takes beside
-- those of every command, its arguments in their order, and the work that the words ask for, of what
-- they give for each name
pub record WorkKind : Type 0 where
  pub name : List ℕ
  pub options : List (List ℕ)
  pub arguments : List (List ℕ)
  pub work : (List ℕ → Option (List ℕ)) → Result PlainWork WordsFault
