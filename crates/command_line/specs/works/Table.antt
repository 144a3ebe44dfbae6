-- `table NET`.
use Rattle.std.specs.Prelude.{ℕ, List, [], ◌∷◌, codes, Option, Some, None, Result, Ok, Err}
use Rattle.command_line.specs.Work.{PlainWork, WorkKind}
use Rattle.command_line.specs.Work.PlainWork.{table_of_network}
use Rattle.command_line.specs.declared.fault.WordsFault.{WordsFault}
use Rattle.command_line.specs.declared.fault.WordsFault.TheVariants.{Usage}

abbrev pub table_work : Option (List ℕ) → Result PlainWork WordsFault
table_work (Some network) = Ok (table_of_network network)
table_work None = Err Usage

abbrev pub table_kind : WorkKind
table_kind = record {
  name = codes "table";
  options = [];
  arguments = codes "NET" ∷ [];
  work = λ text. table_work (text (codes "NET"));
}
