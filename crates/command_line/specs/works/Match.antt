-- `match NET TRACES [--table FILE]`.
use Rattle.std.specs.Prelude.{ℕ, List, [], ◌∷◌, codes, Option, Some, Result, Ok, Err}
use Rattle.command_line.specs.Work.{PlainWork, WorkKind}
use Rattle.command_line.specs.Work.PlainWork.{match_files}
use Rattle.command_line.specs.declared.fault.WordsFault.{WordsFault}
use Rattle.command_line.specs.declared.fault.WordsFault.TheVariants.{Usage}

abbrev pub match_of : (network traces table : Option (List ℕ)) → Result PlainWork WordsFault
match_of (Some network) (Some traces) table = Ok (match_files network traces table)
match_of _ _ _ = Err Usage

abbrev pub match_kind : WorkKind
match_kind = record {
  name = codes "match";
  options = codes "table" ∷ [];
  arguments = codes "NET" ∷ codes "TRACES" ∷ [];
  work = λ text. match_of (text (codes "NET")) (text (codes "TRACES")) (text (codes "table"));
}
