-- `check NET TRACES CERT`.
use Rattle.std.specs.Prelude.{ℕ, List, [], ◌∷◌, codes, Option, Some, Result, Ok, Err}
use Rattle.command_line.specs.Work.{PlainWork, WorkKind}
use Rattle.command_line.specs.Work.PlainWork.{check_files}
use Rattle.command_line.specs.declared.fault.WordsFault.{WordsFault}
use Rattle.command_line.specs.declared.fault.WordsFault.TheVariants.{Usage}

abbrev pub check_of : (network traces certificate : Option (List ℕ)) → Result PlainWork WordsFault
check_of (Some network) (Some traces) (Some certificate) =
    Ok (check_files network traces certificate)
check_of _ _ _ = Err Usage

abbrev pub check_kind : WorkKind
check_kind = record {
  name = codes "check";
  options = [];
  arguments = codes "NET" ∷ codes "TRACES" ∷ codes "CERT" ∷ [];
  work = λ text. check_of (text (codes "NET")) (text (codes "TRACES")) (text (codes "CERT"));
}
