-- `town N T SEED`.
use Rattle.std.specs.Prelude.{ℕ, List, [], ◌∷◌, codes, Option, None, Some, Result, Ok, Err}
use Rattle.command_line.specs.Options.{and_then}
use Rattle.command_line.specs.Values.{name_of, value_of}
use Rattle.command_line.specs.Work.{PlainWork, WorkKind}
use Rattle.command_line.specs.Work.PlainWork.{match_town}
use Rattle.command_line.specs.declared.fault.WordsFault.{WordsFault}
use Rattle.command_line.specs.declared.fault.WordsFault.TheVariants.{Usage}
use Rattle.command_line.specs.declared.value.ValueName.{ValueName}
use Rattle.command_line.specs.declared.value.ValueName.TheVariants.{N, T, Seed}

-- the value of an argument, of what the words give for its name
abbrev pub argument_of : ValueName → Option (List ℕ) → Result ℕ WordsFault
argument_of name None = Err Usage
argument_of name (Some text) = value_of name text

-- the values are read in their order
unfoldable pub town_of : (List ℕ → Option (List ℕ)) → Result PlainWork WordsFault
town_of text =
    and_then (argument_of N (text (name_of N))) (λ side.
    and_then (argument_of T (text (name_of T))) (λ traces.
    and_then (argument_of Seed (text (name_of Seed))) (λ seed.
    Ok (match_town side traces seed))))

abbrev pub town_kind : WorkKind
town_kind = record {
  name = codes "town";
  options = [];
  arguments = codes "N" ∷ codes "T" ∷ codes "SEED" ∷ [];
  work = town_of;
}
