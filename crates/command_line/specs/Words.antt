-- The command that words ask for.
use Rattle.std.specs.Prelude.{ℕ, List, [], ◌∷◌, if◌then◌else◌}
use Rattle.std.specs.Prelude.{Option, Some, None, Result, Ok, Err}
use Rattle.std.specs.Result.{result_map_both}
use Rattle.std.specs.Str.{bytes_eq}
use Rattle.clap.specs.Words.{Kinds, Row, Text, fault_of, first_of, subcommand_of}
use Rattle.command_line.specs.FaultLine.{fault_line}
use Rattle.command_line.specs.Options.{and_then, options_of}
use Rattle.command_line.specs.Syntax.{all_kinds, program}
use Rattle.command_line.specs.Work.{PlainCommand, PlainWork, WorkKind}
use Rattle.command_line.specs.declared.fault.WordsFault.{WordsFault}
use Rattle.command_line.specs.declared.fault.WordsFault.TheVariants.{Usage}

-- the work of the kind of this name, of what the words give for each name
abbrev pub work_of : List WorkKind → Text → (List ℕ → Option (List ℕ)) → Result PlainWork WordsFault
work_of [] name text = Err Usage
work_of (kind ∷ kinds) name text =
    if bytes_eq name kind.name then kind.work text else work_of kinds name text

-- the command of this name, of what the words give for each name: the options are read first
unfoldable pub command_named : Text → (List ℕ → Option (List ℕ)) → Result PlainCommand WordsFault
command_named name text =
    and_then (options_of text) (λ options.
    and_then (work_of all_kinds name text) (λ work.
    Ok (record { work = work; options = options })))

-- the command of the subcommand that the words name, with what they give for each name
abbrev pub entered_of : Option (Text × List Row) → Result PlainCommand WordsFault
entered_of None = Err Usage
entered_of (Some entered) = command_named entered.0 (λ name. first_of name entered.1)

abbrev pub if_taken : Kinds → Result PlainCommand WordsFault → Result PlainCommand WordsFault
if_taken [] command = command
if_taken (kind ∷ kinds) command = Err Usage

-- the command that the words ask for. Words are refused as `Usage` where `clap` has a fault for them, of any kind,
-- and only then are the values read
unfoldable pub command_of : List (List ℕ) → Result PlainCommand WordsFault
command_of words = if_taken (fault_of program words) (entered_of (subcommand_of program words))

-- the command, or the line of the refusal
abbrev pub command_or_line : List (List ℕ) → Result PlainCommand (List ℕ)
command_or_line words = result_map_both (λ command. command) fault_line (command_of words)
