-- The program as `clap` reads its words: a simple command, of one subcommand for each kind of work.
use Rattle.std.specs.Prelude.{ℕ, List, [], ◌∷◌, ◌++◌, map, codes, Some, true, false}
use Rattle.clap.specs.Words.{App, Rule, Shape, new_rule}
use Rattle.clap.specs.Simple.{new_shape}
use Rattle.command_line.specs.Options.{all_options}
use Rattle.command_line.specs.Values.{name_of}
use Rattle.command_line.specs.Work.{WorkKind}
use Rattle.command_line.specs.works.Match.{match_kind}
use Rattle.command_line.specs.works.Streams.{streams_kind}
use Rattle.command_line.specs.works.Check.{check_kind}
use Rattle.command_line.specs.works.Table.{table_kind}
use Rattle.command_line.specs.works.Town.{town_kind}
use Rattle.command_line.specs.works.TraceFiles.{follow_kind, prove_kind}

abbrev pub all_kinds : List WorkKind
all_kinds =
    match_kind ∷ follow_kind ∷ streams_kind ∷ prove_kind ∷ check_kind ∷ table_kind ∷ town_kind ∷ []

-- `--NAME VALUE`, at most once, with its value kept as text
abbrev pub option_rule : List ℕ → Rule
option_rule name = record (new_rule name) { long = Some name }

-- one word, which has to be given
abbrev pub argument_rule : List ℕ → Rule
argument_rule name = record (new_rule name) { required = true }

-- a command that takes the options of every command, then its own, and then its arguments
abbrev pub command_shape : List ℕ → List (List ℕ) → List (List ℕ) → Shape
command_shape name options arguments = record (new_shape name) {
  rules = map (λ o. option_rule (name_of o)) all_options
      ++ map option_rule options
      ++ map argument_rule arguments;
}

abbrev pub kind_shape : WorkKind → Shape
kind_shape kind = command_shape kind.name kind.options kind.arguments

-- the words begin with a command, and not with the program's name
abbrev pub top_shape : Shape
top_shape = record (new_shape (codes "fmm")) {
  is_leaf = false;
  no_binary_name = true;
  subcommand_required = true;
}

unfoldable pub program : App
program = record { top = top_shape; subs = map kind_shape all_kinds }
