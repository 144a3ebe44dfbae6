-- The program as the code builds it, one word and one command after the other.
use Rattle.std.specs.Prelude.{ℕ, List, [], ◌∷◌, ◌++◌, map, codes, true}
use Rattle.clap.specs.Words.{App, Rule, Shape, new_app, with_subcommand}
use Rattle.clap.specs.Simple.{on_top}
use Rattle.command_line.specs.Syntax.{argument_rule, command_shape, option_rule}
use Rattle.command_line.specs.declared.syntax.Form.{Form}
use Rattle.command_line.specs.declared.syntax.WordRole.{WordRole}
use Rattle.command_line.specs.declared.syntax.WordRole.TheVariants.{Option, Argument}

abbrev pub rule_of_word : WordRole → List ℕ → Rule
rule_of_word Option = option_rule
rule_of_word Argument = argument_rule

-- the command with these after its arguments
abbrev pub with_rules : App → List Rule → App
with_rules app rules = on_top (λ shape. record shape { rules = shape.rules ++ rules }) app

-- the program before it has commands
abbrev pub bare_program : App
bare_program =
    on_top (λ shape. record shape { no_binary_name = true; subcommand_required = true })
    (new_app (codes "fmm"))

-- the program with these commands
abbrev pub with_commands : App → List Shape → App
with_commands app [] = app
with_commands app (shape ∷ shapes) = with_commands (with_subcommand app shape) shapes

abbrev pub form_shape : Form → Shape
form_shape form =
    command_shape form.name.now
    (map (λ s. s.now) form.options.now) (map (λ s. s.now) form.arguments.now)
