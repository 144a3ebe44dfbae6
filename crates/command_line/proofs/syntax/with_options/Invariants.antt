use Rattle.std.proofs.Common.{◌≡◌, map, take, false}
use Rattle.clap.specs.Words.{app_of}
use Rattle.clap.specs.declared.builder.command.Command.TheViews.{out-Command}
use Rattle.command_line.specs.Values.{name_of}
use Rattle.command_line.specs.inside.Building.{with_rules}
use Rattle.command_line.specs.Syntax.{option_rule}
use Rattle.command_line.proofs.syntax.with_options.Given as goal

abbrev pub invariant-loop-option : goal.invariant-loop-option
invariant-loop-option l =
    (app_of l.command ≡ with_rules (app_of l.initial.command) (map (λ o. option_rule (name_of o)) (take l.option-index l.option-items)))
    × ((out-Command l.command).has_globals ≡ false)
