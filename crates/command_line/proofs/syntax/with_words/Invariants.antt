use Rattle.std.proofs.Common.{◌≡◌, map, take, false}
use Rattle.clap.specs.Words.{app_of}
use Rattle.clap.specs.declared.builder.command.Command.TheViews.{out-Command}
use Rattle.command_line.specs.inside.Building.{rule_of_word, with_rules}
use Rattle.command_line.proofs.syntax.with_words.Given as goal

abbrev pub invariant-loop-name : goal.invariant-loop-name
invariant-loop-name l =
    (app_of l.command ≡ with_rules (app_of l.initial.command) (map (λ s. rule_of_word l.role s.now) (take l.name-index l.names)))
    × ((out-Command l.command).has_globals ≡ false)
