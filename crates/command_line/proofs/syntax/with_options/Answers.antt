use Rattle.std.proofs.Common.{◌∙◌, ap, ap₂, ◌||◌, rules}
use Rattle.clap.specs.Words.{app_of, with_rule}
use Rattle.command_line.specs.Options.{all_options}
use Rattle.command_line.specs.Values.{name_of}
use Rattle.command_line.specs.Syntax.{option_rule}
use Rattle.command_line.proofs.Rules.{one_more}
use Rattle.command_line.proofs.syntax.with_options.Goals as goal

pub loop-option-preserved : goal.loop-option-preserved
loop-option-preserved c =
    let added = c.in_ok-command.ensures in (
      added.shape c.arg.ensures.local
          ∙ (ap₂ with_rule c.loop-option.invariant.0 (c.arg.ensures.rule ∙ ap option_rule c.name.ensures)
          ∙ one_more (λ o. option_rule (name_of o)) (app_of c.args.command) all_options c.loop-option.option-index _ (search rules)),
      added.globals ∙ ap₂ (λ a b. a || b) c.loop-option.invariant.1 c.arg.ensures.local,
    )
