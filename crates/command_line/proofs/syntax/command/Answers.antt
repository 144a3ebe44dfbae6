use Rattle.std.proofs.Common.{◌∙◌, ap, map}
use Rattle.std.proofs.lemmas.Result.{IfOk-weaker}
use Rattle.clap.specs.Words.{App}
use Rattle.command_line.specs.Options.{all_options}
use Rattle.command_line.specs.inside.Building.{rule_of_word, with_rules}
use Rattle.command_line.specs.Syntax.{option_rule}
use Rattle.command_line.specs.Values.{name_of}
use Rattle.command_line.proofs.Rules.{in_three, of_the_names}
use Rattle.command_line.specs.declared.syntax.WordRole.TheVariants.{Option, Argument}
use Rattle.command_line.proofs.syntax.command.Goals as goal

pub returns-clause-shape : goal.returns-clause-shape
returns-clause-shape c =
    let every = map (λ o. option_rule (name_of o)) all_options in
    let own = map (λ s. rule_of_word Option s.now) c.args.form.now.options.now in
    let arguments = map (λ s. rule_of_word Argument s.now) c.args.form.now.arguments.now in
    let base = c.in_ok-command.ensures.app ∙ ap (λ a. with_rules a every) c.new.ensures.app in
    let with_own = c.in_ok-command-2.ensures.app ∙ ap (λ a. with_rules a own) base in
    IfOk-weaker c.with_words-2.result _ _ (λ m h. ap (λ (a : App). a.top) h
    ∙ (ap (λ a. (with_rules a arguments).top) with_own
    ∙ in_three c.args.form.now.name.now every _ _ _ _ (of_the_names Option c.args.form.now.options.now) (of_the_names Argument c.args.form.now.arguments.now)))
    c.with_words-2.ensures.app
