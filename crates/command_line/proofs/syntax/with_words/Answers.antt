use Rattle.std.proofs.Common.{◌∙◌, ap, ap₂, ◌||◌, rules, map, take_all, []}
use Rattle.clap.specs.Words.{app_of, with_rule}
use Rattle.command_line.specs.inside.Building.{rule_of_word, with_rules}
use Rattle.command_line.proofs.Rules.{one_more}
use Rattle.command_line.proofs.syntax.with_words.Goals as goal

pub loop-name-preserved : goal.loop-name-preserved
loop-name-preserved c =
    let added = c.in_ok-command.ensures in (
      added.shape c.arg.ensures.local
          ∙ (ap₂ with_rule c.loop-name.invariant.0 c.arg.ensures.rule
          ∙ one_more (λ s. rule_of_word c.args.role s.now) (app_of c.args.command) c.args.names.now c.loop-name.name-index
          (record { ref_ptr = (0, 0); now = [] }) (search rules)),
      added.globals ∙ ap₂ (λ a b. a || b) c.loop-name.invariant.1 c.arg.ensures.local,
    )

pub returns-clause-app : goal.returns-clause-app
returns-clause-app c =
    c.loop-name.invariant.0
    ∙ ap (λ names. with_rules (app_of c.args.command) (map (λ s. rule_of_word c.args.role s.now) names))
    (take_all c.loop-name.name-index c.args.names.now c.loop-name-test.false)
