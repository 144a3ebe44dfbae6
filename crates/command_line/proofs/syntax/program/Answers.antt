use Rattle.std.proofs.Common.{◌∙◌, ap, map, take_all, rules}
use Rattle.clap.specs.Words.{app_of, with_subcommand}
use Rattle.command_line.specs.inside.Building.{form_shape, with_commands}
use Rattle.command_line.specs.Syntax.{all_kinds, kind_shape, program}
use Rattle.command_line.proofs.Rules.{one_more_command}
use Rattle.command_line.proofs.syntax.program.Goals as goal

pub loop-form-preserved : goal.loop-form-preserved
loop-form-preserved c =
    c.in_ok-program.ensures.shape c.in_ok-command.ensures.local
    ∙ ap (with_subcommand (app_of c.loop-form.program)) c.in_ok-command.ensures.shape
    ∙ one_more_command form_shape _ _ _ c.loop-form.form-index _ (search rules) c.loop-form.invariant

pub returns : goal.returns
unfolding program
returns c =
    c.loop-form.invariant
    ∙ (ap (λ forms. with_commands (app_of c.bare_program-program.result) (map form_shape forms))
    (take_all c.loop-form.form-index _ c.loop-form-test.false)
    ∙ ap (λ a. with_commands a (map kind_shape all_kinds)) c.bare_program-program.ensures)
