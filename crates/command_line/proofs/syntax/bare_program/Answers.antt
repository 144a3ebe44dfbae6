use Rattle.std.proofs.Common.{◌∙◌, ap, true}
use Rattle.clap.specs.Words.{Shape}
use Rattle.clap.specs.Simple.{app_of_fields, on_top}
use Rattle.command_line.proofs.syntax.bare_program.Goals as goal

pub returns : goal.returns
returns c =
    ap app_of_fields c.subcommand_required.ensures
    ∙ (ap (λ f. app_of_fields (record f { subcommand_required = true })) c.no_binary_name.ensures
    ∙ ap (on_top (λ (s : Shape). record s { no_binary_name = true; subcommand_required = true })) c.new.ensures.app)
