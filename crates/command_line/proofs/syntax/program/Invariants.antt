use Rattle.std.proofs.Common.{◌≡◌, map, take}
use Rattle.clap.specs.Words.{app_of}
use Rattle.command_line.specs.inside.Building.{form_shape, with_commands}
use Rattle.command_line.proofs.syntax.program.Given as goal

abbrev pub invariant-loop-form : goal.invariant-loop-form
invariant-loop-form l =
    app_of l.program ≡ with_commands (app_of l.initial.program) (map form_shape (take l.form-index l.form-items))
