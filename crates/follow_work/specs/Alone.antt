-- The works of a program that has `follow` alone, within the standard limits.
use Rattle.std.specs.Prelude.{Some, None}
use Rattle.std.specs.declared.option.Option.{Option}
use Rattle.command_line.specs.Work.{PlainWork}
use Rattle.command_line.specs.Work.PlainWork.{check_files, follow_files, match_files, match_town, prove_files, stream_files, table_of_network}
use Rattle.cost_model.specs.declared.params.Params.{Params}
use Rattle.follow_work.specs.Follow.{follow_plan}
use Rattle.program_frame.specs.Asked.{Plans}
use Rattle.program_frame.specs.Plan.{Plan}
use Rattle.road_network.specs.declared.limits.NetworkLimits.TheVariants.{Standard}

abbrev pub followed : PlainWork → Params → Option Plan
followed (follow_files network traces) options = Some (follow_plan Standard network traces options)
followed (match_files network traces table) options = None
followed (stream_files network traces idle) options = None
followed (prove_files network traces) options = None
followed (check_files network traces certificate) options = None
followed (table_of_network network) options = None
followed (match_town side traces seed) options = None

abbrev pub follow_alone : Plans
follow_alone command = followed command.work command.options
