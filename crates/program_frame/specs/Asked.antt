-- The plan that words ask of a program, by the works that it knows.
use Rattle.std.specs.Prelude.{ℕ, List, Some, None, Result, Ok, Err}
use Rattle.std.specs.declared.option.Option.{Option}
use Rattle.command_line.specs.FaultLine.{fault_line}
use Rattle.command_line.specs.Work.{PlainCommand}
use Rattle.command_line.specs.declared.fault.WordsFault.{WordsFault}
use Rattle.command_line.specs.declared.fault.WordsFault.TheVariants.{Usage}
use Rattle.program_frame.specs.Plan.{Plan}

-- the plan of each command; none for one that the program does not know
abbrev pub Plans : Type 0
Plans = PlainCommand → Option Plan

-- what is not known is a faulty command line
abbrev pub known_or_line : Option Plan → Result Plan (List ℕ)
known_or_line (Some plan) = Ok plan
known_or_line None = Err (fault_line Usage)

-- the plan of the command that words spell, or the line of their refusal
abbrev pub asked_of : Plans → Result PlainCommand WordsFault → Result Plan (List ℕ)
asked_of plans (Ok command) = known_or_line (plans command)
asked_of plans (Err fault) = Err (fault_line fault)
