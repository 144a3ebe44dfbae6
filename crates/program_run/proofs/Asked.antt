-- What a command does is what the words ask for.
use Rattle.std.proofs.Common.{◌≡◌, ℕ, List, Result, Ok, refl, sym, subst}
use Rattle.command_line.specs.Work.{PlainCommand, plain, plain_work}
use Rattle.command_line.specs.Words.{command_of}
use Rattle.command_line.specs.declared.work.Command.{Command}
use Rattle.command_line.specs.declared.work.TownNumbers.{TownNumbers}
use Rattle.command_line.specs.declared.work.Work.{Work}
use Rattle.command_line.specs.declared.work.Work.TheVariants.{Town}
use Rattle.edge_io.specs.State.{ShelfState, SinkState}
use Rattle.program_frame.specs.Performs.{Performs}
use Rattle.program_frame.specs.declared.stop.Stop.{Stop}
use Rattle.program_frame.proofs.Asked.{asked_is}
use Rattle.road_network.specs.declared.limits.NetworkLimits.{NetworkLimits}
use Rattle.program_run.specs.Words.{asked_within, command_plan, every_work, work_plan}
use Rattle.match_work.specs.Towns.{town_plan}

pub asked_command : (limits : NetworkLimits) (words : List (List ℕ)) (command : PlainCommand) (shelf shelf' : ShelfState) (out out' : SinkState) (ended : Result (Unit {0}) Stop) → command_of words ≡ Ok command → Performs (Ok (command_plan limits command)) shelf shelf' out out' ended → Performs (asked_within limits words) shelf shelf' out out' ended
asked_command limits words command shelf shelf' out out' ended known performs =
    subst (λ a. Performs a shelf shelf' out out' ended) (sym (asked_is (every_work limits) words command (command_plan limits command) known refl)) performs

-- a town reads no file, so it leaves any shelf as it is
pub town_performs : (limits : NetworkLimits) (command : Command) (town : TownNumbers) (shelf : ShelfState) (out out' : SinkState) (ended : Result (Unit {0}) Stop) → command.work ≡ Town town → Performs (Ok (town_plan town.side town.traces town.seed command.options)) shelf shelf out out' ended → Performs (Ok (command_plan limits (plain command))) shelf shelf out out' ended
town_performs limits command town shelf out out' ended is performs =
    subst (λ (w : Work). Performs (Ok (work_plan limits (plain_work w) command.options)) shelf shelf out out' ended) (sym is) performs
