-- Laws on the promises of a run, with the table of lines that every program has.
use Rattle.std.specs.Prelude.{◌≡◌, ◌⊎◌, ℕ, List, Result, Ok, IsOk}
use Rattle.edge_io.specs.Sink.{Puts}
use Rattle.edge_io.specs.State.{ShelfState, SinkState}
use Rattle.edge_io.specs.declared.sink.Put.{Put}
use Rattle.edge_io.specs.declared.sink.Put.TheVariants.{All}
use Rattle.program_frame.specs.Outcome.{done_with}
use Rattle.program_frame.specs.Performs.{Performs}
use Rattle.program_frame.specs.Plan.{Plan}
use Rattle.program_frame.specs.Plan.Plan.{ends}
use Rattle.program_frame.specs.Promises.{Covers, Promises}
use Rattle.program_frame.specs.Refusals.{refusal_lines}
use Rattle.program_frame.specs.Stops.{line_of_result, status_after}
use Rattle.program_frame.specs.declared.stop.Stop.{Stop}

-- the work of a plan was done, and the line of its end was put where there is one
abbrev pub PromisesAreKept : Type 0
PromisesAreKept =
    (asked : Result Plan (List ℕ)) (shelf shelf' : ShelfState) (out out' err err' : SinkState)
    (ended : Result (Unit {0}) Stop) (put : Put)
    → Covers refusal_lines asked
    → Performs asked shelf shelf' out out' ended
    → Puts err err' (line_of_result ended) put
    → (IsOk ended → put ≡ All)
    → Promises refusal_lines asked shelf shelf' out out' err err' (status_after ended put)

-- a plan that reads nothing and refuses nothing
abbrev pub OnlyReadersRefuse : Type 0
OnlyReadersRefuse =
    (text : List ℕ) (shelf shelf' : ShelfState) (out out' err err' : SinkState) (status : ℕ)
    → Promises refusal_lines (Ok (ends (done_with text))) shelf shelf' out out' err err' status
    → (status ≡ 0) ⊎ (status ≡ 1) ⊎ (status ≡ 4)
