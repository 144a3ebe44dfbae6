-- What a program does with words is what their plan says.
use Rattle.std.proofs.Common.{◌≡◌, ◌≢◌, ◌⊎◌, ℕ, List, Some, None, Result, Ok, Err, sym, ◌∙◌, ap, subst, inl, inr}
use Rattle.command_line.specs.FaultLine.{fault_line}
use Rattle.command_line.specs.Work.{PlainCommand}
use Rattle.command_line.specs.Words.{command_of}
use Rattle.command_line.specs.declared.fault.WordsFault.{WordsFault}
use Rattle.command_line.specs.declared.fault.WordsFault.TheVariants.{Memory, Usage}
use Rattle.edge_io.specs.State.{ShelfState, SinkState}
use Rattle.program_frame.specs.Asked.{Plans, asked_of, known_or_line}
use Rattle.program_frame.specs.Performs.{Performs}
use Rattle.program_frame.specs.Plan.{Plan}
use Rattle.program_frame.specs.inside.Refusing.{RefusesWords}
use Rattle.program_frame.specs.declared.stop.Stop.{Stop}
use Rattle.program_frame.specs.declared.stop.Stop.TheVariants.{Refused, NoMemory, Unread, Unwritten}
use Rattle.program_frame.proofs.Stages.{memory_performs, words_stop}

-- words with this line are refused with it, or memory ran out
line_refuses : (asked : Result Plan (List ℕ)) (fault : WordsFault) (shelf : ShelfState) (out : SinkState) (stop : Stop) → (fault ≢ Memory → asked ≡ Err (fault_line fault)) → RefusesWords fault stop → Performs asked shelf shelf out out (Err stop)
line_refuses asked fault shelf out (Refused r line) known refuses =
    subst (λ (a : Result Plan (List ℕ)). Performs a shelf shelf out out (Err (Refused r line))) (sym (known refuses.0)) (words_stop (fault_line fault) shelf out (Refused r line) (refuses.1, ap (λ (l : List ℕ). Err l) (sym refuses.2)))
line_refuses asked fault shelf out NoMemory known refuses = memory_performs asked shelf out
line_refuses asked fault shelf out (Unread file) known refuses = absurd refuses
line_refuses asked fault shelf out Unwritten known refuses = absurd refuses

known_fault : (plans : Plans) (words : List (List ℕ)) (fault : WordsFault) → (fault ≡ Memory) ⊎ (command_of words ≡ Err fault) → fault ≢ Memory → asked_of plans (command_of words) ≡ Err (fault_line fault)
known_fault plans words fault (inl memory) other = absurd (other memory)
known_fault plans words fault (inr known) other = ap (asked_of plans) known

pub words_refuse : (plans : Plans) (words : List (List ℕ)) (fault : WordsFault) (shelf : ShelfState) (out : SinkState) (stop : Stop) → (fault ≡ Memory) ⊎ (command_of words ≡ Err fault) → RefusesWords fault stop → Performs (asked_of plans (command_of words)) shelf shelf out out (Err stop)
words_refuse plans words fault shelf out stop known refuses = line_refuses (asked_of plans (command_of words)) fault shelf out stop (known_fault plans words fault known) refuses

-- the words ask for a work that the program does not know
pub others_refuse : (plans : Plans) (words : List (List ℕ)) (command : PlainCommand) (shelf : ShelfState) (out : SinkState) (stop : Stop) → command_of words ≡ Ok command → plans command ≡ None → RefusesWords Usage stop → Performs (asked_of plans (command_of words)) shelf shelf out out (Err stop)
others_refuse plans words command shelf out stop is other refuses =
    line_refuses (asked_of plans (command_of words)) Usage shelf out stop (λ _. ap (asked_of plans) is ∙ ap known_or_line other) refuses

-- the words ask for a work that it knows
pub asked_is : (plans : Plans) (words : List (List ℕ)) (command : PlainCommand) (plan : Plan) → command_of words ≡ Ok command → plans command ≡ Some plan → asked_of plans (command_of words) ≡ Ok plan
asked_is plans words command plan is known = ap (asked_of plans) is ∙ ap known_or_line known
