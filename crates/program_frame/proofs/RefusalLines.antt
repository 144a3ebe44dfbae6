-- The table of lines has every line with which plans end that stand on words, a network and traces.
use Rattle.std.proofs.Common.{◌≡◌, ◌≢◌, ℕ, List, [], Some, None, Result, Ok, Err, refl, sym, ◌∙◌, ap, inl, inr}
use Rattle.std.specs.Prelude.{option_map}
use Rattle.std.specs.declared.option.Option.{Option}
use Rattle.std.specs.Result.{result_map_both}
use Rattle.command_line.specs.FaultLine.{fault_line as words_fault_line}
use Rattle.command_line.proofs.NoWords.{no_words}
use Rattle.command_line.specs.Work.{PlainCommand}
use Rattle.command_line.specs.Words.{command_of}
use Rattle.command_line.specs.declared.fault.WordsFault.{WordsFault}
use Rattle.command_line.specs.declared.fault.WordsFault.TheVariants.{Usage}
use Rattle.program_frame.specs.Asked.{Plans, asked_of, known_or_line}
use Rattle.program_frame.specs.Jobs.{outcome_given_by}
use Rattle.program_frame.specs.Plan.{Plan, IsLineOf, accepts, plan_of}
use Rattle.program_frame.specs.Plan.Plan.{ends}
use Rattle.program_frame.specs.Promises.{Covers}
use Rattle.program_frame.specs.Refusals.{network_said, refusal_lines}
use Rattle.road_network.specs.Net.{Net}
use Rattle.road_network.specs.declared.limits.NetworkLimits.{NetworkLimits}
use Rattle.trace_reader.specs.Fault.{fault_line}
use Rattle.trace_reader.specs.Reading.{file_fault}
use Rattle.trace_reader.specs.declared.fault.TraceFault.{TraceFault}

pub traces_end : (texts ending bytes : List ℕ) (fault : Option TraceFault) (status : ℕ) (line : List ℕ) → file_fault bytes ≡ fault → status ≢ 0 → IsLineOf (ends (outcome_given_by None fault texts ending)) status line → refusal_lines status line
traces_end texts ending bytes (Some fault) status line known refused is = inr (inr (sym is.0, (bytes, ap (option_map fault_line) known ∙ ap (λ l. Some l) is.1)))
traces_end texts ending bytes None status line known refused is = absurd (refused (sym is.0))

-- of any table that has these lines
pub network_end : (lines : ℕ → List ℕ → Type 0) → ((status : ℕ) (line : List ℕ) → refusal_lines status line → lines status line) → (limits : NetworkLimits) (bytes : List ℕ) (said : Result Net (List ℕ)) (next : Net → Plan) (status : ℕ) (line : List ℕ) → network_said limits bytes ≡ said → ((net : Net) → IsLineOf (next net) status line → lines status line) → IsLineOf (accepts 5 said next) status line → lines status line
network_end lines has limits bytes (Ok net) next status line known rest is = rest net is
network_end lines has limits bytes (Err fault) next status line known rest is = has status line (inr (inl (sym is.0, (limits, bytes, known ∙ ap (λ l. Err l) is.1))))

pub words_end : (words : List (List ℕ)) (fault : WordsFault) (status : ℕ) (line : List ℕ) → command_of words ≡ Err fault → IsLineOf (plan_of (Err (words_fault_line fault))) status line → refusal_lines status line
words_end words fault status line known is = inl (sym is.0, (words, ap (result_map_both (λ (c : PlainCommand). c) words_fault_line) known ∙ ap (λ l. Err l) is.1))

planned_end : (lines : ℕ → List ℕ → Type 0) → ((status : ℕ) (line : List ℕ) → refusal_lines status line → lines status line) → (plan : Option Plan) (status : ℕ) (line : List ℕ) → ((known : Plan) → plan ≡ Some known → IsLineOf known status line → lines status line) → IsLineOf (plan_of (known_or_line plan)) status line → lines status line
planned_end lines has (Some known) status line rest is = rest known refl is
planned_end lines has None status line rest is = has status line (words_end [] Usage status line no_words is)

asked_end : (lines : ℕ → List ℕ → Type 0) → ((status : ℕ) (line : List ℕ) → refusal_lines status line → lines status line) → (plans : Plans) (words : List (List ℕ)) (command : Result PlainCommand WordsFault) (status : ℕ) (line : List ℕ) → command_of words ≡ command → ((command : PlainCommand) (known : Plan) → plans command ≡ Some known → IsLineOf known status line → lines status line) → IsLineOf (plan_of (asked_of plans command)) status line → lines status line
asked_end lines has plans words (Ok command) status line is rest ended = planned_end lines has (plans command) status line (rest command) ended
asked_end lines has plans words (Err fault) status line is rest ended = has status line (words_end words fault status line is ended)

-- where the lines of each known plan are in the table, so are those of any words
pub asked_covered : (lines : ℕ → List ℕ → Type 0) → ((status : ℕ) (line : List ℕ) → refusal_lines status line → lines status line) → (plans : Plans) (words : List (List ℕ)) → ((command : PlainCommand) (known : Plan) (status : ℕ) (line : List ℕ) → plans command ≡ Some known → status ≢ 0 → IsLineOf known status line → lines status line) → Covers lines (asked_of plans (command_of words))
asked_covered lines has plans words rest status line refused is =
    asked_end lines has plans words (command_of words) status line refl (λ command known planned. rest command known status line planned refused) is
