-- The statuses of the lines with which a plan may end.
use Rattle.std.proofs.Common.{◌≡◌, ◌≢◌, ℕ, List, Option, Some, None, Result, Ok, Err, refl, ap, subst, arith}
use Rattle.command_line.specs.Work.{PlainCommand, PlainWork}
use Rattle.command_line.specs.Work.PlainWork.{check_files, follow_files, match_files, match_town, prove_files, stream_files, table_of_network}
use Rattle.command_line.specs.declared.fault.WordsFault.{WordsFault}
use Rattle.cost_model.specs.declared.params.Params.{Params}
use Rattle.edge_io.specs.State.{ShelfState, SinkState}
use Rattle.follow_work.specs.Follow.{follow_job}
use Rattle.match_work.specs.Matches.{match_text}
use Rattle.check_work.specs.Check.{check_said}
use Rattle.prove_work.specs.Prove.{prove_said}
use Rattle.follow_work.specs.Streams.{streams_within}
use Rattle.table_work.specs.Preload.{preloads, table_file_said}
use Rattle.table_work.specs.Table.{table_said}
use Rattle.program_frame.specs.Asked.{asked_of}
use Rattle.program_frame.specs.Jobs.{JobText, outcome_given_by}
use Rattle.program_frame.specs.Outcome.{done_with}
use Rattle.program_frame.specs.Plan.{Plan, IsLineOf, accepts, loads}
use Rattle.program_frame.specs.Plan.Plan.{ends}
use Rattle.program_frame.specs.Promises.{IsSettled, Promises}
use Rattle.program_frame.specs.Refusals.{network_said, trace_limit}
use Rattle.program_frame.specs.Stream.{works_traces}
use Rattle.program_frame.specs.WholeTraces.{traces_said}
use Rattle.program_frame.specs.declared.stop.File.TheVariants.{Certificate as OfCertificate, Traces}
use Rattle.potential_certificate.specs.CertificateText.{certificate_text_limit}
use Rattle.program_run.specs.RunLines.{run_lines}
use Rattle.program_run.specs.Statuses.{HasTable, IsCheck, IsTown, StatusesTellCommands, TellsCommand}
use Rattle.program_run.specs.Words.{every_work, work_plan}
use Rattle.road_network.specs.Net.{Net}
use Rattle.road_network.specs.declared.limits.NetworkLimits.{NetworkLimits}
use Rattle.trace_match.specs.Setting.{Setting}
use Rattle.trace_reader.specs.Reading.{file_fault, file_traces}
use Rattle.trace_reader.specs.declared.fault.TraceFault.{TraceFault}
use Rattle.trace_reader.specs.declared.trace.Trace.{Trace}

-- ---- what holds of the statuses of a plan's parts

accepted_end : {A : Type 0} (P : ℕ → Type 0) (refused : ℕ) (said : Result A (List ℕ)) (next : A → Plan) (status : ℕ) (line : List ℕ)
    → P refused → ((value : A) → IsLineOf (next value) status line → P status) → IsLineOf (accepts refused said next) status line → P status
accepted_end P refused (Ok value) next status line holds rest is = rest value is
accepted_end P refused (Err said) next status line holds rest is = subst P is.0 holds

given_end : (P : ℕ → Type 0) (refusal : Option (List ℕ)) (fault : Option TraceFault) (texts ending : List ℕ) (status : ℕ) (line : List ℕ)
    → P 0 → P 6 → IsLineOf (ends (outcome_given_by refusal fault texts ending)) status line → P status
given_end P (Some said) fault texts ending status line done refused is = subst P is.0 refused
given_end P None (Some fault) texts ending status line done refused is = subst P is.0 refused
given_end P None None texts ending status line done refused is = subst P is.0 done

job_end : (P : ℕ → Type 0) (name : List ℕ) (job : JobText) (status : ℕ) (line : List ℕ) → P 0 → P 6 → IsLineOf (works_traces name job) status line → P status
job_end P name job status line done refused is =
    given_end P (job.refusal (file_traces is.0)) (file_fault is.0) (job.texts (file_traces is.0)) (job.ending (file_traces is.0)) status line done refused is.1

text_end : (P : ℕ → Type 0) (text : List ℕ) (status : ℕ) (line : List ℕ) → P 0 → IsLineOf (ends (done_with text)) status line → P status
text_end P text status line done is = subst P is.0 done

-- ---- the plan of each command

abbrev NotSeven : ℕ → Type 0
NotSeven s = s ≢ 7

abbrev NotNine : ℕ → Type 0
NotNine s = s ≢ 9

abbrev Neither : ℕ → Type 0
Neither s = (s ≢ 7) × (s ≢ 9)

abbrev on_net : Net → Params → Setting
on_net net options = record { network = net; params = options }

-- what follows from the network of `prove`, `check` and `table`, and then from the traces
abbrev proves : Setting → List Trace → Plan
proves on taken = accepts 8 (prove_said on taken) (λ text. ends (done_with text))

abbrev checks : List ℕ → Setting → List Trace → Plan
checks certificate on taken = loads OfCertificate certificate certificate_text_limit 7 (check_said on taken) (λ text. ends (done_with text))

abbrev with_traces : List ℕ → (Setting → List Trace → Plan) → Params → Net → Plan
with_traces traces next options net = loads Traces traces trace_limit 6 traces_said (next (on_net net options))

abbrev tabled : Params → Net → Plan
tabled options net = accepts 8 (table_said net options.bound) (λ text. ends (done_with text))

-- what the status of a line says of the work
record LineTells (work : PlainWork) (status : ℕ) : Type 0 where
  check : status ≡ 7 → IsCheck work
  table : status ≡ 9 → HasTable work
  town : IsTown work → status ≡ 0

zero_neither : Neither 0
zero_neither = (λ e. omega (arith, e), λ e. omega (arith, e))

five_neither : Neither 5
five_neither = (λ e. omega (arith, e), λ e. omega (arith, e))

six_neither : Neither 6
six_neither = (λ e. omega (arith, e), λ e. omega (arith, e))

eight_neither : Neither 8
eight_neither = (λ e. omega (arith, e), λ e. omega (arith, e))

line_tells : (limits : NetworkLimits) (work : PlainWork) (options : Params) (status : ℕ) (line : List ℕ) → IsLineOf (work_plan limits work options) status line → LineTells work status
line_tells limits (match_files network traces None) options status line is =
    let said = accepted_end Neither 5 (network_said limits is.0) (λ net. works_traces traces (match_text (on_net net options))) status line five_neither
    (λ net more. job_end Neither traces (match_text (on_net net options)) status line zero_neither six_neither more) is.1 in
    record { check = said.0; table = said.1; town = λ no. absurd no }
line_tells limits (match_files network traces (Some table)) options status line is =
    let said = accepted_end NotSeven 5 (network_said limits is.0) (λ net. preloads table net options.bound (works_traces traces (match_text (on_net net options)))) status line (λ e. omega (arith, e))
    (λ net more. accepted_end NotSeven 9 (table_file_said net options.bound more.0) (λ _. works_traces traces (match_text (on_net net options))) status line (λ e. omega (arith, e))
    (λ _ last. job_end NotSeven traces (match_text (on_net net options)) status line zero_neither.0 six_neither.0 last) more.1) is.1 in
    record { check = said; table = λ _. tt; town = λ no. absurd no }
line_tells limits (follow_files network traces) options status line is =
    let said = accepted_end Neither 5 (network_said limits is.0) (λ net. works_traces traces (follow_job (on_net net options))) status line five_neither
    (λ net more. job_end Neither traces (follow_job (on_net net options)) status line zero_neither six_neither more) is.1 in
    record { check = said.0; table = said.1; town = λ no. absurd no }
line_tells limits (stream_files network traces idle) options status line is =
    let said = accepted_end Neither 5 (network_said limits is.0) (λ net. works_traces traces (streams_within (on_net net options) idle)) status line five_neither
    (λ net more. job_end Neither traces (streams_within (on_net net options) idle) status line zero_neither six_neither more) is.1 in
    record { check = said.0; table = said.1; town = λ no. absurd no }
line_tells limits (prove_files network traces) options status line is =
    let said = accepted_end Neither 5 (network_said limits is.0) (with_traces traces proves options) status line five_neither
    (λ net more. accepted_end Neither 6 (traces_said more.0) (proves (on_net net options)) status line six_neither
    (λ taken last. accepted_end Neither 8 (prove_said (on_net net options) taken) (λ text. ends (done_with text)) status line eight_neither
    (λ text end. text_end Neither text status line zero_neither end) last) more.1) is.1 in
    record { check = said.0; table = said.1; town = λ no. absurd no }
line_tells limits (check_files network traces certificate) options status line is =
    let said = accepted_end NotNine 5 (network_said limits is.0) (with_traces traces (checks certificate) options) status line (λ e. omega (arith, e))
    (λ net more. accepted_end NotNine 6 (traces_said more.0) (checks certificate (on_net net options)) status line (λ e. omega (arith, e))
    (λ taken last. accepted_end NotNine 7 (check_said (on_net net options) taken last.0) (λ text. ends (done_with text)) status line (λ e. omega (arith, e))
    (λ text end. text_end NotNine text status line zero_neither.1 end) last.1) more.1) is.1 in
    record { check = λ _. tt; table = said; town = λ no. absurd no }
line_tells limits (table_of_network network) options status line is =
    let said = accepted_end Neither 5 (network_said limits is.0) (tabled options) status line five_neither
    (λ net more. accepted_end Neither 8 (table_said net options.bound) (λ text. ends (done_with text)) status line eight_neither
    (λ text end. text_end Neither text status line zero_neither end) more) is.1 in
    record { check = said.0; table = said.1; town = λ no. absurd no }
line_tells limits (match_town side traces seed) options status line is =
    let done : 0 ≡ status = is.0 in
    record { check = λ e. absurd (omega (arith, done, e)); table = λ e. absurd (omega (arith, done, e)); town = λ _. omega (arith, done) }

-- ---- runs

module _ (limits : NetworkLimits) (work : PlainWork) (options : Params) (shelf shelf' : ShelfState) (out out' err err' : SinkState) (status : ℕ)
    (kept : Promises run_lines (Ok (work_plan limits work options)) shelf shelf' out out' err err' status) where
  told : IsSettled status → status ≢ 0 → LineTells work status
  told settled refused = let line = kept.line_is settled refused in line_tells limits work options status line.0 line.1

  -- no file is read of a town
  town_reads : (w : PlainWork) → work ≡ w → IsTown w → status ≢ 3
  town_reads (match_town side traces seed) is town three =
      let fault = subst (λ (x : PlainWork). Promises run_lines (Ok (work_plan limits x options)) shelf shelf' out out' err err' status) is kept in
      (fault.unread three).risen.1
  town_reads (match_files network traces (Some table)) is town three = town
  town_reads (match_files network traces None) is town three = town
  town_reads (follow_files network traces) is town three = town
  town_reads (stream_files network traces idle) is town three = town
  town_reads (prove_files network traces) is town three = town
  town_reads (check_files network traces certificate) is town three = town
  town_reads (table_of_network network) is town three = town

  named : (s : ℕ) → s ≢ 0 → s ≢ 1 → s ≢ 3 → s ≢ 4 → status ≡ s → LineTells work status
  named s zero one three four is =
      told (λ e. one (omega (arith, is, e)), λ e. three (omega (arith, is, e)), λ e. four (omega (arith, is, e))) (λ e. zero (omega (arith, is, e)))

  tells : TellsCommand work status
  tells = record {
    check = λ e. (named 7 (λ q. omega (arith, q)) (λ q. omega (arith, q)) (λ q. omega (arith, q)) (λ q. omega (arith, q)) e).check e;
    table = λ e. (named 9 (λ q. omega (arith, q)) (λ q. omega (arith, q)) (λ q. omega (arith, q)) (λ q. omega (arith, q)) e).table e;
    town = λ town. (
      town_reads work refl town,
      λ e. let zero = (named 5 (λ q. omega (arith, q)) (λ q. omega (arith, q)) (λ q. omega (arith, q)) (λ q. omega (arith, q)) e).town town in omega (arith, zero, e),
      λ e. let zero = (named 6 (λ q. omega (arith, q)) (λ q. omega (arith, q)) (λ q. omega (arith, q)) (λ q. omega (arith, q)) e).town town in omega (arith, zero, e),
    );
  }

pub statuses_tell : StatusesTellCommands
statuses_tell limits words command shelf shelf' out out' err err' status known kept =
    tells limits command.work command.options shelf shelf' out out' err err' status
    (subst (λ a. Promises run_lines a shelf shelf' out out' err err' status)
    (ap (λ (r : Result PlainCommand WordsFault). asked_of (every_work limits) r) known) kept)
