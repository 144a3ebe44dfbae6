-- The table of lines has every line with which a plan of words may end.
use Rattle.std.proofs.Common.{◌≡◌, ◌≢◌, ℕ, Bool, true, false, cond, length, List, [], Some, None, Result, Ok, Err, refl, sym, ◌∙◌, ap, subst, inl, inr}
use Rattle.std.specs.Prelude.{nat_lt, option_map}
use Rattle.std.specs.declared.option.Option.{Option}
use Rattle.command_line.specs.Work.{PlainCommand, PlainWork}
use Rattle.command_line.specs.Work.PlainWork.{check_files, follow_files, match_files, match_town, prove_files, stream_files, table_of_network}
use Rattle.cost_model.specs.declared.params.Params.{Params}
use Rattle.program_frame.specs.Jobs.{JobText, outcome_given_by}
use Rattle.program_frame.specs.Plan.{Plan, IsLineOf, accepts, loads}
use Rattle.program_frame.specs.Plan.Plan.{ends}
use Rattle.program_frame.specs.Promises.{Covers}
use Rattle.program_frame.proofs.RefusalLines.{asked_covered, network_end, traces_end}
use Rattle.program_frame.specs.Outcome.{done_with}
use Rattle.program_frame.specs.Refusals.{network_said, refusal_lines, trace_limit}
use Rattle.program_frame.specs.Stream.{works_traces}
use Rattle.program_frame.specs.WholeTraces.{traces_or_line, traces_said}
use Rattle.program_frame.specs.declared.stop.File.TheVariants.{Certificate, Traces}
use Rattle.road_network.specs.Net.{Net}
use Rattle.road_network.specs.declared.limits.NetworkLimits.{NetworkLimits}
use Rattle.trace_reader.specs.Fault.{fault_line}
use Rattle.trace_reader.specs.Reading.{file_fault, file_traces}
use Rattle.trace_reader.specs.declared.fault.TraceFault.{TraceFault}
use Rattle.trace_reader.specs.declared.trace.Trace.{Trace}
use Rattle.trace_sessions.specs.StreamText.{full_id, points_in}
use Rattle.table_work.specs.TableText.{table_text_limit}
use Rattle.potential_certificate.specs.CertificateText.{certificate_text_limit as certificate_limit}
use Rattle.program_run.specs.RunLines.{run_lines}
use Rattle.trace_match.specs.Setting.{Setting}
use Rattle.program_run.specs.Words.{asked_within, every_work, work_plan}
use Rattle.follow_work.specs.Follow.{follow_job}
use Rattle.check_work.specs.Check.{check_said}
use Rattle.match_work.specs.Matches.{match_plan, match_text}
use Rattle.table_work.specs.Preload.{preloads, table_file_said}
use Rattle.prove_work.specs.Prove.{certificate_too_long, prove_said, text_of_proofs}
use Rattle.follow_work.specs.Drives.{drives_job}
use Rattle.follow_work.specs.Streams.{never, streams_job, streams_within, too_long_line}
use Rattle.match_work.specs.TableMatch.{table_match_plan}
use Rattle.table_work.specs.Table.{table_said, table_too_long, text_of_network}

has_refusals : (status : ℕ) (line : List ℕ) → refusal_lines status line → run_lines status line
has_refusals status line is = inl is

matches_end : (on : Setting) (name : List ℕ) (status : ℕ) (line : List ℕ) → status ≢ 0 → IsLineOf (works_traces name (match_text on)) status line → run_lines status line
matches_end on name status line refused is = inl (traces_end _ _ is.0 (file_fault is.0) status line refl refused is.1)

follows_end : (on : Setting) (name : List ℕ) (status : ℕ) (line : List ℕ) → status ≢ 0 → IsLineOf (works_traces name (follow_job on)) status line → run_lines status line
follows_end on name status line refused is = inl (traces_end _ _ is.0 (file_fault is.0) status line refl refused is.1)

streams_end : (on : Setting) (texts ending bytes : List ℕ) (full : Option ℕ) (status : ℕ) (line : List ℕ) → status ≢ 0
    → IsLineOf (ends (outcome_given_by (option_map too_long_line full) (file_fault bytes) texts ending)) status line → run_lines status line
streams_end on texts ending bytes None status line refused is = inl (traces_end texts ending bytes (file_fault bytes) status line refl refused is)
streams_end on texts ending bytes (Some id) status line refused is = inr (inl (sym is.0, (id, sym is.1)))

-- no id is too long where drives end
within_end : (on : Setting) (idle : ℕ) (name : List ℕ) (drives_end : Bool) (status : ℕ) (line : List ℕ) → status ≢ 0
    → IsLineOf (works_traces name (cond {A = JobText} drives_end (drives_job on idle) (streams_job on))) status line → run_lines status line
within_end on idle name true status line refused is = inl (traces_end _ _ is.0 (file_fault is.0) status line refl refused is.1)
within_end on idle name false status line refused is = streams_end on _ _ is.0 (full_id [] (points_in (file_traces is.0))) status line refused is.1

table_end : (network : List ℕ) (options : Params) (said : Result (List ℕ) (List ℕ)) (net : Net) (status : ℕ) (line : List ℕ) → table_said net options.bound ≡ said → status ≢ 0
    → IsLineOf (accepts 8 said (λ text. ends (done_with text))) status line → run_lines status line
table_end network options (Ok text) net status line known refused is = absurd (refused (sym is.0))
table_end network options (Err said) net status line known refused is = inr (inr (inl (sym is.0, inl (sym is.1 ∙ too_long_said (nat_lt table_text_limit (length (text_of_network net options.bound))) known))))
  where
    too_long_said : (long : Bool) → cond {A = Result (List ℕ) (List ℕ)} long (Err table_too_long) (Ok (text_of_network net options.bound)) ≡ Err said → said ≡ table_too_long
    too_long_said true e = cc
    too_long_said false e = absurd cc

proofs_end : (on : Setting) (taken : List Trace) (said : Result (List ℕ) (List ℕ)) (status : ℕ) (line : List ℕ) → prove_said on taken ≡ said → status ≢ 0
    → IsLineOf (accepts 8 said (λ text. ends (done_with text))) status line → run_lines status line
proofs_end on taken (Ok text) status line known refused is = absurd (refused (sym is.0))
proofs_end on taken (Err said) status line known refused is = inr (inr (inl (sym is.0, inr (sym is.1 ∙ too_long_said (nat_lt certificate_limit (length (text_of_proofs on taken))) known))))
  where
    too_long_said : (long : Bool) → cond {A = Result (List ℕ) (List ℕ)} long (Err certificate_too_long) (Ok (text_of_proofs on taken)) ≡ Err said → said ≡ certificate_too_long
    too_long_said true e = cc
    too_long_said false e = absurd cc

loaded_end : (bytes : List ℕ) (fault : Option TraceFault) (next : List Trace → Plan) (status : ℕ) (line : List ℕ) → file_fault bytes ≡ fault → ((taken : List Trace) → IsLineOf (next taken) status line → run_lines status line)
    → IsLineOf (accepts 6 (traces_or_line (file_traces bytes) fault) next) status line → run_lines status line
loaded_end bytes None next status line known rest is = rest (file_traces bytes) is
loaded_end bytes (Some fault) next status line known rest is = inl (inr (inr (sym is.0, (bytes, ap (option_map fault_line) known ∙ ap (λ l. Some l) is.1))))

check_end : (on : Setting) (taken : List Trace) (bytes : List ℕ) (said : Result (List ℕ) (List ℕ)) (status : ℕ) (line : List ℕ) → check_said on taken bytes ≡ said → status ≢ 0
    → IsLineOf (accepts 7 said (λ text. ends (done_with text))) status line → run_lines status line
check_end on taken bytes (Ok text) status line known refused is = absurd (refused (sym is.0))
check_end on taken bytes (Err said) status line known refused is = inr (inr (inr (inr (sym is.0, (on, taken, bytes, known ∙ ap (λ l. Err l) is.1)))))

table_file_end : (net : Net) (bound : ℕ) (bytes : List ℕ) (said : Result (Unit {0}) (List ℕ)) (next : Plan) (status : ℕ) (line : List ℕ) → table_file_said net bound bytes ≡ said → (IsLineOf next status line → run_lines status line)
    → IsLineOf (accepts 9 said (λ _. next)) status line → run_lines status line
table_file_end net bound bytes (Ok done) next status line known rest is = rest is
table_file_end net bound bytes (Err said) next status line known rest is = inr (inr (inr (inl (sym is.0, (net, bound, bytes, known ∙ ap (λ l. Err l) is.1)))))

table_match_end : (limits : NetworkLimits) (network table traces : List ℕ) (options : Params) (status : ℕ) (line : List ℕ) → status ≢ 0 → IsLineOf (table_match_plan limits network table traces options) status line → run_lines status line
table_match_end limits network table traces options status line refused is =
    network_end run_lines has_refusals limits is.0 (network_said limits is.0) (λ net. preloads table net options.bound (works_traces traces (match_text (record { network = net; params = options })))) status line refl
    (λ net more. table_file_end net options.bound more.0 (table_file_said net options.bound more.0) (works_traces traces (match_text (record { network = net; params = options }))) status line refl (matches_end (record { network = net; params = options }) traces status line refused) more.1) is.1

match_end : (limits : NetworkLimits) (network traces : List ℕ) (options : Params) (status : ℕ) (line : List ℕ) → status ≢ 0 → IsLineOf (match_plan limits network traces options) status line → run_lines status line
match_end limits network traces options status line refused is =
    network_end run_lines has_refusals limits is.0 (network_said limits is.0) (λ net. works_traces traces (match_text (record { network = net; params = options }))) status line refl (λ net. matches_end (record { network = net; params = options }) traces status line refused) is.1

work_end : (limits : NetworkLimits) (work : PlainWork) (options : Params) (status : ℕ) (line : List ℕ) → status ≢ 0 → IsLineOf (work_plan limits work options) status line → run_lines status line
work_end limits (match_files network traces None) options status line refused is = match_end limits network traces options status line refused is
work_end limits (match_files network traces (Some table)) options status line refused is = table_match_end limits network table traces options status line refused is
work_end limits (follow_files network traces) options status line refused is =
    network_end run_lines has_refusals limits is.0 (network_said limits is.0) (λ net. works_traces traces (follow_job (record { network = net; params = options }))) status line refl (λ net. follows_end (record { network = net; params = options }) traces status line refused) is.1
work_end limits (stream_files network traces idle) options status line refused is =
    network_end run_lines has_refusals limits is.0 (network_said limits is.0) (λ net. works_traces traces (streams_within (record { network = net; params = options }) idle)) status line refl
    (λ net. within_end (record { network = net; params = options }) idle traces (nat_lt idle never) status line refused) is.1
work_end limits (prove_files network traces) options status line refused is =
    network_end run_lines has_refusals limits is.0 (network_said limits is.0) (λ net. loads Traces traces trace_limit 6 traces_said (λ taken. accepts 8 (prove_said (record { network = net; params = options }) taken) (λ text. ends (done_with text)))) status line refl
    (λ net more. loaded_end more.0 (file_fault more.0) (λ taken. accepts 8 (prove_said (record { network = net; params = options }) taken) (λ text. ends (done_with text))) status line refl
    (λ taken. proofs_end (record { network = net; params = options }) taken (prove_said (record { network = net; params = options }) taken) status line refl refused) more.1) is.1
work_end limits (check_files network traces certificate) options status line refused is =
    network_end run_lines has_refusals limits is.0 (network_said limits is.0) (λ net. loads Traces traces trace_limit 6 traces_said (λ taken. loads Certificate certificate certificate_limit 7 (check_said (record { network = net; params = options }) taken) (λ text. ends (done_with text)))) status line refl
    (λ net more. loaded_end more.0 (file_fault more.0) (λ taken. loads Certificate certificate certificate_limit 7 (check_said (record { network = net; params = options }) taken) (λ text. ends (done_with text))) status line refl
    (λ taken last. check_end (record { network = net; params = options }) taken last.0 (check_said (record { network = net; params = options }) taken last.0) status line refl refused last.1) more.1) is.1
work_end limits (table_of_network network) options status line refused is =
    network_end run_lines has_refusals limits is.0 (network_said limits is.0) (λ net. accepts 8 (table_said net options.bound) (λ text. ends (done_with text))) status line refl
    (λ net. table_end network options (table_said net options.bound) net status line refl refused) is.1
work_end limits (match_town side traces seed) options status line refused is = absurd (refused (sym is.0))

command_end : (limits : NetworkLimits) (command : PlainCommand) (known : Plan) (status : ℕ) (line : List ℕ) → every_work limits command ≡ Some known → status ≢ 0 → IsLineOf known status line → run_lines status line
command_end limits command known status line planned refused is =
    work_end limits command.work command.options status line refused (subst (λ (p : Plan). IsLineOf p status line) (sym (cc planned)) is)

pub lines_covered : (limits : NetworkLimits) (words : List (List ℕ)) → Covers run_lines (asked_within limits words)
lines_covered limits words = asked_covered run_lines has_refusals (every_work limits) words (command_end limits)
