-- What is expected of traces of which the first were taken.
use Rattle.std.proofs.Common.{◌≡◌, ℕ, List, [], ◌++◌, Some, None, refl, sym, ◌∙◌, ap, append_assoc, append-nil}
use Rattle.std.specs.declared.option.Option.{Option}
use Rattle.trace_reader.specs.Reading.{closed, file_fault}
use Rattle.trace_reader.specs.declared.trace.Trace.{Trace}
use Rattle.trace_reader.specs.declared.fault.TraceFault.{TraceFault}
use Rattle.trace_reader.proofs.Laws.{file_traces-append}
use Rattle.program_frame.specs.Batches.{Later, with_later}
use Rattle.program_frame.specs.Jobs.{JobText, bytes_give, outcome_given_by, refused_behind, traces_give}

given_out : (refusal : Option (List ℕ)) (fault : Option TraceFault) (texts ending : List ℕ) → (more : List ℕ) × ((outcome_given_by refusal fault texts ending).out ≡ texts ++ more)
given_out (Some line) fault texts ending = ([], sym (append-nil texts))
given_out None (Some fault) texts ending = ([], sym (append-nil texts))
given_out None None texts ending = (ending, refl)

-- out begins with the text of what was taken
pub out_begins : (job : JobText) (taken left : List Trace) (fault : Option TraceFault) → (more : List ℕ) × ((traces_give job (taken ++ left) fault).out ≡ job.texts taken ++ more)
out_begins job taken left fault =
    let all = taken ++ left in
    let given = given_out (job.refusal all) fault (job.texts all) (job.ending all) in
    let begins = job.begins taken left in
    (begins.0 ++ given.0, given.1 ∙ ap (λ t. t ++ given.0) begins.1 ∙ append_assoc (job.texts taken) begins.0 given.0)

-- a refusal of the job is the outcome, whatever comes behind
pub refused_later : (job : JobText) (traces : List Trace) (line : List ℕ) → job.refusal traces ≡ Some line → (later : Later) → with_later job traces later ≡ refused_behind (job.texts traces) line
refused_later job traces line is later =
    let all = traces ++ later.more in
    let stays = job.stays traces later.more line is in
    ap (λ r. outcome_given_by r later.fault (job.texts all) (job.ending all)) stays.0 ∙ ap (λ t. refused_behind t line) stays.1

-- what a file gives of which the front was read, by the traces that are closed in it
pub rest_later : (job : JobText) (fed rest : List ℕ) → (later : Later) × (bytes_give job (fed ++ rest) ≡ with_later job (closed fed) later)
rest_later job fed rest =
    let traces = file_traces-append fed rest in
    (record { more = traces.0; fault = file_fault (fed ++ rest) }, ap (λ t. traces_give job t (file_fault (fed ++ rest))) traces.1)
