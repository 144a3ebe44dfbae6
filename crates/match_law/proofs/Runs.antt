-- A run of `match` over files without a fault.
use Rattle.std.proofs.Common.{append-nil, ◌≡◌, ◌≢◌, ℕ, ◌+◌, ◌<◌, ◌≤◌, Bool, true, false, cond, nat_lt, List, [], ◌++◌, take, length, All, Option, Some, None, IsSome, IsSomeAnd, Result, Ok, Err, refl, sym, ap, subst, ◌∙◌, inl, inr, ⊎_elim, arith}
use Rattle.std.specs.Io.KnownBytes.{Appends}
use Rattle.std.proofs.lemmas.Bool.{cases_eq, cases_lt}
use Rattle.std.proofs.lemmas.Bool.Decides.{nat_tests}
use Rattle.std.proofs.lemmas.List.{take_all}
use Rattle.command_line.specs.Work.{PlainCommand}
use Rattle.command_line.specs.Work.PlainWork.{match_files}
use Rattle.command_line.specs.Words.{command_of}
use Rattle.command_line.specs.declared.fault.WordsFault.{WordsFault}
use Rattle.cost_model.specs.declared.params.Params.{Params}
use Rattle.edge_io.specs.Sink.{Rose}
use Rattle.edge_io.specs.State.{ShelfState, SinkState, new_shelf, new_sink}
use Rattle.listed_files.specs.NetworkText.{NetworksAreRead, network_text}
use Rattle.listed_files.specs.TraceText.{TracesAreRead, traces_text}
use Rattle.match_law.specs.ListedMatch.{IsListedRun, ListedMatchIsLeast}
use Rattle.match_law.specs.MatchIsLeast.{IsMatchRun, MatchIsLeast}
use Rattle.match_law.specs.Wrote.{Wrote}
use Rattle.match_law.proofs.Texts.{match_text, texts_are_least}
use Rattle.match_words.specs.MatchWords.{MatchWordsAreRead}
use Rattle.match_work.specs.Matches.{match_text as match_job}
use Rattle.program_frame.specs.Asked.{asked_of}
use Rattle.program_frame.specs.Jobs.{bytes_give, traces_give}
use Rattle.program_frame.specs.Outcome.{Outcome, done_with, out_text, bytes_seen}
use Rattle.program_frame.specs.Plan.{Plan, accepts, and_then, outcome_of, plan_of}
use Rattle.program_frame.specs.Promises.{IsSettled, Promises, faults_of}
use Rattle.program_frame.specs.Refusals.{network_said, said, trace_limit}
use Rattle.program_frame.specs.Stream.{works_traces}
use Rattle.program_run.specs.RunLines.{run_lines}
use Rattle.program_run.specs.Words.{asked_by, every_work}
use Rattle.program_run.proofs.AcceptedOptions.{accepted_words}
use Rattle.program_run.proofs.ReadNetworks.{read_lawful}
use Rattle.road_network.specs.Limits.{file_limit}
use Rattle.road_network.specs.Net.{Net}
use Rattle.road_network.specs.NetworkFile.{network_of}
use Rattle.road_network.specs.declared.fault.NetworkFault.{NetworkFault}
use Rattle.road_network.specs.declared.limits.NetworkLimits.TheVariants.{Standard}
use Rattle.trace_match.specs.Setting.{Setting}
use Rattle.trace_reader.specs.Reading.{fault_in, file_fault, file_traces}
use Rattle.trace_reader.specs.Trace.{IsLawfulTrace}
use Rattle.trace_reader.specs.declared.fault.TraceFault.{TraceFault}
use Rattle.trace_reader.specs.declared.trace.Trace.{Trace}
use Rattle.trace_reader.proofs.Lawful.{IsLawfulTrace-file_traces}
use Rattle.trace_reader.proofs.Laws.{fault_in_long, file_fault_known}

-- ---- files within their limits

network_within : (test : Bool) (limit : ℕ) (bytes : List ℕ) (fault : NetworkFault) (read : Result Net NetworkFault) (n : Net) → nat_lt limit (length bytes) ≡ test → cond test (Err fault) read ≡ Ok n → length bytes ≤ limit
network_within true limit bytes fault read n is e = absurd (cc e)
network_within false limit bytes fault read n is e = grind (arith, nat_tests, is)

network_short : (bytes : List ℕ) (n : Net) → network_of Standard bytes ≡ Ok n → length bytes ≤ file_limit Standard
unfolding network_of
network_short bytes n e = network_within (nat_lt (file_limit Standard) (length bytes)) (file_limit Standard) bytes _ _ n refl e

known_fault : (bytes : List ℕ) (fault : Option TraceFault) → fault_in bytes ≡ fault → IsSome fault → file_fault bytes ≡ None → ⊥
known_fault bytes None is some none = absurd (cc some)
known_fault bytes (Some fault) is some none =
    let there : file_fault bytes ≡ Some fault = ap file_fault (sym (append-nil bytes)) ∙ file_fault_known bytes [] fault is in
    let wrong : Some fault ≡ None = sym there ∙ none in cc wrong

traces_short : (bytes : List ℕ) → file_fault bytes ≡ None → length bytes ≤ trace_limit
traces_short bytes none =
    ⊎_elim (λ long. absurd (known_fault bytes (fault_in bytes) refl (fault_in_long bytes long) none)) (λ short. short)
    (cases_lt trace_limit (length bytes))

seen_whole : (limit : ℕ) (file : Option (List ℕ)) (text : List ℕ) → file ≡ Some text → length text ≤ limit → bytes_seen limit file ≡ Some text
seen_whole limit file text is within =
    ap (bytes_seen limit) is ∙ ap (λ (t : List ℕ). let r : Option (List ℕ) = Some t in r) (take_all (limit + 1) text (omega (arith, within)))

-- ---- the outcome

abbrev setting : Net → Params → Setting
setting n p = record { network = n; params = p }

given : (on : Setting) (traces : List Trace) (fault : Option TraceFault) → fault ≡ None → traces_give (match_job on) traces fault ≡ done_with (match_text on traces)
given on traces fault none = ap (traces_give (match_job on) traces) none

outcome_is : (words : List (List ℕ)) (files : List ℕ → Option (List ℕ)) (n : Net) (p : Params) (traces : List Trace) → IsMatchRun words files n p traces
    → outcome_of (plan_of (asked_by words)) files ≡ Some (done_with (match_text (setting n p) traces))
outcome_is words files n p traces run =
    let on = setting n p in
    let next : Net → Plan = λ net. works_traces run.traces_name (match_job (setting net p)) in
    ap (λ (r : Result PlainCommand WordsFault). outcome_of (plan_of (asked_of (every_work Standard) r)) files) run.words_are
    ∙ ap (λ (held : Option (List ℕ)). and_then held (λ b. outcome_of (accepts 5 (network_said Standard b) next) files))
    (seen_whole (file_limit Standard) (files run.network_name) run.network_bytes run.network_held (network_short run.network_bytes n run.network_is))
    ∙ ap (λ (r : Result Net NetworkFault). outcome_of (accepts 5 (said r) next) files) run.network_is
    ∙ ap (λ (held : Option (List ℕ)). and_then held (λ b. let o : Option Outcome = Some (bytes_give (match_job on) b) in o))
    (seen_whole trace_limit (files run.traces_name) run.trace_bytes run.traces_held (traces_short run.trace_bytes run.faultless))
    ∙ ap (λ (o : Outcome). let some : Option Outcome = Some o in some) (given on (file_traces run.trace_bytes) (file_fault run.trace_bytes) run.faultless)
    ∙ ap (λ (ts : List Trace). let some : Option Outcome = Some (done_with (match_text on ts)) in some) run.traces_are

-- ---- what the run leaves

all_of : (old text : List ℕ) (new : Option (List ℕ)) → Appends (Some old) new text → new ≡ Some (old ++ text)
all_of old text None is = absurd is
all_of old text (Some bytes) is = ap (λ (t : List ℕ). let r : Option (List ℕ) = Some t in r) is

some_failed : (failed : List (List ℕ)) (name : List ℕ) → faults_of [] name < faults_of failed name → failed ≢ []
some_failed failed name rose none =
    let same : faults_of failed name ≡ faults_of [] name = ap (λ (f : List (List ℕ)). faults_of f name) none in
    omega (arith, rose, same)

risen : (now : ℕ) → Rose 0 now → now ≢ 0
risen now rose none = omega (arith, rose, none)

module _ (words : List (List ℕ)) (files : List ℕ → Option (List ℕ)) (text : List ℕ) (shelf : ShelfState) (out err : SinkState) (status : ℕ)
    (is : outcome_of (plan_of (asked_by words)) files ≡ Some (done_with text))
    (kept : Promises run_lines (asked_by words) (new_shelf (Some files)) shelf (new_sink (Some [])) out (new_sink (Some [])) err status) where
  record IsDone : Type 0 where
    status_is : status ≡ 0
    out_is : out.written ≡ Some text
    err_is : err.written ≡ Some []

  settled : IsSettled status → IsDone
  settled early =
      let o = subst (λ (x : Option Outcome). IsSomeAnd x (λ o. (status ≡ o.status) × Appends (Some []) out.written o.out × Appends (Some []) err.written o.err)) is (kept.outcome early) in
      record { status_is = o.0; out_is = all_of [] text out.written o.1; err_is = all_of [] [] err.written o.2 }

  wrote : Wrote text shelf out err status
  wrote = record {
    done = λ zero.
        let d = settled (λ one. omega (arith, zero, one), λ three. omega (arith, zero, three), λ four. omega (arith, zero, four)) in
        (d.out_is, d.err_is);
    early = λ not_done.
        ⊎_elim (λ one. inl one)
        (λ not_one. ⊎_elim
        (λ three. let fault = kept.unread three in inr (inl (three, some_failed shelf.failed fault.risen.0 fault.risen.2)))
        (λ not_three. ⊎_elim
        (λ four. inr (inr (four, ⊎_elim (λ rose. inl (risen out.faults rose)) (λ rose. inr (risen err.faults rose)) (kept.unwritten four))))
        (λ not_four. absurd (not_done (settled (not_one, not_three, not_four)).status_is))
        (cases_eq status 4))
        (cases_eq status 3))
        (cases_eq status 1);
    part = (
      kept.prefix.0,
      all_of [] (take kept.prefix.0 text) out.written
          (subst (λ (x : Option Outcome). Appends (Some []) out.written (take kept.prefix.0 (out_text x))) is kept.prefix.1),
    );
  }

pub match_is_least : MatchIsLeast
match_is_least words files n p traces shelf out err status run kept =
    let on = setting n p in
    let text = match_text on traces in (
      text,
      texts_are_least on traces (read_lawful Standard run.network_bytes n run.network_is) (accepted_words words _ run.words_are)
          (subst (λ (ts : List Trace). All IsLawfulTrace ts) run.traces_are (IsLawfulTrace-file_traces run.trace_bytes)),
      wrote words files text shelf out err status (outcome_is words files n p traces run) kept,
    )

-- ---- files that list a network and traces

listed_words : MatchWordsAreRead → (words : List (List ℕ)) (files : List ℕ → Option (List ℕ)) (n : Net) (p : Params) (traces : List Trace) (run : IsListedRun words files n p traces)
    → command_of words ≡ Ok (record { work = match_files run.network_name run.traces_name None; options = p })
listed_words words_are_read words files n p traces run =
    ap command_of run.words_are
    ∙ words_are_read run.network_name run.traces_name run.given run.network_named run.traces_named run.are_given
    ∙ ap (λ (options : Params). let r : Result PlainCommand WordsFault = Ok (record { work = match_files run.network_name run.traces_name None; options = options }) in r) (sym run.options_are)

pub listed_match_is_least : MatchWordsAreRead → NetworksAreRead → TracesAreRead → ListedMatchIsLeast
listed_match_is_least words_are_read networks_are_read traces_are_read words files n p traces shelf out err status run kept =
    let says = traces_are_read traces run.traces_listed in
    match_is_least words files n p traces shelf out err status (record {
      network_name = run.network_name;
      traces_name = run.traces_name;
      network_bytes = network_text n;
      trace_bytes = traces_text traces;
      words_are = listed_words words_are_read words files n p traces run;
      network_held = run.network_held;
      traces_held = run.traces_held;
      network_is = networks_are_read n run.network_listed;
      traces_are = says.are;
      faultless = says.faultless;
    }) kept
