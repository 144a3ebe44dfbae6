-- What a run of `prove` writes, a run of `check` finds proved.
use Rattle.std.proofs.Common.{◌≡◌, ℕ, ◌≤◌, ◌+◌, List, length, Option, Some, None, Result, Ok, Err, refl, sym, ◌∙◌, ap, subst, arith}
use Rattle.std.specs.Prelude.{nat_lt}
use Rattle.std.specs.Result.{result_map_both}
use Rattle.std.proofs.lemmas.List.{take_all}
use Rattle.cert_checker.specs.Rows.{first_bad_row}
use Rattle.cert_checker.specs.Whole.{verdict}
use Rattle.command_line.specs.Options.{and_then as then_ok}
use Rattle.command_line.specs.Work.{PlainCommand}
use Rattle.command_line.specs.Words.{command_of}
use Rattle.command_line.specs.declared.fault.WordsFault.{WordsFault}
use Rattle.potential_certificate.specs.CertificateText.{certificate_text_limit}
use Rattle.potential_certificate.specs.declared.proof.Certificate.{Certificate}
use Rattle.program_frame.specs.Asked.{asked_of}
use Rattle.program_frame.specs.Outcome.{Outcome, done_with, refused_with, bytes_seen}
use Rattle.program_frame.specs.Plan.{Plan, accepts, and_then, loads, outcome_of, plan_of}
use Rattle.program_frame.specs.Plan.Plan.{ends}
use Rattle.program_frame.specs.Refusals.{network_said, trace_limit}
use Rattle.program_frame.specs.WholeTraces.{traces_said}
use Rattle.program_frame.specs.declared.stop.File.{File}
use Rattle.program_frame.specs.declared.stop.File.TheVariants.{Certificate as OfCertificate, Network, Traces}
use Rattle.road_network.specs.Limits.{file_limit}
use Rattle.road_network.specs.declared.limits.NetworkLimits.{NetworkLimits}
use Rattle.trace_reader.specs.declared.trace.Trace.{Trace}
use Rattle.program_run.specs.ProvedRuns.{ProvedRunsAreAccepted}
use Rattle.trace_match.specs.Setting.{Setting}
use Rattle.program_run.specs.Words.{asked_within, command_plan, every_work}
use Rattle.check_work.specs.Check.{certificate_in, check_said, proved_line, proved_or_refused, verdict_said}
use Rattle.prove_work.specs.Prove.{prove_plan, prove_said, text_of_proofs}
use Rattle.program_run.proofs.AcceptedOptions.{accepted_words}
use Rattle.program_run.proofs.ProvedFiles.{proved_files_are_accepted}
use Rattle.program_run.proofs.ProvedTexts.{written}

-- ---- files that a plan loads

abbrev Files : Type 0
Files = List ℕ → Option (List ℕ)

-- a file that was loaded on the way to an outcome
record IsLoaded {A : Type 0} (name : List ℕ) (limit : ℕ) (said : List ℕ → Result A (List ℕ)) (next : A → Plan) (files : Files) (o : Outcome) : Type 0 where
  bytes : List ℕ
  value : A
  bytes_are : bytes_seen limit (files name) ≡ Some bytes
  value_is : said bytes ≡ Ok value
  then_is : outcome_of (next value) files ≡ Some o

-- what was accepted on the way to it
record IsTaken {A : Type 0} (said : Result A (List ℕ)) (next : A → Plan) (files : Files) (o : Outcome) : Type 0 where
  value : A
  value_is : said ≡ Ok value
  then_is : outcome_of (next value) files ≡ Some o

taken-if_done : {A : Type 0} (status : ℕ) (said : Result A (List ℕ)) (next : A → Plan) (files : Files) (o : Outcome) → 1 ≤ status → outcome_of (accepts status said next) files ≡ Some o → o.status ≡ 0
    → IsTaken said next files o
taken-if_done status (Ok value) next files o some is done = record { value = value; value_is = refl; then_is = is }
taken-if_done status (Err line) next files o some is done =
    let same : refused_with status line ≡ o = cc is in
    let status_is : status ≡ o.status = ap (λ (x : Outcome). x.status) same in
    absurd (omega (arith, some, done, status_is))

loaded_of : {A : Type 0} (held : Option (List ℕ)) (status : ℕ) (name : List ℕ) (limit : ℕ) (said : List ℕ → Result A (List ℕ)) (next : A → Plan) (files : Files) (o : Outcome)
    → bytes_seen limit (files name) ≡ held → 1 ≤ status → and_then held (λ bytes. outcome_of (accepts status (said bytes) next) files) ≡ Some o → o.status ≡ 0
    → IsLoaded name limit said next files o
loaded_of None status name limit said next files o held_is some is done = absurd (cc is)
loaded_of (Some bytes) status name limit said next files o held_is some is done =
    let t = taken-if_done status (said bytes) next files o some is done in
    record { bytes = bytes; value = t.value; bytes_are = held_is; value_is = t.value_is; then_is = t.then_is }

loaded : {A : Type 0} (file : File) (name : List ℕ) (limit status : ℕ) (said : List ℕ → Result A (List ℕ)) (next : A → Plan) (files : Files) (o : Outcome)
    → 1 ≤ status → outcome_of (loads file name limit status said next) files ≡ Some o → o.status ≡ 0
    → IsLoaded name limit said next files o
loaded file name limit status said next files o some is done =
    loaded_of (bytes_seen limit (files name)) status name limit said next files o refl some is done

-- such a file leads on
leads_on : {A : Type 0} (file : File) (name : List ℕ) (limit status : ℕ) (said : List ℕ → Result A (List ℕ)) (next : A → Plan) (files : Files) (bytes : List ℕ) (value : A)
    → bytes_seen limit (files name) ≡ Some bytes → said bytes ≡ Ok value
    → outcome_of (loads file name limit status said next) files ≡ outcome_of (next value) files
leads_on file name limit status said next files bytes value bytes_are value_is =
    ap (λ (held : Option (List ℕ)). and_then held (λ b. outcome_of (accepts status (said b) next) files)) bytes_are
    ∙ ap (λ (r : Result _ (List ℕ)). outcome_of (accepts status r next) files) value_is

seen_whole : (limit : ℕ) (file : Option (List ℕ)) (text : List ℕ) → file ≡ Some text → length text ≤ limit → bytes_seen limit file ≡ Some text
seen_whole limit file text is within =
    ap (bytes_seen limit) is ∙ ap (λ (t : List ℕ). let r : Option (List ℕ) = Some t in r) (take_all (limit + 1) text (omega (arith, within)))

-- ---- the line of `check`

record IsProvedOf (on : Setting) (text line : List ℕ) : Type 0 where
  c : Certificate
  is : certificate_in on.params text ≡ Ok c
  line_is : line ≡ proved_line c

line_of_verdict : (c : Certificate) (said : Result (Unit {0}) (List ℕ)) (line : List ℕ) → result_map_both (λ _. proved_line c) (λ l. l) said ≡ Ok line → line ≡ proved_line c
line_of_verdict c (Ok done) line e = sym (cc e)
line_of_verdict c (Err l) line e = absurd (cc e)

proved_of : (on : Setting) (traces : List Trace) (text line : List ℕ) (read : Result Certificate (List ℕ)) → certificate_in on.params text ≡ read → then_ok read (proved_or_refused on traces) ≡ Ok line → IsProvedOf on text line
proved_of on traces text line (Ok c) is e =
    record { c = c; is = is; line_is = line_of_verdict c (verdict_said (first_bad_row on.network on.params.bound c.rows) (verdict on.network on.params traces c)) line e }
proved_of on traces text line (Err l) is e = absurd (cc e)

-- ---- the runs

-- the plan of words that are accepted
plan_is : (limits : NetworkLimits) (words : List (List ℕ)) (c : PlainCommand) → command_of words ≡ Ok c → plan_of (asked_within limits words) ≡ command_plan limits c
plan_is limits words c is = ap (λ (r : Result PlainCommand WordsFault). plan_of (asked_of (every_work limits) r)) is

pub proved_runs_are_accepted : ProvedRunsAreAccepted
proved_runs_are_accepted limits proves checks files files' o runs is done =
    let p = runs.options in
    let accepted = accepted_words proves _ runs.proves_is in
    let proved : outcome_of (prove_plan limits runs.network runs.traces p) files ≡ Some o =
    ap (λ (plan : Plan). outcome_of plan files) (sym (plan_is limits proves _ runs.proves_is)) ∙ is in
    let net = loaded Network runs.network (file_limit limits) 5 (network_said limits) _ files o (omega arith) proved done in
    let tra = loaded Traces runs.traces trace_limit 6 traces_said _ files o (omega arith) net.then_is done in
    let on : Setting = record { network = net.value; params = p } in
    let said = taken-if_done 8 (prove_said on tra.value) (λ text. ends (done_with text)) files o (omega arith) tra.then_is done in
    let text = said.value in
    let same : done_with text ≡ o = cc (said.then_is) in
    let short = subst (λ (t : List ℕ). length t ≤ certificate_text_limit) (written (text_of_proofs on tra.value) text (nat_lt certificate_text_limit (length (text_of_proofs on tra.value))) refl said.value_is).0
    (written (text_of_proofs on tra.value) text (nat_lt certificate_text_limit (length (text_of_proofs on tra.value))) refl said.value_is).1 in
    let held : files' runs.certificate ≡ Some text = runs.text_is ∙ ap (λ (x : Outcome). let r : Option (List ℕ) = Some (x.out) in r) (sym same) in
    let checked = proved_files_are_accepted limits net.bytes tra.bytes p net.value tra.value text accepted net.value_is tra.value_is said.value_is in
    let of = proved_of on tra.value text _ (certificate_in p text) refl checked in (
      of.c,
      subst (λ (t : List ℕ). certificate_in p t ≡ Ok of.c) (ap (λ (x : Outcome). x.out) same) of.is,
      ap (λ (plan : Plan). outcome_of plan files') (plan_is limits checks _ runs.checks_is)
          ∙ leads_on Network runs.network (file_limit limits) 5 (network_said limits) _ files' net.bytes net.value (ap (bytes_seen (file_limit limits)) runs.same_network ∙ net.bytes_are) net.value_is
          ∙ leads_on Traces runs.traces trace_limit 6 traces_said _ files' tra.bytes tra.value (ap (bytes_seen trace_limit) runs.same_traces ∙ tra.bytes_are) tra.value_is
          ∙ leads_on OfCertificate runs.certificate certificate_text_limit 7 (check_said on tra.value) (λ t. ends (done_with t)) files' text _ (seen_whole certificate_text_limit (files' runs.certificate) text held short) checked
          ∙ ap (λ (l : List ℕ). let r : Option Outcome = Some (done_with l) in r) of.line_is,
    )
