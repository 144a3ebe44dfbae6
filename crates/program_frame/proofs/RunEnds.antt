-- What a run promises, by how its work ended and what the put of its line answered.
use Rattle.std.proofs.Common.{◌≡◌, ◌≢◌, ◌⊎◌, ℕ, ◌+◌, ◌<◌, List, [], ◌∷◌, ◌++◌, Some, None, MatchOption, IsSomeAnd, true, cond, refl, sym, ap, subst, inl, inr, arith, Result, Ok, Err, IsOk}
use Rattle.std.specs.declared.option.Option.{Option}
use Rattle.std.specs.Io.KnownBytes.{Appends}
use Rattle.std.specs.Str.{bytes_eq}
use Rattle.std.proofs.lemmas.Slice.Eq.{bytes_eq-Decides}
use Rattle.std.proofs.lemmas.List.Sums.{fold-append}
use Rattle.edge_io.proofs.KnownBytes.{prefix_whole}
use Rattle.edge_io.specs.Sink.{AppendsPrefix, Puts, Rose}
use Rattle.edge_io.proofs.Counts.{rose_counted}
use Rattle.edge_io.specs.declared.sink.Put.{Put}
use Rattle.edge_io.specs.declared.sink.Put.TheVariants as puts
use Rattle.program_frame.specs.Stops.{stop_line, line_of_result, refusal_status, status_after, unread_line}
use Rattle.program_frame.specs.Lines.{memory_line, write_line}
use Rattle.program_frame.specs.Outcome.{Outcome, out_text}
use Rattle.program_frame.specs.Performs.{IsWholeOutcome, IsPartial, IsQuiet, IsSaid, IsUnreadFile, LeavesEnded, Performs, RefusesAskedWords}
use Rattle.program_frame.specs.Promises.{Covers, IsSettled, IsOutcome, SaysAtMost, IsErrLine, SaysPartOfLine, faults_of, HasRisen, IsFaultless, IsAnswered, AreCountsSame, Promises}
use Rattle.edge_io.specs.State.{ShelfState, SinkState}
use Rattle.program_frame.specs.Plan.{Plan, AreRefused, IsFileOf, IsLineOf, outcome_of, plan_of}
use Rattle.program_frame.specs.declared.stop.File.{File}
use Rattle.program_frame.specs.declared.stop.Refusal.{Refusal}
use Rattle.program_frame.specs.declared.stop.Refusal.TheVariants as refusals
use Rattle.program_frame.specs.declared.stop.Stop.{Stop}
use Rattle.program_frame.specs.declared.stop.Stop.TheVariants.{Refused, NoMemory, Unread, Unwritten}

abbrev Table : Type 1
Table = ℕ → List ℕ → Type 0

-- the outcome was written whole, and its status is told

whole_outcome : (asked : Result Plan (List ℕ)) (told : Option (List ℕ → Option (List ℕ))) (failed : List (List ℕ)) (out out' err err' : SinkState) (line : List ℕ) (status : ℕ) → IsWholeOutcome (plan_of asked) told out out' line status → Appends err.written err'.written line → IsOutcome asked (record { holds = told; failed = failed }) out out' err err' status
whole_outcome asked None failed out out' err err' line status whole said = tt
whole_outcome asked (Some files) failed out out' err err' line status whole said =
    subst (λ x. IsSomeAnd x (λ o. (status ≡ o.status) × Appends out.written out'.written o.out × Appends err.written err'.written o.err)) (sym whole.1) (refl, whole.2, said)

whole_partial : (plan : Plan) (told : Option (List ℕ → Option (List ℕ))) (out out' : SinkState) (line : List ℕ) (status : ℕ) → IsWholeOutcome plan told out out' line status → IsPartial plan told out out'
whole_partial plan None out out' line status whole = tt
whole_partial plan (Some files) out out' line status whole =
    subst (λ o. AppendsPrefix out.written out'.written (out_text o)) (sym whole.1) (prefix_whole out.written out'.written whole.0 whole.2)

whole_answers : (asked : Result Plan (List ℕ)) (told : Option (List ℕ → Option (List ℕ))) (failed : List (List ℕ)) (out out' : SinkState) (line : List ℕ) (status : ℕ) → IsWholeOutcome (plan_of asked) told out out' line status → IsAnswered asked (record { holds = told; failed = failed }) status
whole_answers asked None failed out out' line status whole = tt
whole_answers asked (Some files) failed out out' line status whole =
    subst (λ o. MatchOption o (status ≡ 1) (λ o. (status ≡ o.status) ⊎ (status ≡ 1))) (sym whole.1) (inl refl)

memory_of : (status : ℕ) → status ≡ 1 → (o : Option Outcome) → MatchOption o (status ≡ 1) (λ o. (status ≡ o.status) ⊎ (status ≡ 1))
memory_of status is None = is
memory_of status is (Some o) = inr is

memory_answers : (asked : Result Plan (List ℕ)) (told : Option (List ℕ → Option (List ℕ))) (failed : List (List ℕ)) → IsAnswered asked (record { holds = told; failed = failed }) 1
memory_answers asked None failed = tt
memory_answers asked (Some files) failed = memory_of 1 refl (outcome_of (plan_of asked) files)

-- a settled status and its line: one of the plan's lines, or none where all was done; and text only
-- before a refusal of the traces
record IsEnding (asked : Result Plan (List ℕ)) (out out' : SinkState) (line : List ℕ) (status : ℕ) : Type 0 where
  of_plan : status ≢ 0 → IsLineOf (plan_of asked) status line
  none : status ≡ 0 → line ≡ []
  nothing_out : status ≢ 0 → status ≢ 6 → Appends out.written out'.written []

-- a settled status: the outcome's texts were written whole
settled : {lines : Table} (asked : Result Plan (List ℕ)) (shelf shelf' : ShelfState) (out out' err err' : SinkState) (line : List ℕ) (status : ℕ) → IsPartial (plan_of asked) shelf.holds out out' → IsWholeOutcome (plan_of asked) shelf.holds out out' line status → IsQuiet shelf shelf' out out' → IsSettled status → Appends err.written err'.written line → err'.faults ≡ err.faults → (status ≡ 2 → RefusesAskedWords asked out out' line) → (AreRefused asked → status ≡ 2) → IsEnding asked out out' line status → Promises lines asked shelf shelf' out out' err err' status
settled asked shelf shelf' out out' err err' line status partial whole quiet is said same words refused ending = record {
  outcome = λ _. whole_outcome asked shelf.holds shelf.failed out out' err err' line status whole said;
  prefix = partial;
  line_is = λ _ some. (line, ending.of_plan some, said);
  quiet_err = λ zero. subst (Appends err.written err'.written) (ending.none zero) said;
  quiet_out = λ _ some other. ending.nothing_out some other;
  memory = λ e. absurd (is.0 e);
  unread = λ e. absurd (is.1 e);
  unwritten = λ e. absurd (is.2 e);
  write_line_is = λ e. absurd (is.2 e);
  cut_line = λ e. absurd (is.2 e);
  words = λ two. let is_refused = words two in record { line = line; refused = is_refused.refused; nothing_out = is_refused.nothing_out; said = said };
  refused_words = λ r. inl (refused r);
  quiet_shelf = λ _. ap (λ s. s.failed) quiet.shelf_is;
  counts = λ _. record { out_is = quiet.faults_are; err_is = same };
  noted = λ changed. absurd (changed (ap (λ s. s.failed) quiet.shelf_is));
  holds = ap (λ s. s.holds) quiet.shelf_is;
  complete = λ _. whole_answers asked shelf.holds shelf.failed out out' line status whole;
}

-- want of memory
starved : {lines : Table} (asked : Result Plan (List ℕ)) (shelf shelf' : ShelfState) (out out' err err' : SinkState) → IsPartial (plan_of asked) shelf.holds out out' → AreCountsSame out out' err err' → SaysAtMost memory_line err err' → (shelf'.failed ≢ shelf.failed → Appends err.written err'.written []) → shelf'.holds ≡ shelf.holds → Promises lines asked shelf shelf' out out' err err' 1
starved asked shelf shelf' out out' err err' partial counts said noted holds = record {
  outcome = λ s. absurd (s.0 refl);
  prefix = partial;
  line_is = λ s _. absurd (s.0 refl);
  quiet_err = λ e. cc;
  quiet_out = λ s _ _. absurd (s.0 refl);
  memory = λ _. said;
  unread = λ e. cc;
  unwritten = λ e. cc;
  write_line_is = λ e _. cc;
  cut_line = λ e. cc;
  words = λ e. cc;
  refused_words = λ r. inr (inl refl);
  quiet_shelf = λ s. absurd (s.0 refl);
  counts = λ _. counts;
  noted = λ changed. inr (inr (refl, noted changed));
  holds = holds;
  complete = λ _. memory_answers asked shelf.holds shelf.failed;
}

same_name : (name : List ℕ) → bytes_eq name name ≡ true
same_name name = (bytes_eq-Decides name name).1 refl

-- a name that was noted once more has more faults
noted_rises : (failed : List (List ℕ)) (name : List ℕ) → faults_of failed name < faults_of (failed ++ name ∷ []) name
noted_rises failed name =
    rw (fold-append (λ n other. n + cond (bytes_eq other name) 1 0) 0 failed (name ∷ []), same_name name) (omega arith)

unread_risen : (asked : Result Plan (List ℕ)) (shelf shelf' : ShelfState) (out out' : SinkState) (file : File) → IsUnreadFile asked shelf shelf' out out' file → HasRisen asked shelf shelf' file
unread_risen asked shelf shelf' out out' file is =
    (is.name, is.named, subst (λ names. faults_of shelf.failed is.name < faults_of names is.name) (sym (ap (λ s. s.failed) is.noted)) (noted_rises shelf.failed is.name))

refuses_nothing : (asked : Result Plan (List ℕ)) (file : File) (name : List ℕ) → IsFileOf (plan_of asked) file name → ¬ AreRefused asked
refuses_nothing (Err line) file name named refused = named
refuses_nothing (Ok plan) file name named refused = refused

-- a file was not read, and its line was put
unread_said : {lines : Table} (asked : Result Plan (List ℕ)) (shelf shelf' : ShelfState) (out out' err err' : SinkState) (file : File) → IsPartial (plan_of asked) shelf.holds out out' → IsUnreadFile asked shelf shelf' out out' file → AreCountsSame out out' err err' → Appends err.written err'.written (unread_line file) → Promises lines asked shelf shelf' out out' err err' 3
unread_said asked shelf shelf' out out' err err' file partial is counts said = record {
  outcome = λ s. absurd (s.1 refl);
  prefix = partial;
  line_is = λ s _. absurd (s.1 refl);
  quiet_err = λ e. cc;
  quiet_out = λ s _ _. absurd (s.1 refl);
  memory = λ e. cc;
  unread = λ _. record { file = file; risen = unread_risen asked shelf shelf' out out' file is; line = said; nothing_out = is.nothing_out; before = is.before };
  unwritten = λ e. cc;
  write_line_is = λ e _. cc;
  cut_line = λ e. cc;
  words = λ e. cc;
  refused_words = λ r. absurd (refuses_nothing asked file is.name is.named r);
  quiet_shelf = λ s. absurd (s.1 refl);
  counts = λ _. counts;
  noted = λ _. inl refl;
  holds = ap (λ s. s.holds) is.noted;
  complete = λ faultless. absurd (faultless.shelf_is file (unread_risen asked shelf shelf' out out' file is));
}

not_faultless : (asked : Result Plan (List ℕ)) (shelf shelf' : ShelfState) (out out' err err' : SinkState) → Rose out.faults out'.faults ⊎ Rose err.faults err'.faults → ¬ IsFaultless asked shelf shelf' out out' err err'
not_faultless asked shelf shelf' out out' err err' (inl rose) faultless = faultless.out_is rose
not_faultless asked shelf shelf' out out' err err' (inr rose) faultless = faultless.err_is rose

-- a put failed
unwritten_said : {lines : Table} (asked : Result Plan (List ℕ)) (shelf shelf' : ShelfState) (out out' err err' : SinkState) → IsPartial (plan_of asked) shelf.holds out out' → shelf'.holds ≡ shelf.holds → Rose out.faults out'.faults ⊎ Rose err.faults err'.faults → (¬ Rose err.faults err'.faults → SaysAtMost write_line err err') → SaysPartOfLine lines err err' → Promises lines asked shelf shelf' out out' err err' 4
unwritten_said asked shelf shelf' out out' err err' partial holds rose says part = record {
  outcome = λ s. absurd (s.2 refl);
  prefix = partial;
  line_is = λ s _. absurd (s.2 refl);
  quiet_err = λ e. cc;
  quiet_out = λ s _ _. absurd (s.2 refl);
  memory = λ e. cc;
  unread = λ e. cc;
  unwritten = λ _. rose;
  write_line_is = λ _. says;
  cut_line = λ _. part;
  words = λ e. cc;
  refused_words = λ r. inr (inr refl);
  quiet_shelf = λ s. absurd (s.2 refl);
  counts = λ other. absurd (other refl);
  noted = λ _. inr (inl refl);
  holds = holds;
  complete = λ faultless. absurd (not_faultless asked shelf shelf' out out' err err' rose faultless);
}

refusal_settled : (refusal : Refusal) → IsSettled (refusal_status refusal)
refusal_settled refusals.Words = (λ e. cc, λ e. cc, λ e. cc)
refusal_settled refusals.Network = (λ e. cc, λ e. cc, λ e. cc)
refusal_settled refusals.Traces = (λ e. cc, λ e. cc, λ e. cc)
refusal_settled refusals.Certificate = (λ e. cc, λ e. cc, λ e. cc)
refusal_settled refusals.TooLong = (λ e. cc, λ e. cc, λ e. cc)
refusal_settled refusals.Table = (λ e. cc, λ e. cc, λ e. cc)

two_is_words : (refusal : Refusal) → refusal_status refusal ≡ 2 → refusal ≡ refusals.Words
two_is_words refusals.Words e = refl
two_is_words refusals.Network e = cc
two_is_words refusals.Traces e = cc
two_is_words refusals.Certificate e = cc
two_is_words refusals.TooLong e = cc
two_is_words refusals.Table e = cc

words_is_two : (refusal : Refusal) (asked : Result Plan (List ℕ)) → (refusal ≢ refusals.Words → ¬ AreRefused asked) → AreRefused asked → refusal_status refusal ≡ 2
words_is_two refusals.Words asked others refused = refl
words_is_two refusals.Network asked others refused = absurd (others (λ e. cc) refused)
words_is_two refusals.Traces asked others refused = absurd (others (λ e. cc) refused)
words_is_two refusals.Certificate asked others refused = absurd (others (λ e. cc) refused)
words_is_two refusals.TooLong asked others refused = absurd (others (λ e. cc) refused)
words_is_two refusals.Table asked others refused = absurd (others (λ e. cc) refused)

-- the shelf tells the same files, however the work ended
same_files : (asked : Result Plan (List ℕ)) (shelf shelf' : ShelfState) (out out' : SinkState) (stop : Stop) → LeavesEnded asked shelf shelf' out out' (Err stop) → shelf'.holds ≡ shelf.holds
same_files asked shelf shelf' out out' (Refused refusal line) leaves = ap (λ s. s.holds) leaves.quiet.shelf_is
same_files asked shelf shelf' out out' NoMemory leaves = ap (λ s. s.holds) leaves.shelf_is
same_files asked shelf shelf' out out' (Unread file) leaves = ap (λ s. s.holds) leaves.noted
same_files asked shelf shelf' out out' Unwritten leaves = ap (λ s. s.holds) leaves.shelf_is

refusal_not_done : (refusal : Refusal) → refusal_status refusal ≢ 0
refusal_not_done refusals.Words e = cc
refusal_not_done refusals.Network e = cc
refusal_not_done refusals.Traces e = cc
refusal_not_done refusals.Certificate e = cc
refusal_not_done refusals.TooLong e = cc
refusal_not_done refusals.Table e = cc

-- a refusal has a line of the plan
refusal_ends : (asked : Result Plan (List ℕ)) (shelf shelf' : ShelfState) (out out' : SinkState) (refusal : Refusal) (line : List ℕ) → IsSaid asked shelf shelf' out out' refusal line → IsEnding asked out out' line (refusal_status refusal)
refusal_ends asked shelf shelf' out out' refusal line is = record {
  of_plan = λ _. is.is_line;
  none = λ zero. absurd (refusal_not_done refusal zero);
  nothing_out = λ _ other. is.nothing_out (λ traces. other (ap refusal_status traces));
}

-- the line of an early ending is a line
line_is : (lines : Table) (asked : Result Plan (List ℕ)) (shelf shelf' : ShelfState) (out out' : SinkState) (stop : Stop) → Covers lines asked → LeavesEnded asked shelf shelf' out out' (Err stop) → IsErrLine lines (stop_line stop)
line_is lines asked shelf shelf' out out' (Refused refusal line) covers leaves = inl (refusal_status refusal, covers (refusal_status refusal) line (refusal_not_done refusal) leaves.is_line)
line_is lines asked shelf shelf' out out' NoMemory covers leaves = inr (inr (inl refl))
line_is lines asked shelf shelf' out out' (Unread file) covers leaves = inr (inl (file, refl))
line_is lines asked shelf shelf' out out' Unwritten covers leaves = inr (inr (inr refl))

counts : (shelf shelf' : ShelfState) (out out' err err' : SinkState) → IsQuiet shelf shelf' out out' → err'.faults ≡ err.faults → AreCountsSame out out' err err'
counts shelf shelf' out out' err err' quiet same = record { out_is = quiet.faults_are; err_is = same }

not_noted : {A : Type 0} (shelf shelf' : ShelfState) → shelf' ≡ shelf → shelf'.failed ≢ shelf.failed → A
not_noted shelf shelf' same changed = absurd (changed (ap (λ s. s.failed) same))

-- the promises of a run whose work ended early
stopped : {lines : Table} (asked : Result Plan (List ℕ)) (shelf shelf' : ShelfState) (out out' err err' : SinkState) (stop : Stop) (put : Put) → Covers lines asked → Performs asked shelf shelf' out out' (Err stop) → Puts err err' (stop_line stop) put → Promises lines asked shelf shelf' out out' err err' (status_after (Err stop) put)
stopped {lines} asked shelf shelf' out out' err err' (Refused refusal line) puts.All covers performs said =
    let is = performs.leaves in
    settled asked shelf shelf' out out' err err' line (refusal_status refusal) performs.partial is.whole is.quiet (refusal_settled refusal) said.0 said.1 (λ two. is.words (two_is_words refusal two)) (words_is_two refusal asked is.others) (refusal_ends asked shelf shelf' out out' refusal line is)
stopped {lines} asked shelf shelf' out out' err err' NoMemory puts.All covers performs said =
    starved asked shelf shelf' out out' err err' performs.partial (counts shelf shelf' out out' err err' performs.leaves said.1) (inr said.0) (not_noted shelf shelf' performs.leaves.shelf_is) (same_files asked shelf shelf' out out' NoMemory performs.leaves)
stopped {lines} asked shelf shelf' out out' err err' (Unread file) puts.All covers performs said =
    unread_said asked shelf shelf' out out' err err' file performs.partial performs.leaves (record { out_is = performs.leaves.faults_are; err_is = said.1 }) said.0
stopped {lines} asked shelf shelf' out out' err err' Unwritten puts.All covers performs said =
    unwritten_said asked shelf shelf' out out' err err' performs.partial (same_files asked shelf shelf' out out' Unwritten performs.leaves) (inl performs.leaves.rose) (λ _. inr said.0) (write_line, inr (inr (inr refl)), prefix_whole err.written err'.written write_line said.0)
stopped {lines} asked shelf shelf' out out' err err' stop puts.Failed covers performs said =
    unwritten_said asked shelf shelf' out out' err err' performs.partial (same_files asked shelf shelf' out out' stop performs.leaves) (inr (rose_counted err.faults err'.faults said.1)) (λ calm. absurd (calm (rose_counted err.faults err'.faults said.1))) (stop_line stop, line_is lines asked shelf shelf' out out' stop covers performs.leaves, said.0)
stopped {lines} asked shelf shelf' out out' err err' (Refused refusal line) puts.NoMemory covers performs said =
    starved asked shelf shelf' out out' err err' performs.partial (counts shelf shelf' out out' err err' performs.leaves.quiet said.1) (inl said.0) (λ _. said.0) (same_files asked shelf shelf' out out' (Refused refusal line) performs.leaves)
stopped {lines} asked shelf shelf' out out' err err' NoMemory puts.NoMemory covers performs said =
    starved asked shelf shelf' out out' err err' performs.partial (counts shelf shelf' out out' err err' performs.leaves said.1) (inl said.0) (λ _. said.0) (same_files asked shelf shelf' out out' NoMemory performs.leaves)
stopped {lines} asked shelf shelf' out out' err err' (Unread file) puts.NoMemory covers performs said =
    starved asked shelf shelf' out out' err err' performs.partial (record { out_is = performs.leaves.faults_are; err_is = said.1 }) (inl said.0) (λ _. said.0) (same_files asked shelf shelf' out out' (Unread file) performs.leaves)
stopped {lines} asked shelf shelf' out out' err err' Unwritten puts.NoMemory covers performs said =
    unwritten_said asked shelf shelf' out out' err err' performs.partial (same_files asked shelf shelf' out out' Unwritten performs.leaves) (inl performs.leaves.rose) (λ _. inl said.0) (write_line, inr (inr (inr refl)), (0, said.0))

done : {lines : Table} (asked : Result Plan (List ℕ)) (shelf shelf' : ShelfState) (out out' err err' : SinkState) → Performs asked shelf shelf' out out' (Ok tt) → Appends err.written err'.written [] → err'.faults ≡ err.faults → Promises lines asked shelf shelf' out out' err err' 0
done asked shelf shelf' out out' err err' performs said same =
    settled asked shelf shelf' out out' err err' [] 0 performs.partial performs.leaves.whole performs.leaves.quiet (λ e. cc, λ e. cc, λ e. cc) said same (λ e. cc) (λ refused. absurd (performs.leaves.accepted refused)) (record { of_plan = λ other. absurd (other refl); none = λ _. refl; nothing_out = λ other _. absurd (other refl) })

-- the promises of a run, from what its work leaves and the put of its line
pub promises : {lines : Table} (asked : Result Plan (List ℕ)) (shelf shelf' : ShelfState) (out out' err err' : SinkState) (ended : Result (Unit {0}) Stop) (put : Put) → Covers lines asked → Performs asked shelf shelf' out out' ended → Puts err err' (line_of_result ended) put → (IsOk ended → put ≡ puts.All) → Promises lines asked shelf shelf' out out' err err' (status_after ended put)
promises asked shelf shelf' out out' err err' (Ok tt) puts.All covers performs said quiet = done asked shelf shelf' out out' err err' performs said.0 said.1
promises asked shelf shelf' out out' err err' (Ok tt) puts.Failed covers performs said quiet = let same : puts.Failed ≡ puts.All = quiet refl in cc
promises asked shelf shelf' out out' err err' (Ok tt) puts.NoMemory covers performs said quiet = let same : puts.NoMemory ≡ puts.All = quiet refl in cc
promises asked shelf shelf' out out' err err' (Err stop) put covers performs said quiet = stopped asked shelf shelf' out out' err err' stop put covers performs said
