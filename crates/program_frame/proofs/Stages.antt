-- What a work leaves, from what its words leave.
use Rattle.std.proofs.Common.{◌≡◌, ◌≢◌, ℕ, List, [], Some, None, Result, Ok, Err, IfSome, refl, sym, ◌∙◌, ap, subst, inl, inr}
use Rattle.std.specs.declared.option.Option.{Option}
use Rattle.edge_io.proofs.KnownBytes.{appends_nothing, prefix_nothing, prefix_whole}
use Rattle.edge_io.specs.Sink.{AppendsPrefix}
use Rattle.program_frame.specs.Stops.{refusal_status}
use Rattle.program_frame.specs.Loads.{Loads, Loaded, LoadFault, FailsToLoad, RefusesLoad}
use Rattle.program_frame.specs.inside.Refusing.{Accepts}
use Rattle.program_frame.specs.Outcome.{out_text, done_with, refused_with}
use Rattle.program_frame.specs.Performs.{IsWholeOutcome, IsPartial, IsQuiet, LeavesEnded, Performs, PutLeaves, PutsText}
use Rattle.program_frame.specs.Read.{IsReadWhole, FailsToRead, ReadsWhole}
use Rattle.edge_io.specs.State.{ShelfState, SinkState}
use Rattle.program_frame.specs.Plan.{Plan, Comes, IsFileOf, IsLineOf, accepts, and_holds, and_then, loads, outcome_of, plan_of}
use Rattle.program_frame.specs.Plan.Plan.{ends, reads}
use Rattle.program_frame.specs.declared.stop.File.{File}
use Rattle.program_frame.specs.declared.stop.Refusal.{Refusal}
use Rattle.program_frame.specs.declared.stop.Refusal.TheVariants.{Words}
use Rattle.program_frame.specs.declared.stop.Stop.{Stop}
use Rattle.program_frame.specs.declared.stop.Stop.TheVariants.{Refused, NoMemory, Unread, Unwritten}

abbrev Files : Type 0
Files = List ℕ → Option (List ℕ)

-- where the shelf tells its files, the work goes on as this rest of it
abbrev pub Agrees : Plan → Plan → Option (List ℕ → Option (List ℕ)) → Type 0
Agrees plan rest told = IfSome told (λ files. (outcome_of plan files ≡ outcome_of rest files) × ((f : File) → Comes rest files f → Comes plan files f))

pub record GoesOn (plan rest : Plan) (told : Option (List ℕ → Option (List ℕ))) : Type 0 where
  pub agrees : Agrees plan rest told
  pub named : (file : File) (name : List ℕ) → IsFileOf rest file name → IsFileOf plan file name
  pub lines : (status : ℕ) (line : List ℕ) → IsLineOf rest status line → IsLineOf plan status line

whole_on : (plan rest : Plan) (told : Option Files) (out out' : SinkState) (line : List ℕ) (status : ℕ) → Agrees plan rest told → IsWholeOutcome rest told out out' line status → IsWholeOutcome plan told out out' line status
whole_on plan rest None out out' line status on whole = tt
whole_on plan rest (Some files) out out' line status on whole = (whole.0, on.0 ∙ whole.1, whole.2)

partial_on : (plan rest : Plan) (told : Option Files) (out out' : SinkState) → Agrees plan rest told → IsPartial rest told out out' → IsPartial plan told out out'
partial_on plan rest None out out' on partial = tt
partial_on plan rest (Some files) out out' on partial = subst (λ o. AppendsPrefix out.written out'.written (out_text o)) (sym on.0) partial

before_on : (plan rest : Plan) (told : Option Files) (file : File) → Agrees plan rest told → IfSome told (λ files. Comes rest files file) → IfSome told (λ files. Comes plan files file)
before_on plan rest None file on comes = tt
before_on plan rest (Some files) file on comes = on.1 file comes

leaves_on : (plan rest : Plan) (shelf shelf' : ShelfState) (out out' : SinkState) (ended : Result (Unit {0}) Stop) → GoesOn plan rest shelf.holds → LeavesEnded (Ok rest) shelf shelf' out out' ended → LeavesEnded (Ok plan) shelf shelf' out out' ended
leaves_on plan rest shelf shelf' out out' (Ok done) on leaves =
    record { whole = whole_on plan rest shelf.holds out out' [] 0 on.agrees leaves.whole; quiet = leaves.quiet; accepted = leaves.accepted }
leaves_on plan rest shelf shelf' out out' (Err (Refused refusal line)) on leaves =
    record { whole = whole_on plan rest shelf.holds out out' line (refusal_status refusal) on.agrees leaves.whole; quiet = leaves.quiet; is_line = on.lines (refusal_status refusal) line leaves.is_line; words = λ same. absurd (leaves.words same).refused; others = leaves.others; nothing_out = leaves.nothing_out }
leaves_on plan rest shelf shelf' out out' (Err NoMemory) on leaves = leaves
leaves_on plan rest shelf shelf' out out' (Err (Unread file)) on leaves =
    record { name = leaves.name; named = on.named file leaves.name leaves.named; noted = leaves.noted; nothing_out = leaves.nothing_out; before = before_on plan rest shelf.holds file on.agrees leaves.before; faults_are = leaves.faults_are }
leaves_on plan rest shelf shelf' out out' (Err Unwritten) on leaves = leaves

pub goes_on : (plan rest : Plan) (shelf shelf' : ShelfState) (out out' : SinkState) (ended : Result (Unit {0}) Stop) → GoesOn plan rest shelf.holds → Performs (Ok rest) shelf shelf' out out' ended → Performs (Ok plan) shelf shelf' out out' ended
goes_on plan rest shelf shelf' out out' ended on performs =
    record { partial = partial_on plan rest shelf.holds out out' on.agrees performs.partial; leaves = leaves_on plan rest shelf shelf' out out' ended on performs.leaves }

-- a work that has left all as it was

partial_same : (plan : Plan) (told : Option Files) (out : SinkState) → IsPartial plan told out out
partial_same plan None out = tt
partial_same plan (Some files) out = (0, appends_nothing out.written)

quiet_same : (shelf : ShelfState) (out : SinkState) → IsQuiet shelf shelf out out
quiet_same shelf out = record { shelf_is = refl; faults_are = refl }

pub memory_performs : (asked : Result Plan (List ℕ)) (shelf : ShelfState) (out : SinkState) → Performs asked shelf shelf out out (Err NoMemory)
memory_performs asked shelf out =
    record { partial = partial_same (plan_of asked) shelf.holds out; leaves = quiet_same shelf out }

refused_whole : (told : Option Files) (out : SinkState) (line : List ℕ) (status : ℕ) → IsWholeOutcome (ends (refused_with status line)) told out out line status
refused_whole None out line status = tt
refused_whole (Some files) out line status = ([], refl, appends_nothing out.written)

pub words_refused : (line : List ℕ) (shelf : ShelfState) (out : SinkState) → Performs (Err line) shelf shelf out out (Err (Refused Words line))
words_refused line shelf out = record {
  partial = partial_same (plan_of (Err line)) shelf.holds out;
  leaves = record { whole = refused_whole shelf.holds out line 2; quiet = quiet_same shelf out; is_line = (refl, refl); words = λ _. record { refused = refl; nothing_out = appends_nothing out.written }; others = λ other. absurd (other refl); nothing_out = λ _. appends_nothing out.written };
}

abbrev pub refused_as : List ℕ → Result (Unit {0}) (List ℕ)
refused_as line = Err line

same_line : (line said : List ℕ) → refused_as line ≡ refused_as said → line ≡ said
same_line line said is = cc is

-- words that are refused, or no memory for their line
pub words_stop : (line : List ℕ) (shelf : ShelfState) (out : SinkState) (stop : Stop) → RefusesLoad Words (refused_as line) stop → Performs (Err line) shelf shelf out out (Err stop)
words_stop line shelf out (Refused r said) refuses =
    subst (λ l. Performs (Err line) shelf shelf out out (Err (Refused r l))) (same_line line said refuses.1) (subst (λ x. Performs (Err line) shelf shelf out out (Err (Refused x line))) (sym refuses.0) (words_refused line shelf out))
words_stop line shelf out NoMemory refuses = memory_performs (Err line) shelf out
words_stop line shelf out (Unread file) refuses = absurd refuses
words_stop line shelf out Unwritten refuses = absurd refuses

-- `ends`

done_whole : (told : Option Files) (out out' : SinkState) (text : List ℕ) → AppendsPrefix out.written out'.written text → IsPartial (ends (done_with text)) told out out'
done_whole None out out' text grown = tt
done_whole (Some files) out out' text grown = grown

put_whole : (told : Option Files) (out out' : SinkState) (text : List ℕ) → PutLeaves out out' text (Ok tt) → IsWholeOutcome (ends (done_with text)) told out out' [] 0
put_whole None out out' text puts = tt
put_whole (Some files) out out' text puts = (text, refl, puts.0)

put_performs : (text : List ℕ) (shelf : ShelfState) (out out' : SinkState) (ended : Result (Unit {0}) Stop) → PutLeaves out out' text ended → Performs (Ok (ends (done_with text))) shelf shelf out out' ended
put_performs text shelf out out' (Ok done) puts = record {
  partial = done_whole shelf.holds out out' text (prefix_whole out.written out'.written text puts.0);
  leaves = record { whole = put_whole shelf.holds out out' text puts; quiet = record { shelf_is = refl; faults_are = puts.1 }; accepted = λ no. no };
}
put_performs text shelf out out' (Err (Refused refusal line)) puts = absurd puts
put_performs text shelf out out' (Err NoMemory) puts = record {
  partial = done_whole shelf.holds out out' text (prefix_nothing out.written out'.written text puts.0);
  leaves = record { shelf_is = refl; faults_are = puts.1 };
}
put_performs text shelf out out' (Err (Unread file)) puts = absurd puts
put_performs text shelf out out' (Err Unwritten) puts = record {
  partial = done_whole shelf.holds out out' text puts.0;
  leaves = record { shelf_is = refl; rose = puts.1 };
}

pub ends_performs : {shelf : ShelfState} {out out' : SinkState} {given : List ℕ} {ended : Result (Unit {0}) Stop} {text : List ℕ} → given ≡ text → PutsText out out' given ended → Performs (Ok (ends (done_with text))) shelf shelf out out' ended
ends_performs {shelf} {out} {out'} {given} {ended} {text} same puts =
    subst (λ t. Performs (Ok (ends (done_with t))) shelf shelf out out' ended) same (put_performs given shelf out out' ended puts.leaves)

-- `accepts`

pub accepts_performs : {A : Type 0} {said : Result A (List ℕ)} {value : A} {shelf shelf' : ShelfState} {out out' : SinkState} {ended : Result (Unit {0}) Stop} (status : ℕ) (next : A → Plan) → said ≡ Ok value → Performs (Ok (next value)) shelf shelf' out out' ended → Performs (Ok (accepts status said next)) shelf shelf' out out' ended
accepts_performs {A} {said} {value} {shelf} {shelf'} {out} {out'} {ended} status next is performs =
    subst (λ s. Performs (Ok (accepts status s next)) shelf shelf' out out' ended) (sym is) performs

refused_performs : (refusal : Refusal) (line : List ℕ) (shelf : ShelfState) (out : SinkState) → refusal ≢ Words → Performs (Ok (ends (refused_with (refusal_status refusal) line))) shelf shelf out out (Err (Refused refusal line))
refused_performs refusal line shelf out other = record {
  partial = partial_same (ends (refused_with (refusal_status refusal) line)) shelf.holds out;
  leaves = record { whole = refused_whole shelf.holds out line (refusal_status refusal); quiet = quiet_same shelf out; is_line = (refl, refl); words = λ same. absurd (other same); others = λ _ no. no; nothing_out = λ _. appends_nothing out.written };
}

refusal_performs : {A : Type 0} (refusal : Refusal) (said : Result A (List ℕ)) (next : A → Plan) (shelf : ShelfState) (out : SinkState) (stop : Stop) → refusal ≢ Words → RefusesLoad refusal said stop → Performs (Ok (accepts (refusal_status refusal) said next)) shelf shelf out out (Err stop)
refusal_performs refusal said next shelf out (Refused r line) other fails =
    subst (λ x. Performs (Ok (accepts (refusal_status refusal) said next)) shelf shelf out out (Err (Refused x line))) (sym fails.0) (subst (λ s. Performs (Ok (accepts (refusal_status refusal) s next)) shelf shelf out out (Err (Refused refusal line))) (sym fails.1) (refused_performs refusal line shelf out other))
refusal_performs refusal said next shelf out NoMemory other fails = memory_performs (Ok (accepts (refusal_status refusal) said next)) shelf out
refusal_performs refusal said next shelf out (Unread file) other fails = absurd fails
refusal_performs refusal said next shelf out Unwritten other fails = absurd fails

pub accepts_refuses : {A : Type 0} {shelf : ShelfState} {out : SinkState} {stop : Stop} (refusal : Refusal) (said : Result A (List ℕ)) (next : A → Plan) → refusal ≢ Words → RefusesLoad refusal said stop → Performs (Ok (accepts (refusal_status refusal) said next)) shelf shelf out out (Err stop)
accepts_refuses {A} {shelf} {out} {stop} refusal said next other fails = refusal_performs refusal said next shelf out stop other fails

-- `reads`

read_agrees : (file : File) (name : List ℕ) (limit : ℕ) (next : List ℕ → Plan) (told : Option Files) (bytes : List ℕ) → IsReadWhole told name limit bytes → Agrees (reads file name limit next) (next bytes) told
read_agrees file name limit next None bytes whole = tt
read_agrees file name limit next (Some files) bytes whole =
    (ap (λ s. and_then s (λ b. outcome_of (next b) files)) whole, λ f comes. inr (subst (λ s. and_holds s (λ b. Comes (next b) files f)) (sym whole) comes))

read_goes_on : (file : File) (name : List ℕ) (limit : ℕ) (next : List ℕ → Plan) (told : Option Files) (bytes : List ℕ) → IsReadWhole told name limit bytes → GoesOn (reads file name limit next) (next bytes) told
read_goes_on file name limit next told bytes whole =
    record { agrees = read_agrees file name limit next told bytes whole; named = λ f n is. inr (bytes, is); lines = λ status line is. (bytes, is) }

pub reads_performs : (file : File) (name : List ℕ) (limit : ℕ) (next : List ℕ → Plan) (shelf shelf' shelf'' : ShelfState) (out out' : SinkState) (bytes : List ℕ) (ended : Result (Unit {0}) Stop) → ReadsWhole name limit shelf shelf' bytes → Performs (Ok (next bytes)) shelf' shelf'' out out' ended → Performs (Ok (reads file name limit next)) shelf shelf'' out out' ended
reads_performs file name limit next shelf shelf' shelf'' out out' bytes ended whole performs =
    goes_on (reads file name limit next) (next bytes) shelf shelf'' out out' ended (read_goes_on file name limit next shelf.holds bytes whole.0) (subst (λ s. Performs (Ok (next bytes)) s shelf'' out out' ended) whole.1 performs)

comes_first : (file : File) (name : List ℕ) (limit : ℕ) (next : List ℕ → Plan) (told : Option Files) → IfSome told (λ files. Comes (reads file name limit next) files file)
comes_first file name limit next None = tt
comes_first file name limit next (Some files) = inl refl

unread_performs : (file : File) (name : List ℕ) (limit : ℕ) (next : List ℕ → Plan) (shelf shelf' : ShelfState) (out : SinkState) → FailsToRead file name shelf shelf' (Unread file) → Performs (Ok (reads file name limit next)) shelf shelf' out out (Err (Unread file))
unread_performs file name limit next shelf shelf' out fails = record {
  partial = partial_same (reads file name limit next) shelf.holds out;
  leaves = record { name = name; named = inl (refl, refl); noted = fails.1; nothing_out = λ _. appends_nothing out.written; before = comes_first file name limit next shelf.holds; faults_are = refl };
}

memory_at : (asked : Result Plan (List ℕ)) (shelf shelf' : ShelfState) (out : SinkState) → shelf' ≡ shelf → Performs asked shelf shelf' out out (Err NoMemory)
memory_at asked shelf shelf' out same =
    subst (λ s. Performs asked shelf s out out (Err NoMemory)) (sym same) (memory_performs asked shelf out)

pub reads_fails : (file : File) (name : List ℕ) (limit : ℕ) (next : List ℕ → Plan) (shelf shelf' : ShelfState) (out : SinkState) (stop : Stop) → FailsToRead file name shelf shelf' stop → Performs (Ok (reads file name limit next)) shelf shelf' out out (Err stop)
reads_fails file name limit next shelf shelf' out (Refused refusal line) fails = absurd fails
reads_fails file name limit next shelf shelf' out NoMemory fails = memory_at (Ok (reads file name limit next)) shelf shelf' out fails
reads_fails file name limit next shelf shelf' out (Unread f) fails =
    subst (λ x. Performs (Ok (reads file name limit next)) shelf shelf' out out (Err (Unread x))) (sym fails.0) (unread_performs file name limit next shelf shelf' out (refl, fails.1))
reads_fails file name limit next shelf shelf' out Unwritten fails = absurd fails

-- a file that is read and accepted or refused

pub loads_performs : {A : Type 0} {name : List ℕ} {limit : ℕ} {said : List ℕ → Result A (List ℕ)} {shelf shelf' shelf'' : ShelfState} {out out' : SinkState} {value : A} {ended : Result (Unit {0}) Stop} {file : File} (status : ℕ) (next : A → Plan) → Loaded name limit said shelf shelf' value → Performs (Ok (next value)) shelf' shelf'' out out' ended → Performs (Ok (loads file name limit status said next)) shelf shelf'' out out' ended
loads_performs {A} {name} {limit} {said} {shelf} {shelf'} {shelf''} {out} {out'} {value} {ended} {file} status next loaded performs =
    reads_performs file name limit (λ bytes. accepts status (said bytes) next) shelf shelf' shelf'' out out' loaded.bytes ended loaded.whole (accepts_performs status next loaded.is performs)

fault_performs : {A : Type 0} (refusal : Refusal) (file : File) (name : List ℕ) (limit : ℕ) (said : List ℕ → Result A (List ℕ)) (next : A → Plan) (shelf shelf' : ShelfState) (out : SinkState) (stop : Stop) → refusal ≢ Words → LoadFault refusal file name limit said shelf shelf' stop → Performs (Ok (loads file name limit (refusal_status refusal) said next)) shelf shelf' out out (Err stop)
fault_performs refusal file name limit said next shelf shelf' out (Refused r line) other fails =
    reads_performs file name limit (λ bytes. accepts (refusal_status refusal) (said bytes) next) shelf shelf' shelf' out out fails.0 (Err (Refused r line)) fails.1 (refusal_performs refusal (said fails.0) next shelf' out (Refused r line) other fails.2)
fault_performs refusal file name limit said next shelf shelf' out NoMemory other fails = memory_at (Ok (loads file name limit (refusal_status refusal) said next)) shelf shelf' out fails
fault_performs refusal file name limit said next shelf shelf' out (Unread f) other fails = reads_fails file name limit (λ bytes. accepts (refusal_status refusal) (said bytes) next) shelf shelf' out (Unread f) fails
fault_performs refusal file name limit said next shelf shelf' out Unwritten other fails = absurd fails

pub loads_fails : {A : Type 0} {refusal : Refusal} {file : File} {name : List ℕ} {limit : ℕ} {said : List ℕ → Result A (List ℕ)} {shelf shelf' : ShelfState} {stop : Stop} {out : SinkState} (next : A → Plan) → refusal ≢ Words → FailsToLoad refusal file name limit said shelf shelf' stop → Performs (Ok (loads file name limit (refusal_status refusal) said next)) shelf shelf' out out (Err stop)
loads_fails {A} {refusal} {file} {name} {limit} {said} {shelf} {shelf'} {stop} {out} next other fails =
    fault_performs refusal file name limit said next shelf shelf' out stop other fails.fault

-- the code of a load

pub load_unread : {A : Type 0} {refusal : Refusal} {limit : ℕ} {said : List ℕ → Result A (List ℕ)} (file : File) (name : List ℕ) (shelf shelf' : ShelfState) (stop : Stop) → FailsToRead file name shelf shelf' stop → FailsToLoad refusal file name limit said shelf shelf' stop
load_unread file name shelf shelf' (Refused refusal line) fails = absurd fails
load_unread file name shelf shelf' NoMemory fails = record { fault = fails }
load_unread file name shelf shelf' (Unread f) fails = record { fault = fails }
load_unread file name shelf shelf' Unwritten fails = absurd fails

load_refused : {A : Type 0} (refusal : Refusal) (file : File) (name : List ℕ) (limit : ℕ) (said : List ℕ → Result A (List ℕ)) (shelf shelf' : ShelfState) (bytes : List ℕ) (stop : Stop) → ReadsWhole name limit shelf shelf' bytes → RefusesLoad refusal (said bytes) stop → FailsToLoad refusal file name limit said shelf shelf' stop
load_refused refusal file name limit said shelf shelf' bytes (Refused r line) whole fails = record { fault = (bytes, whole, fails) }
load_refused refusal file name limit said shelf shelf' bytes NoMemory whole fails = record { fault = whole.1 }
load_refused refusal file name limit said shelf shelf' bytes (Unread f) whole fails = absurd fails
load_refused refusal file name limit said shelf shelf' bytes Unwritten whole fails = absurd fails

-- the file was read, and a reader took its bytes
pub load_taken : {A : Type 0} (refusal : Refusal) (file : File) (name : List ℕ) (limit : ℕ) (said : List ℕ → Result A (List ℕ)) (shelf shelf' : ShelfState) (bytes taken : List ℕ) (result : Result A Stop) → ReadsWhole name limit shelf shelf' bytes → taken ≡ bytes → Accepts refusal (said taken) result → Loads refusal file name limit said shelf shelf' result
load_taken refusal file name limit said shelf shelf' bytes taken (Ok value) whole same taken_so =
    record { bytes = bytes; whole = whole; is = subst (λ b. said b ≡ Ok value) same taken_so }
load_taken refusal file name limit said shelf shelf' bytes taken (Err stop) whole same taken_so =
    load_refused refusal file name limit said shelf shelf' bytes stop whole (subst (λ b. RefusesLoad refusal (said b) stop) same taken_so)
