-- A last stage that writes while its file is read.
use Rattle.std.proofs.Common.{◌≡◌, ◌≢◌, ℕ, ◌+◌, ◌≤◌, List, [], ◌++◌, length, take, drop, Some, None, IfSome, MatchOption, Result, Ok, Err, refl, sym, ◌∙◌, ap, subst, inl, arith, append-nil, length-append, length-drop}
use Rattle.std.proofs.Math.Seq.{take-add}
use Rattle.edge_io.specs.Shelf.{Reads, ReadsFile}
use Rattle.edge_io.specs.declared.shelf.Taken.TheVariants.{Got, End}
use Rattle.std.proofs.lemmas.List.{take-take, take-append-drop, take_all, length-take}
use Rattle.std.specs.declared.option.Option.{Option}
use Rattle.std.specs.Io.KnownBytes.{Appends}
use Rattle.edge_io.proofs.KnownBytes.{prefix_whole}
use Rattle.edge_io.specs.Sink.{AppendsPrefix}
use Rattle.program_frame.specs.Stops.{refusal_status}
use Rattle.program_frame.specs.Outcome.{Outcome, out_text, bytes_seen}
use Rattle.program_frame.specs.Performs.{IsPartial, IsWholeOutcome, Performs}
use Rattle.program_frame.specs.Read.{IsFront, IsReadSoFar, IsReadWhole, Notes, ReadsWhole}
use Rattle.edge_io.specs.State.{ShelfState, SinkState}
use Rattle.program_frame.specs.Streams.{streams}
use Rattle.program_frame.specs.inside.StreamSteps.{EndsWithOutcome, IsStreaming, StopsAt}
use Rattle.program_frame.specs.Plan.Plan.{ends}
use Rattle.program_frame.proofs.Stages.{reads_performs}
use Rattle.program_frame.specs.Plan.{Comes, IsLineOf, and_then}
use Rattle.program_frame.specs.declared.stop.File.{File}
use Rattle.program_frame.specs.declared.stop.File.TheVariants.{Traces}
use Rattle.program_frame.specs.declared.stop.Refusal.{Refusal}
use Rattle.program_frame.specs.declared.stop.Refusal.TheVariants as refusals
use Rattle.program_frame.specs.declared.stop.Stop.{Stop}
use Rattle.program_frame.specs.declared.stop.Stop.TheVariants.{Refused, NoMemory, Unread, Unwritten}

abbrev Files : Type 0
Files = List ℕ → Option (List ℕ)

-- what is read of a file begins with what was read so far
front_rest : (limit : ℕ) (fed file : List ℕ) → fed ≡ take (length fed) file → length fed ≤ limit + 1 → fed ++ drop (length fed) (take (limit + 1) file) ≡ take (limit + 1) file
front_rest limit fed file front within =
    let a = length fed in
    let all = take (limit + 1) file in
    ap (λ xs. xs ++ drop a all) (front ∙ sym (take-take a (limit + 1) file within)) ∙ take-append-drop a all

-- out has a prefix of the outcome's text

partial_file : (limit : ℕ) (expected : List ℕ → Outcome) (out out' : SinkState) (fed : List ℕ) (held : Option (List ℕ)) → IsFront fed held → length fed ≤ limit + 1 → ((rest : List ℕ) → AppendsPrefix out.written out'.written (expected (fed ++ rest)).out) → (fed ≡ [] → Appends out.written out'.written []) → AppendsPrefix out.written out'.written (out_text (and_then (bytes_seen limit held) (λ bytes. Some (expected bytes))))
partial_file limit expected out out' fed None front within written nothing = (0, nothing front)
partial_file limit expected out out' fed (Some file) front within written nothing =
    subst (λ bytes. AppendsPrefix out.written out'.written (expected bytes).out) (front_rest limit fed file front within) (written (drop (length fed) (take (limit + 1) file)))

stream_partial : (file : File) (name : List ℕ) (limit : ℕ) (expected : List ℕ → Outcome) (told : Option Files) (out out' : SinkState) (fed : List ℕ) → IsReadSoFar told name fed → length fed ≤ limit + 1 → ((rest : List ℕ) → AppendsPrefix out.written out'.written (expected (fed ++ rest)).out) → (fed ≡ [] → Appends out.written out'.written []) → IsPartial (streams file name limit expected) told out out'
stream_partial file name limit expected None out out' fed front within written nothing = tt
stream_partial file name limit expected (Some files) out out' fed front within written nothing =
    partial_file limit expected out out' fed (files name) front within written nothing

first_comes : (file : File) (name : List ℕ) (limit : ℕ) (expected : List ℕ → Outcome) (told : Option Files) → IfSome told (λ files. Comes (streams file name limit expected) files file)
first_comes file name limit expected None = tt
first_comes file name limit expected (Some files) = inl refl

-- no memory for a read
pub stream_starved : {name : List ℕ} {limit : ℕ} {expected : List ℕ → Outcome} {shelf shelf' : ShelfState} {out out' : SinkState} {fed : List ℕ} (file : File) → IsStreaming name limit expected shelf shelf' out out' fed → Performs (Ok (streams file name limit expected)) shelf shelf' out out' (Err NoMemory)
stream_starved {name} {limit} {expected} {shelf} {shelf'} {out} {out'} {fed} file is = record {
  partial = stream_partial file name limit expected shelf.holds out out' fed is.front is.within is.written is.nothing;
  leaves = record { shelf_is = is.shelf_is; faults_are = is.faults_are };
}

-- a read failed: the one file of which out may have gained something
pub stream_unread : {name : List ℕ} {limit : ℕ} {expected : List ℕ → Outcome} {shelf shelf' shelf'' : ShelfState} {out out' : SinkState} {fed : List ℕ} → IsStreaming name limit expected shelf shelf' out out' fed → Notes shelf' shelf'' name → Performs (Ok (streams Traces name limit expected)) shelf shelf'' out out' (Err (Unread Traces))
stream_unread {name} {limit} {expected} {shelf} {shelf'} {shelf''} {out} {out'} {fed} is notes = record {
  partial = stream_partial Traces name limit expected shelf.holds out out' fed is.front is.within is.written is.nothing;
  leaves = record {
    name = name;
    named = inl (refl, refl);
    noted = subst (λ s. Notes s shelf'' name) is.shelf_is notes;
    nothing_out = λ other. absurd (other refl);
    before = first_comes Traces name limit expected shelf.holds;
    faults_are = is.faults_are;
  };
}

-- the work stopped in a chunk

traces_not_words : (refusal : Refusal) → refusal ≡ refusals.Traces → refusal ≡ refusals.Words → ⊥
traces_not_words refusal traces words = let same : refusals.Traces ≡ refusals.Words = sym traces ∙ words in cc

whole_file : (limit : ℕ) (expected : List ℕ → Outcome) (o : Outcome) (fed : List ℕ) (held : Option (List ℕ)) → IsFront fed held → fed ≢ [] → length fed ≤ limit + 1 → ((rest : List ℕ) → expected (fed ++ rest) ≡ o) → and_then (bytes_seen limit held) (λ bytes. Some (expected bytes)) ≡ Some o
whole_file limit expected o fed None front some within is = absurd (some front)
whole_file limit expected o fed (Some file) front some within is =
    ap (λ bytes. Some (expected bytes)) (sym (front_rest limit fed file front within)) ∙ ap (λ x. Some x) (is (drop (length fed) (take (limit + 1) file)))

stream_whole : (file : File) (name : List ℕ) (limit : ℕ) (expected : List ℕ → Outcome) (told : Option Files) (out out' : SinkState) (fed text line : List ℕ) (status : ℕ) → IsReadSoFar told name fed → fed ≢ [] → length fed ≤ limit + 1 → ((rest : List ℕ) → expected (fed ++ rest) ≡ record { out = text; err = line; status = status }) → Appends out.written out'.written text → IsWholeOutcome (streams file name limit expected) told out out' line status
stream_whole file name limit expected None out out' fed text line status front some within is written = tt
stream_whole file name limit expected (Some files) out out' fed text line status front some within is written =
    (text, whole_file limit expected (record { out = text; err = line; status = status }) fed (files name) front some within is, written)

-- the line of an outcome
line_at : {o : Outcome} {text line : List ℕ} {status : ℕ} → o ≡ record { out = text; err = line; status = status } → IsLineOf (ends o) status line
line_at is = (ap (λ x. x.status) is, ap (λ x. x.err) is)

chunk_stops : (file : File) (name : List ℕ) (limit : ℕ) (expected : List ℕ → Outcome) (shelf : ShelfState) (out out' : SinkState) (fed : List ℕ) (stop : Stop) → IsReadSoFar shelf.holds name fed → fed ≢ [] → length fed ≤ limit + 1 → StopsAt expected out out' fed stop → Performs (Ok (streams file name limit expected)) shelf shelf out out' (Err stop)
chunk_stops file name limit expected shelf out out' fed (Refused refusal line) front some within is = record {
  partial = stream_partial file name limit expected shelf.holds out out' fed front within (λ rest. subst (λ o. AppendsPrefix out.written out'.written o.out) (sym (is.is rest)) (prefix_whole out.written out'.written is.text is.written)) (λ none. absurd (some none));
  leaves = record {
    whole = stream_whole file name limit expected shelf.holds out out' fed is.text line (refusal_status refusal) front some within is.is is.written;
    quiet = record { shelf_is = refl; faults_are = is.faults_are };
    is_line = (fed, subst (λ b. IsLineOf (ends (expected b)) (refusal_status refusal) line) (append-nil fed) (line_at (is.is [])));
    words = λ same. absurd (traces_not_words refusal is.is_traces same);
    others = λ _ no. no;
    nothing_out = λ other. absurd (other is.is_traces);
  };
}
chunk_stops file name limit expected shelf out out' fed NoMemory front some within is = record {
  partial = stream_partial file name limit expected shelf.holds out out' fed front within is.0 (λ none. absurd (some none));
  leaves = record { shelf_is = refl; faults_are = is.1 };
}
chunk_stops file name limit expected shelf out out' fed (Unread f) front some within is = absurd is
chunk_stops file name limit expected shelf out out' fed Unwritten front some within is = record {
  partial = stream_partial file name limit expected shelf.holds out out' fed front within is.0 (λ none. absurd (some none));
  leaves = record { shelf_is = refl; rose = is.1 };
}

pub stream_stops : {shelf shelf' : ShelfState} {out out' : SinkState} {stop : Stop} (file : File) (name : List ℕ) (limit : ℕ) (expected : List ℕ → Outcome) (fed : List ℕ) → shelf' ≡ shelf → IsReadSoFar shelf.holds name fed → fed ≢ [] → length fed ≤ limit + 1 → StopsAt expected out out' fed stop → Performs (Ok (streams file name limit expected)) shelf shelf' out out' (Err stop)
stream_stops {shelf} {shelf'} {out} {out'} {stop} file name limit expected fed same front some within is =
    subst (λ s. Performs (Ok (streams file name limit expected)) shelf s out out' (Err stop)) (sym same) (chunk_stops file name limit expected shelf out out' fed stop front some within is)

-- the whole file was taken

outcome_partial : (o : Outcome) (told : Option Files) (out out' : SinkState) → AppendsPrefix out.written out'.written o.out → IsPartial (ends o) told out out'
outcome_partial o None out out' grown = tt
outcome_partial o (Some files) out out' grown = grown

outcome_whole : (o : Outcome) (told : Option Files) (out out' : SinkState) (text line : List ℕ) (status : ℕ) → o ≡ record { out = text; err = line; status = status } → Appends out.written out'.written text → IsWholeOutcome (ends o) told out out' line status
outcome_whole o None out out' text line status is grown = tt
outcome_whole o (Some files) out out' text line status is grown = (text, ap (λ x. Some x) is, grown)

outcome_performs : (o : Outcome) (shelf : ShelfState) (out out' : SinkState) (ended : Result (Unit {0}) Stop) → EndsWithOutcome o out out' ended → Performs (Ok (ends o)) shelf shelf out out' ended
outcome_performs o shelf out out' (Ok done) is = record {
  partial = outcome_partial o shelf.holds out out' (prefix_whole out.written out'.written o.out is.1);
  leaves = record { whole = outcome_whole o shelf.holds out out' o.out [] 0 is.0 is.1; quiet = record { shelf_is = refl; faults_are = is.2 }; accepted = λ no. no };
}
outcome_performs o shelf out out' (Err (Refused refusal line)) is = record {
  partial = outcome_partial o shelf.holds out out' (subst (λ x. AppendsPrefix out.written out'.written x.out) (sym (is.is tt)) (prefix_whole out.written out'.written is.text is.written));
  leaves = record { whole = outcome_whole o shelf.holds out out' is.text line (refusal_status refusal) (is.is tt) is.written; quiet = record { shelf_is = refl; faults_are = is.faults_are }; is_line = line_at (is.is tt); words = λ same. absurd (traces_not_words refusal is.is_traces same); others = λ _ no. no; nothing_out = λ other. absurd (other is.is_traces) };
}
outcome_performs o shelf out out' (Err NoMemory) is = record { partial = outcome_partial o shelf.holds out out' (is.0 tt); leaves = record { shelf_is = refl; faults_are = is.1 } }
outcome_performs o shelf out out' (Err (Unread file)) is = absurd is
outcome_performs o shelf out out' (Err Unwritten) is = record { partial = outcome_partial o shelf.holds out out' (is.0 tt); leaves = record { shelf_is = refl; rose = is.1 } }

pub stream_ends : {shelf shelf' : ShelfState} {out out' : SinkState} {ended : Result (Unit {0}) Stop} (file : File) (name : List ℕ) (limit : ℕ) (expected : List ℕ → Outcome) (bytes : List ℕ) → ReadsWhole name limit shelf shelf' bytes → EndsWithOutcome (expected bytes) out out' ended → Performs (Ok (streams file name limit expected)) shelf shelf' out out' ended
stream_ends {shelf} {shelf'} {out} {out'} {ended} file name limit expected bytes whole is =
    reads_performs file name limit (λ b. ends (expected b)) shelf shelf' shelf' out out' bytes ended whole (outcome_performs (expected bytes) shelf' out out' ended is)

-- one more chunk of the file

front_more : (fed piece file : List ℕ) (n : ℕ) → fed ≡ take (length fed) file → length fed + n ≤ length file → piece ≡ take n (drop (length fed) file) → fed ++ piece ≡ take (length (fed ++ piece)) file
front_more fed piece file n front within is =
    let a = length fed in
    let long : length (fed ++ piece) ≡ a + n = omega (arith, length-append fed piece, ap length is, length-take n (drop a file), length-drop a file) in
    ap (λ xs. xs ++ piece) front ∙ ap (λ ys. take a file ++ ys) is ∙ sym (take-add a n file) ∙ ap (λ k. take k file) (sym long)

read_front : (fed piece : List ℕ) (n : ℕ) (file : Option (List ℕ)) → IsFront fed file → MatchOption file ⊥ (λ f. ReadsFile f (length fed) [] piece (Got n)) → IsFront (fed ++ piece) file
read_front fed piece n None front reads = absurd reads
read_front fed piece n (Some file) front reads = front_more fed piece file n front reads.0 reads.1

front_of : (file : Option (List ℕ)) → IsFront [] file
front_of None = refl
front_of (Some bytes) = refl

-- before the first read
pub front_begun : (told : Option Files) (name : List ℕ) → IsReadSoFar told name []
front_begun None name = tt
front_begun (Some files) name = front_of (files name)

into_front : (old new : List ℕ) (n : ℕ) (file : Option (List ℕ)) → IsFront old file → MatchOption file ⊥ (λ f. ReadsFile f (length old) old new (Got n)) → IsFront new file
into_front old new n None front reads = absurd reads
into_front old new n (Some file) front reads = reads.1 ∙ front_more old (take n (drop (length old) file)) file n front reads.0 refl ∙ ap (λ (l : List ℕ). take (length l) file) (sym reads.1)

-- a read behind what was read so far
pub read_into : (told : Option Files) (name old new : List ℕ) (at n : ℕ) → at ≡ length old → IsReadSoFar told name old → Reads told name at old new (Got n) → IsReadSoFar told name new
read_into None name old new at n same front reads = tt
read_into (Some files) name old new at n same front reads =
    into_front old new n (files name) front (subst (λ a. MatchOption (files name) ⊥ (λ f. ReadsFile f a old new (Got n))) same reads)

pub read_more : (told : Option Files) (name fed piece : List ℕ) (n : ℕ) → IsReadSoFar told name fed → Reads told name (length fed) [] piece (Got n) → IsReadSoFar told name (fed ++ piece)
read_more None name fed piece n front reads = tt
read_more (Some files) name fed piece n front reads = read_front fed piece n (files name) front reads

-- the end of the file, and the first byte above the limit

end_file : (limit : ℕ) (fed piece : List ℕ) (file : Option (List ℕ)) → IsFront fed file → length fed ≤ limit → MatchOption file ⊥ (λ f. ReadsFile f (length fed) [] piece End) → bytes_seen limit file ≡ Some fed
end_file limit fed piece None front within end = absurd end
end_file limit fed piece (Some file) front within end =
    ap (λ x. Some x) (take_all (limit + 1) file (omega arith) ∙ sym (take_all (length fed) file end) ∙ sym front)

pub read_end : (limit : ℕ) (told : Option Files) (name fed piece : List ℕ) → IsReadSoFar told name fed → length fed ≤ limit → Reads told name (length fed) [] piece End → IsReadWhole told name limit fed
read_end limit None name fed piece front within end = tt
read_end limit (Some files) name fed piece front within end = end_file limit fed piece (files name) front within end

full_file : (limit : ℕ) (fed : List ℕ) (file : Option (List ℕ)) → IsFront fed file → length fed ≡ limit + 1 → bytes_seen limit file ≡ Some fed
full_file limit fed None front full =
    let none : length fed ≡ 0 = ap length front in
    absurd (omega arith)
full_file limit fed (Some file) front full = ap (λ x. Some x) (ap (λ n. take n file) (sym full) ∙ sym front)

pub read_full : (limit : ℕ) (told : Option Files) (name fed : List ℕ) → IsReadSoFar told name fed → length fed ≡ limit + 1 → IsReadWhole told name limit fed
read_full limit None name fed front full = tt
read_full limit (Some files) name fed front full = full_file limit fed (files name) front full

-- the same shelf
pub read_on : {name : List ℕ} {limit : ℕ} {expected : List ℕ → Outcome} {shelf shelf' shelf'' : ShelfState} {out out' : SinkState} {fed : List ℕ} → IsStreaming name limit expected shelf shelf' out out' fed → shelf'' ≡ shelf' → IsStreaming name limit expected shelf shelf'' out out' fed
read_on is same = record { shelf_is = same ∙ is.shelf_is; front = is.front; within = is.within; written = is.written; nothing = is.nothing; faults_are = is.faults_are }
