-- What callers need of the words on a file's bytes.
use Rattle.std.proofs.Common.{◌≡◌, ℕ, ◌+◌, ◌<◌, ◌≤◌, Bool, true, false, ◌==◌, cond, nat_le, List, ◌++◌, [], ◌∷◌, length, IsSome, Some, None, Result, Ok, Err, refl, sym, ◌∙◌, ap, subst, arith, append_assoc, append-nil}
use Rattle.std.proofs.lemmas.Bool.{leb-false}
use Rattle.trace_reader.specs.Content.{Content, read_line}
use Rattle.trace_reader.specs.Reader.{StandsFor}
use Rattle.trace_reader.specs.Reading.{Progress, Reading, reads, refused, read_byte, read_bytes, reading_of, nothing_read, end_line, closed, closed_of, fault_in, fault_of, end_reading, file_traces, file_fault, file_limit, line_limit}
use Rattle.trace_reader.specs.declared.trace.Trace.{Trace}
use Rattle.trace_reader.specs.declared.reader.TraceReader.{TraceReader}
use Rattle.trace_reader.specs.declared.fault.TraceFault.{TraceFault}
use Rattle.trace_reader.proofs.Feeding.{reading_of-append}
use Rattle.trace_reader.proofs.Growing.{closed_grows, end_reading-with_closed}
use Rattle.trace_reader.proofs.Unended.{refused_stays}

-- more bytes close more traces, after the ones before
pub closed-append : (bytes later : List ℕ) → (more : List Trace) × (closed (bytes ++ later) ≡ closed bytes ++ more)
unfolding closed
closed-append bytes later =
    let grown = closed_grows (reading_of bytes) later in (grown.0, ap closed_of (reading_of-append bytes later) ∙ grown.1)

known_refused : (reading : Reading) (fault : TraceFault) → fault_of reading ≡ Some fault → reading ≡ refused (closed_of reading) fault
known_refused (reads p) fault known = absurd (cc known)
known_refused (refused closed other) fault known = ap (refused closed) (cc known)

refused-append : (bytes later : List ℕ) (fault : TraceFault) → fault_in bytes ≡ Some fault → reading_of (bytes ++ later) ≡ refused (closed bytes) fault
unfolding closed fault_in
refused-append bytes later fault known =
    reading_of-append bytes later ∙ ap (λ r. read_bytes r later) (known_refused (reading_of bytes) fault known) ∙ refused_stays (closed_of (reading_of bytes)) fault later

-- a fault that is known stays the fault, whatever follows, and nothing is closed after it
pub fault_in_stays : (bytes later : List ℕ) (fault : TraceFault) → fault_in bytes ≡ Some fault → fault_in (bytes ++ later) ≡ Some fault
unfolding fault_in
fault_in_stays bytes later fault known = ap fault_of (refused-append bytes later fault known)

pub closed_stays : (bytes later : List ℕ) (fault : TraceFault) → fault_in bytes ≡ Some fault → closed (bytes ++ later) ≡ closed bytes
unfolding closed
closed_stays bytes later fault known = ap closed_of (refused-append bytes later fault known)

-- it is the fault of the whole file, whose traces are those closed before it
pub file_fault_known : (bytes later : List ℕ) (fault : TraceFault) → fault_in bytes ≡ Some fault → file_fault (bytes ++ later) ≡ Some fault
unfolding file_fault
file_fault_known bytes later fault known = ap (λ r. (end_reading r).fault) (refused-append bytes later fault known)

pub file_traces_known : (bytes later : List ℕ) (fault : TraceFault) → fault_in bytes ≡ Some fault → file_traces (bytes ++ later) ≡ closed bytes
unfolding file_traces
file_traces_known bytes later fault known = ap (λ r. (end_reading r).traces) (refused-append bytes later fault known)

end_grows : (reading : Reading) → (rest : List Trace) × ((end_reading reading).traces ≡ closed_of reading ++ rest)
end_grows (reads p) = ((end_reading (reads (record p { content = record p.content { closed = [] } }))).traces, ap (λ o. o.traces) (end_reading-with_closed p p.content.closed))
end_grows (refused closed fault) = ([], sym (append-nil closed))

-- the traces of a file begin with those that are closed in its front
pub file_traces-append : (bytes later : List ℕ) → (more : List Trace) × (file_traces (bytes ++ later) ≡ closed bytes ++ more)
unfolding closed file_traces
file_traces-append bytes later =
    let grown = closed_grows (reading_of bytes) later in
    let rest = end_grows (reading_of (bytes ++ later)) in (
      grown.0 ++ rest.0,
      rest.1 ∙ ap (λ xs. xs ++ rest.0) (ap closed_of (reading_of-append bytes later) ∙ grown.1) ∙ append_assoc (closed_of (reading_of bytes)) grown.0 rest.0,
    )

-- a file above the limit has a fault
IsCounted : Reading → ℕ → Type 0
IsCounted (reads p) n = (p.bytes ≡ n) × (n ≤ file_limit)
IsCounted (refused closed fault) n = Unit {0}

by_choice : (P : Reading → Type 0) (b : Bool) (x y : Reading) → (b ≡ true → P x) → (b ≡ false → P y) → P (cond b x y)
by_choice P true x y f g = f refl
by_choice P false x y f g = g refl

counted_line : (p : Progress) (read : Result Content TraceFault) (n : ℕ) → p.bytes ≡ n → n < file_limit → IsCounted (end_line p read) (n + 1)
unfolding IsCounted
counted_line p (Ok content) n e h = (omega arith, omega arith)
counted_line p (Err fault) n e h = tt

counted_byte : (reading : Reading) (n b : ℕ) → IsCounted reading n → IsCounted (read_byte reading b) (n + 1)
unfolding IsCounted read_byte
counted_byte (refused closed fault) n b counted = tt
counted_byte (reads p) n b counted =
    by_choice (λ r. IsCounted r (n + 1)) (nat_le file_limit p.bytes) _ _ (λ _. tt) (λ file.
    let below : n < file_limit = let h = leb-false file_limit p.bytes file in let e = counted.0 in omega arith in
    by_choice (λ r. IsCounted r (n + 1)) (b == 10) _ _ (λ _. counted_line p (read_line (p.lines + 1) p.content p.line) n counted.0 below) (λ _.
    by_choice (λ r. IsCounted r (n + 1)) (nat_le line_limit (length p.line)) _ _ (λ _. tt) (λ _. (let e = counted.0 in omega arith, omega arith))))

counted_bytes : (bytes : List ℕ) (reading : Reading) (n : ℕ) → IsCounted reading n → IsCounted (read_bytes reading bytes) (n + length bytes)
counted_bytes [] reading n counted = subst (IsCounted reading) (omega arith) counted
counted_bytes (b ∷ bytes) reading n counted =
    subst (IsCounted (read_bytes (read_byte reading b) bytes)) (omega arith) (counted_bytes bytes (read_byte reading b) (n + 1) (counted_byte reading n b counted))

too_long : (reading : Reading) (n : ℕ) → IsCounted reading n → file_limit < n → IsSome (fault_of reading)
unfolding IsCounted
too_long (reads p) n counted long = absurd (omega arith)
too_long (refused closed fault) n counted long = refl

pub fault_in_long : (bytes : List ℕ) → file_limit < length bytes → IsSome (fault_in bytes)
unfolding fault_in reading_of IsCounted
fault_in_long bytes long =
    too_long (reading_of bytes) (length bytes) (subst (IsCounted (read_bytes (reads nothing_read) bytes)) (omega arith) (counted_bytes bytes (reads nothing_read) 0 (refl, omega arith))) long

-- what a reader stands for has no fault
pub fault_in-StandsFor : (reader : TraceReader) (fed : List ℕ) → StandsFor reader fed → fault_in fed ≡ None
unfolding fault_in
fault_in-StandsFor reader fed stands = ap fault_of stands.reading

pub closed-none : closed [] ≡ []
unfolding closed reading_of
closed-none = refl
