-- What the parts of a call leave, seen from where it began.
use Rattle.std.specs.Prelude.{◌≡◌, ◌≢◌, ℕ, ◌+◌, ◌-◌, ◌<◌, ◌≤◌, false, List, [], ◌∷◌, ◌++◌, length, take, ◌⊎◌, Option, Some, None}
use Rattle.trace_reader.specs.Reading.{Reading, reads, refused, read_bytes, closed_of, file_limit, line_limit, end_reading, nothing_read}
use Rattle.trace_reader.specs.inside.Parts.{is_reached}
use Rattle.trace_reader.specs.Reader.{progress_of}
use Rattle.trace_reader.specs.declared.reader.TraceReader.{TraceReader}
use Rattle.trace_reader.specs.declared.trace.Trace.{Trace}
use Rattle.trace_reader.specs.declared.fault.TraceFault.{TraceFault}
use Rattle.trace_reader.specs.declared.fault.TraceFault.TheVariants.{FileTooLong, LineTooLong, Memory}

-- where a call begins: what was handed out is in the list
abbrev pub start_of : TraceReader → List Trace → Reading
start_of reader given = reads (progress_of reader given)

-- this many bytes more of the line that has begun pass a limit, first that of the file or first its own
abbrev pub Exceeds : TraceReader → ℕ → TraceFault → Type 0
Exceeds reader more fault =
    ((fault ≡ FileTooLong)
    × (file_limit < reader.bytes + more)
    × (file_limit + length reader.line ≤ reader.bytes + line_limit))
    ⊎ ((fault ≡ LineTooLong (reader.lines + 1))
    × (line_limit < length reader.line + more)
    × (reader.bytes + line_limit < file_limit + length reader.line))

-- this many bytes more pass no limit
pub record HasRoom (reader : TraceReader) (more : ℕ) : Type 0 where
  pub file : reader.bytes + more ≤ file_limit
  pub line : length reader.line + more ≤ line_limit

-- these bytes lead from one state of the reader and the list to another
abbrev pub Reaches : TraceReader → List ℕ → List Trace → TraceReader → List Trace → Type 0
Reaches before bytes old after new = read_bytes (start_of before old) bytes ≡ start_of after new

-- these bytes have this fault, unless memory ran out
abbrev pub Refuses : TraceReader → List ℕ → List Trace → TraceFault → Type 0
Refuses before bytes old fault =
    fault ≢ Memory → read_bytes (start_of before old) bytes ≡ refused old fault

-- the last bytes of a line and its LF were taken
pub record EndsLine (before : TraceReader) (part : List ℕ) (old : List Trace) (after : TraceReader)
    (new : List Trace) : Type 0 where
  pub reached : Reaches before (part ++ 10 ∷ []) old after new
  pub one : length new ≤ length old + 1

-- the first n bytes were taken, of which only the last may close a trace
pub record TakesLine (before : TraceReader) (bytes : List ℕ) (old : List Trace) (n : ℕ)
    (after : TraceReader) (new : List Trace) : Type 0 where
  pub some : 0 < n
  pub within : n ≤ length bytes
  pub reached : Reaches before (take n bytes) old after new
  pub quiet : (k : ℕ) → k < n → closed_of (read_bytes (start_of before old) (take k bytes)) ≡ old
  pub one : length new ≤ length old + 1

-- the first n bytes of a chunk were taken
pub record TakesLines (before : TraceReader) (chunk : List ℕ) (most : Option ℕ) (old : List Trace)
    (n : ℕ) (after : TraceReader) (new : List Trace) : Type 0 where
  pub within : n ≤ length chunk
  pub reached : Reaches before (take n chunk) old after new
  pub whole : is_reached most (length new - length old) ≡ false → n ≡ length chunk
  pub no_more : (m : ℕ) → most ≡ Some m → length new ≤ length old + m
  pub fewer : (k : ℕ) → k < n
      → is_reached most
      (length (closed_of (read_bytes (start_of before old) (take k chunk))) - length old)
      ≡ false

-- a chunk has a fault, or memory ran out; what was appended is closed before
pub record FailsLines (before : TraceReader) (chunk : List ℕ) (most : Option ℕ) (old : List Trace)
    (fault : TraceFault) (new : List Trace) : Type 0 where
  pub known : fault ≢ Memory → read_bytes (start_of before old) chunk ≡ refused new fault
  pub more : List Trace
  pub grown : new ≡ old ++ more
  pub rest : List Trace
  pub due : closed_of (read_bytes (start_of before old) chunk) ≡ new ++ rest
  pub fewer : is_reached most (length new - length old) ≡ false

-- the first bytes of a chunk were taken, and more may follow
pub record IsUnderway (before : TraceReader) (chunk : List ℕ) (most : Option ℕ) (old : List Trace)
    (taken : ℕ) (reader : TraceReader) (into : List Trace) : Type 0 where
  pub within : taken ≤ length chunk
  pub reached : Reaches before (take taken chunk) old reader into
  pub longer : length old ≤ length into
  pub no_more : (m : ℕ) → most ≡ Some m → length into ≤ length old + m
  pub fewer : (k : ℕ) → k < taken
      → is_reached most
      (length (closed_of (read_bytes (start_of before old) (take k chunk))) - length old)
      ≡ false

-- the reader was at the end of the file: the other traces were appended, and it begins anew
pub record EndsFile (before : TraceReader) (old : List Trace) (after : TraceReader)
    (new : List Trace) : Type 0 where
  pub outcome : end_reading (start_of before old) ≡ record { traces = new; fault = None }
  pub anew : progress_of after [] ≡ nothing_read

-- the file has a fault at its end, or memory ran out
pub record FailsEnd (before : TraceReader) (old : List Trace) (fault : TraceFault)
    (new : List Trace) : Type 0 where
  pub more : List Trace
  pub grown : new ≡ old ++ more
  pub rest : List Trace
  pub due : (end_reading (start_of before old)).traces ≡ new ++ rest
  pub known : fault ≢ Memory
      → end_reading (start_of before old) ≡ record { traces = new; fault = Some fault }
