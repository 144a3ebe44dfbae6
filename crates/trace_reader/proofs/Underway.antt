-- The lines of a chunk, one after the other.
use Rattle.std.proofs.Common.{◌≡◌, ℕ, ◌+◌, ◌-◌, ◌<◌, false, List, ◌++◌, length, take, drop, Option, Some, None, sym, ◌∙◌, ap, inl, inr, arith, length-append, length-drop}
use Rattle.std.proofs.Math.Seq.{take-add}
use Rattle.std.proofs.lemmas.Bool.{leb-false, cases_lt}
use Rattle.std.proofs.lemmas.List.{take-append-drop}
use Rattle.std.proofs.lemmas.List.Sums.{fold-append}
use Rattle.trace_reader.specs.inside.Parts.{is_reached}
use Rattle.trace_reader.specs.Reading.{refused, read_byte, read_bytes, closed_of}
use Rattle.trace_reader.specs.inside.Steps.{start_of, Reaches, Refuses, TakesLine, IsUnderway, FailsLines}
use Rattle.trace_reader.specs.declared.reader.TraceReader.{TraceReader}
use Rattle.trace_reader.specs.declared.trace.Trace.{Trace}
use Rattle.trace_reader.specs.declared.fault.TraceFault.{TraceFault}
use Rattle.trace_reader.proofs.Growing.{closed_grows}

-- what follows the bytes that were taken is read from where they led
read_on : (before : TraceReader) (chunk : List ℕ) (old : List Trace) (taken n : ℕ) (reader : TraceReader) (into : List Trace) → Reaches before (take taken chunk) old reader into
    → read_bytes (start_of before old) (take (taken + n) chunk) ≡ read_bytes (start_of reader into) (take n (drop taken chunk))
read_on before chunk old taken n reader into reached =
    ap (read_bytes (start_of before old)) (take-add taken n chunk)
    ∙ fold-append read_byte (start_of before old) (take taken chunk) (take n (drop taken chunk))
    ∙ ap (λ r. read_bytes r (take n (drop taken chunk))) reached

read_rest : (before : TraceReader) (chunk : List ℕ) (old : List Trace) (taken : ℕ) (reader : TraceReader) (into : List Trace) → Reaches before (take taken chunk) old reader into
    → read_bytes (start_of before old) chunk ≡ read_bytes (start_of reader into) (drop taken chunk)
read_rest before chunk old taken reader into reached =
    ap (read_bytes (start_of before old)) (sym (take-append-drop taken chunk))
    ∙ fold-append read_byte (start_of before old) (take taken chunk) (drop taken chunk)
    ∙ ap (λ r. read_bytes r (drop taken chunk)) reached

grown : (before : TraceReader) (bytes : List ℕ) (old : List Trace) (after : TraceReader) (new : List Trace) → Reaches before bytes old after new → (more : List Trace) × (new ≡ old ++ more)
grown before bytes old after new reached =
    let more = closed_grows (start_of before old) bytes in
    (more.0, sym (ap closed_of reached) ∙ more.1)

pub few : (most : Option ℕ) (m closed : ℕ) → most ≡ Some m → is_reached most closed ≡ false → closed < m
few None m closed e h = absurd (cc e)
few (Some n) m closed e h =
    let same : n ≡ m = cc e in
    let below = leb-false n closed h in
    omega arith

pub underway_more : (before : TraceReader) (chunk : List ℕ) (most : Option ℕ) (old : List Trace) (taken n : ℕ) (reader after : TraceReader) (into new : List Trace)
    → IsUnderway before chunk most old taken reader into → is_reached most (length into - length old) ≡ false → TakesLine reader (drop taken chunk) into n after new
    → IsUnderway before chunk most old (taken + n) after new
underway_more before chunk most old taken n reader after into new underway open_end takes =
    let more = grown reader (take n (drop taken chunk)) into after new takes.reached in
    let lengths = ap length more.1 in
    record {
      within = omega (arith, length-drop taken chunk, underway.within, takes.within);
      reached = read_on before chunk old taken n reader into underway.reached ∙ takes.reached;
      longer = omega (arith, lengths, length-append into more.0, underway.longer);
      no_more = λ m e. let below = few most m (length into - length old) e open_end in omega (arith, takes.one, underway.longer);
      fewer = λ k h. elim (cases_lt k taken) [
        | inl below ↦ underway.fewer k below
        | inr above ↦
            let at : taken + (k - taken) ≡ k = omega arith in
            let quiet = read_on before chunk old taken (k - taken) reader into underway.reached in
            let here : closed_of (read_bytes (start_of before old) (take k chunk)) ≡ into =
            ap (λ i. closed_of (read_bytes (start_of before old) (take i chunk))) (sym at) ∙ ap closed_of quiet ∙ takes.quiet (k - taken) (omega arith) in
            ap (λ closed. is_reached most (length closed - length old)) here ∙ open_end
      ];
    }

pub fails_underway : (before : TraceReader) (chunk : List ℕ) (most : Option ℕ) (old : List Trace) (taken : ℕ) (reader : TraceReader) (into new : List Trace) (fault : TraceFault)
    → IsUnderway before chunk most old taken reader into → is_reached most (length into - length old) ≡ false → Refuses reader (drop taken chunk) into fault → new ≡ into
    → FailsLines before chunk most old fault new
fails_underway before chunk most old taken reader into new fault underway open_end refuses same =
    let more = grown before (take taken chunk) old reader into underway.reached in
    let rest = closed_grows (start_of reader into) (drop taken chunk) in
    let onward = read_rest before chunk old taken reader into underway.reached in
    record {
      known = λ known. onward ∙ refuses known ∙ ap (λ closed. refused closed fault) (sym same);
      more = more.0;
      grown = same ∙ more.1;
      rest = rest.0;
      due = ap closed_of onward ∙ rest.1 ∙ ap (λ closed. closed ++ rest.0) (sym same);
      fewer = ap (λ closed. is_reached most (length closed - length old)) same ∙ open_end;
    }
