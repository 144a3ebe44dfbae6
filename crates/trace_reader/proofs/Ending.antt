-- The end of the file.
use Rattle.std.proofs.Common.{◌≡◌, ◌≢◌, ℕ, ◌+◌, List, [], ◌++◌, Option, Some, None, Result, Ok, Err, option_to_list, refl, sym, ◌∙◌, ap, append_assoc, append-nil}
use Rattle.trace_reader.specs.Content.{Content, read_line}
use Rattle.trace_reader.specs.Reading.{reads, reading_of, nothing_read, closed, end_content, end_read, end_reading, file_traces, file_fault}
use Rattle.trace_reader.specs.Reader.{progress_of, content_of, StandsFor, Ends, EndsFaulty}
use Rattle.trace_reader.specs.inside.Steps.{start_of, EndsFile, FailsEnd}
use Rattle.trace_reader.specs.declared.row.Header.{Header}
use Rattle.trace_reader.specs.declared.reader.TraceReader.{TraceReader}
use Rattle.trace_reader.specs.declared.trace.Trace.{Trace}
use Rattle.trace_reader.specs.declared.fault.TraceFault.{TraceFault}
use Rattle.trace_reader.specs.declared.fault.TraceFault.TheVariants.{Memory}
use Rattle.trace_reader.proofs.Growing.{end_reading-with_closed, content_onto, read_onto, read_line-onto}
use Rattle.trace_reader.proofs.Feeding.{append_cancel, closed-stands}

-- the last line is refused, or memory ran out in it
pub fails_in_rest : (before : TraceReader) (old new : List Trace) (fault : TraceFault) → new ≡ old
    → (fault ≢ Memory → read_line (before.lines + 1) (content_of before.content old) before.line ≡ Err fault) → FailsEnd before old fault new
fails_in_rest before old new fault same refuses =
    let p = progress_of before [] in
    record {
      more = [];
      grown = same ∙ sym (append-nil old);
      rest = (end_reading (reads p)).traces;
      due = ap (λ o. o.traces) (end_reading-with_closed p old) ∙ ap (λ xs. xs ++ (end_reading (reads p)).traces) (sym same);
      known = λ known. ap (end_read (content_of before.content old)) (refuses known) ∙ ap (λ xs. record { traces = xs; fault = Some fault }) (sym same);
    }

end_content-traces : (header : Option Header) (content : Content) → (rest : List Trace) × ((end_content content header).traces ≡ content.closed ++ rest)
end_content-traces None content = ([], sym (append-nil content.closed))
end_content-traces (Some header) content = (option_to_list content.open_trace, refl)

ok_onto : (given : List Trace) (read : Result Content TraceFault) (after : Content) → read_onto given read ≡ Ok after → (more : List Trace) × (after.closed ≡ given ++ more)
ok_onto given (Err fault) after e = absurd (cc e)
ok_onto given (Ok content) after e =
    let same : content_onto given content ≡ after = cc e in
    (content.closed, sym (ap (λ c. c.closed) same))

-- what a line closes stands after what was closed before
line_grows : (line : ℕ) (content after : Content) (bytes : List ℕ) → read_line line content bytes ≡ Ok after → (more : List Trace) × (after.closed ≡ content.closed ++ more)
line_grows line content after bytes read =
    let none : Content = record { header = content.header; closed = []; open_trace = content.open_trace } in
    ok_onto content.closed (read_line line none bytes) after
    (sym (read_line-onto content.closed line none bytes)
    ∙ ap (λ xs. read_line line (record { header = content.header; closed = xs; open_trace = content.open_trace }) bytes) (append-nil content.closed)
    ∙ read)

-- there is no header at the end, or memory ran out for the open trace
pub fails_in_end : (before : TraceReader) (old new : List Trace) (content : Content) (fault : TraceFault) → read_line (before.lines + 1) (content_of before.content old) before.line ≡ Ok content
    → new ≡ content.closed → (fault ≢ Memory → end_content content content.header ≡ record { traces = content.closed; fault = Some fault }) → FailsEnd before old fault new
fails_in_end before old new content fault read same refuses =
    let more = line_grows (before.lines + 1) (content_of before.content old) content before.line read in
    let rest = end_content-traces content.header content in
    let ends : end_reading (start_of before old) ≡ end_content content content.header = ap (end_read (content_of before.content old)) read in
    record {
      more = more.0;
      grown = same ∙ more.1;
      rest = rest.0;
      due = ap (λ o. o.traces) ends ∙ rest.1 ∙ ap (λ xs. xs ++ rest.0) (sym same);
      known = λ known. ends ∙ refuses known ∙ ap (λ xs. record { traces = xs; fault = Some fault }) (sym same);
    }

-- for the bytes that the reader stands for

traces-fed : (reader : TraceReader) (fed : List ℕ) → StandsFor reader fed → file_traces fed ≡ closed fed ++ (end_reading (reads (progress_of reader []))).traces
unfolding file_traces
traces-fed reader fed stands =
    ap (λ r. (end_reading r).traces) stands.reading
    ∙ ap (λ o. o.traces) (end_reading-with_closed (progress_of reader []) stands.given)
    ∙ ap (λ given. given ++ (end_reading (reads (progress_of reader []))).traces) (sym (closed-stands reader fed stands))

fault-fed : (reader : TraceReader) (fed : List ℕ) → StandsFor reader fed → file_fault fed ≡ (end_reading (reads (progress_of reader []))).fault
unfolding file_fault
fault-fed reader fed stands =
    ap (λ r. (end_reading r).fault) stands.reading
    ∙ ap (λ o. o.fault) (end_reading-with_closed (progress_of reader []) stands.given)

stands_anew : (reader : TraceReader) → progress_of reader [] ≡ nothing_read → reader.fault ≡ None → StandsFor reader []
unfolding reading_of
stands_anew reader anew sound = record { given = []; reading = ap reads (sym anew); sound = sound }

pub ends_ok : (before after : TraceReader) (fed : List ℕ) (old new : List Trace) → StandsFor before fed → EndsFile before old after new → after.fault ≡ None → Ends fed after old new
ends_ok before after fed old new stands ends sound =
    let from_old = end_reading-with_closed (progress_of before []) old in
    record {
      anew = stands_anew after ends.anew sound;
      more = (end_reading (reads (progress_of before []))).traces;
      grown = sym (ap (λ o. o.traces) ends.outcome) ∙ ap (λ o. o.traces) from_old;
      due = traces-fed before fed stands;
      faultless = fault-fed before fed stands ∙ sym (ap (λ o. o.fault) from_old) ∙ ap (λ o. o.fault) ends.outcome;
    }

pub ends_err : (before : TraceReader) (fed : List ℕ) (old new : List Trace) (fault : TraceFault) → StandsFor before fed → FailsEnd before old fault new → EndsFaulty fed old new fault
ends_err before fed old new fault stands fails =
    let traces = (end_reading (reads (progress_of before []))).traces in
    let from_old = end_reading-with_closed (progress_of before []) old in
    let all : old ++ traces ≡ new ++ fails.rest = sym (ap (λ o. o.traces) from_old) ∙ fails.due in
    let parts : traces ≡ fails.more ++ fails.rest =
    append_cancel old _ _ (all ∙ ap (λ xs. xs ++ fails.rest) fails.grown ∙ append_assoc old fails.more fails.rest) in
    record {
      more = fails.more;
      rest = fails.rest;
      grown = fails.grown;
      due = traces-fed before fed stands ∙ ap (λ xs. closed fed ++ xs) parts;
      known = λ known.
          let outcome = fails.known known in (
            append_cancel new _ _ (sym fails.due ∙ ap (λ o. o.traces) outcome ∙ sym (append-nil new)),
            fault-fed before fed stands ∙ sym (ap (λ o. o.fault) from_old) ∙ ap (λ o. o.fault) outcome,
          );
    }
