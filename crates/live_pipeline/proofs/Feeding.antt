-- What a chunk and the end of a file bring.
use Rattle.std.proofs.Common.{◌≡◌, ℕ, ◌<◌, ◌^◌, List, [], ◌++◌, length, Result, Ok, Err, refl, sym, ◌∙◌, ap, subst, arith, append_assoc, append-nil, length-append}
use Rattle.program_frame.specs.Jobs.{IsBounded}
use Rattle.program_frame.proofs.Bounds.{bounded_closed, bounded_file, bounded_front}
use Rattle.program_frame.proofs.ChunkEnds.{length-StandsFor}
use Rattle.trace_reader.specs.Reading.{closed, file_traces}
use Rattle.trace_reader.specs.Reader.{Feeds, Finishes}
use Rattle.trace_reader.specs.declared.reader.TraceReader.{TraceReader}
use Rattle.trace_reader.specs.declared.trace.Trace.{Trace}
use Rattle.trace_reader.specs.declared.fault.TraceFault.{TraceFault}
use Rattle.live_pipeline.specs.Order.{AreBounded}
use Rattle.live_pipeline.specs.Pieces.{parts_of}
use Rattle.live_pipeline.specs.declared.part.Part.{Part}
use Rattle.live_pipeline.specs.inside.Feeding.{HasFed, PutsChunk, PutsFile}
use Rattle.live_pipeline.proofs.Puts.{bounded_parts, put_more}

-- the list has the first of what a chunk closes
feeds_due : (fed chunk : List ℕ) (after : TraceReader) (old into : List Trace) (ended : Result (Unit {0}) TraceFault) → old ≡ [] → Feeds fed chunk after old into ended → (rest : List Trace) × (closed (fed ++ chunk) ≡ (closed fed ++ into) ++ rest)
feeds_due fed chunk after old into (Ok done) none feeds =
    let is : into ≡ feeds.1.more = feeds.1.grown ∙ ap (λ (l : List Trace). l ++ feeds.1.more) none in
    ([], feeds.1.due ∙ ap (λ (l : List Trace). closed fed ++ l) (sym is) ∙ sym (append-nil (closed fed ++ into)))
feeds_due fed chunk after old into (Err fault) none fails =
    let is : into ≡ fails.more = fails.grown ∙ ap (λ (l : List Trace). l ++ fails.more) none in
    (fails.rest, fails.due ∙ ap (λ (l : List Trace). closed fed ++ (l ++ fails.rest)) (sym is) ∙ sym (append_assoc (closed fed) into fails.rest))

pub feeds_bounded : (fed chunk : List ℕ) (reader after : TraceReader) (put : List Part) (old into : List Trace) (ended : Result (Unit {0}) TraceFault) → HasFed fed reader put → length chunk < 2 ^ 32 → old ≡ [] → Feeds fed chunk after old into ended → AreBounded (put ++ parts_of into)
feeds_bounded fed chunk reader after put old into ended has short none feeds =
    let due = feeds_due fed chunk after old into ended none feeds in
    let long = length-StandsFor reader fed has.stands in
    let all : IsBounded (closed (fed ++ chunk)) = bounded_closed (fed ++ chunk) (omega (arith, long, length-append fed chunk)) in
    bounded_parts (put ++ parts_of into) (closed fed ++ into) (put_more put (put ++ parts_of into) (closed fed) into has.put_are refl) (bounded_front (closed fed ++ into) due.0 (subst IsBounded due.1 all))

pub feeds_put : (fed chunk : List ℕ) (after : TraceReader) (put now : List Part) (old into : List Trace) (ended : Result (Unit {0}) TraceFault) → put ≡ parts_of (closed fed) → old ≡ [] → now ≡ put ++ parts_of into → Feeds fed chunk after old into ended → PutsChunk (fed ++ chunk) after now ended
feeds_put fed chunk after put now old into (Ok done) is none grown feeds =
    let same : into ≡ feeds.1.more = feeds.1.grown ∙ ap (λ (l : List Trace). l ++ feeds.1.more) none in
    record {
      stands = feeds.0;
      put_are = put_more put now (closed fed) into is grown ∙ ap parts_of (ap (λ (l : List Trace). closed fed ++ l) same ∙ sym feeds.1.due);
    }
feeds_put fed chunk after put now old into (Err fault) is none grown fails =
    let same : into ≡ fails.more = fails.grown ∙ ap (λ (l : List Trace). l ++ fails.more) none in (
      record {
        traces = closed fed ++ into;
        rest = fails.rest;
        put_are = put_more put now (closed fed) into is grown;
        due_are = fails.due ∙ ap (λ (l : List Trace). closed fed ++ (l ++ fails.rest)) (sym same) ∙ sym (append_assoc (closed fed) into fails.rest);
        all = λ known. (fails.known known).0;
      },
      λ known. (fails.known known).1,
    )

-- the list has the first of what the end closes
ends_due : (fed : List ℕ) (after : TraceReader) (old into : List Trace) (ended : Result (Unit {0}) TraceFault) → old ≡ [] → Finishes fed after old into ended → (rest : List Trace) × (file_traces fed ≡ (closed fed ++ into) ++ rest)
ends_due fed after old into (Ok done) none ends =
    let is : into ≡ ends.more = ends.grown ∙ ap (λ (l : List Trace). l ++ ends.more) none in
    ([], ends.due ∙ ap (λ (l : List Trace). closed fed ++ l) (sym is) ∙ sym (append-nil (closed fed ++ into)))
ends_due fed after old into (Err fault) none ends =
    let is : into ≡ ends.more = ends.grown ∙ ap (λ (l : List Trace). l ++ ends.more) none in
    (ends.rest, ends.due ∙ ap (λ (l : List Trace). closed fed ++ (l ++ ends.rest)) (sym is) ∙ sym (append_assoc (closed fed) into ends.rest))

pub ends_bounded : (fed : List ℕ) (reader after : TraceReader) (put : List Part) (old into : List Trace) (ended : Result (Unit {0}) TraceFault) → HasFed fed reader put → old ≡ [] → Finishes fed after old into ended → AreBounded (put ++ parts_of into)
ends_bounded fed reader after put old into ended has none ends =
    let due = ends_due fed after old into ended none ends in
    let long = length-StandsFor reader fed has.stands in
    let all : IsBounded (file_traces fed) = bounded_file fed (omega (arith, long)) in
    bounded_parts (put ++ parts_of into) (closed fed ++ into) (put_more put (put ++ parts_of into) (closed fed) into has.put_are refl) (bounded_front (closed fed ++ into) due.0 (subst IsBounded due.1 all))

pub ends_put : (fed : List ℕ) (after : TraceReader) (put now : List Part) (old into : List Trace) (ended : Result (Unit {0}) TraceFault) → put ≡ parts_of (closed fed) → old ≡ [] → now ≡ put ++ parts_of into → Finishes fed after old into ended → PutsFile fed now ended
ends_put fed after put now old into (Ok done) is none grown ends =
    let same : into ≡ ends.more = ends.grown ∙ ap (λ (l : List Trace). l ++ ends.more) none in
    (put_more put now (closed fed) into is grown ∙ ap parts_of (ap (λ (l : List Trace). closed fed ++ l) same ∙ sym ends.due), ends.faultless)
ends_put fed after put now old into (Err fault) is none grown ends =
    let same : into ≡ ends.more = ends.grown ∙ ap (λ (l : List Trace). l ++ ends.more) none in (
      record {
        traces = closed fed ++ into;
        rest = ends.rest;
        put_are = put_more put now (closed fed) into is grown;
        due_are = ends.due ∙ ap (λ (l : List Trace). closed fed ++ (l ++ ends.rest)) (sym same) ∙ sym (append_assoc (closed fed) into ends.rest);
        all = λ known. (ends.known known).0;
      },
      λ known. (ends.known known).1,
    )
