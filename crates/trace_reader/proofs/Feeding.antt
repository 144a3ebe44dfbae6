-- What a call leaves, for the bytes that the reader stands for.
use Rattle.std.proofs.Common.{◌≡◌, ℕ, ◌+◌, ◌-◌, ◌<◌, List, [], ◌∷◌, ◌++◌, length, take, Option, Some, None, refl, sym, ◌∙◌, ap, arith, append_assoc, append-nil, length-append}
use Rattle.std.proofs.lemmas.Bool.{lt-leb}
use Rattle.std.proofs.lemmas.List.Sums.{fold-append}
use Rattle.trace_reader.specs.Reading.{Progress, Reading, reads, refused, read_byte, read_bytes, reading_of, nothing_read, closed, closed_of, fault_in, fault_of}
use Rattle.trace_reader.specs.Reader.{progress_of, StandsFor, Closes, Fails, Takes}
use Rattle.trace_reader.specs.inside.Steps.{start_of, Reaches, TakesLines, FailsLines}
use Rattle.trace_reader.specs.declared.reader.TraceReader.{TraceReader}
use Rattle.trace_reader.specs.declared.trace.Trace.{Trace}
use Rattle.trace_reader.specs.declared.fault.TraceFault.{TraceFault}
use Rattle.trace_reader.proofs.Growing.{onto, progress_onto, with_closed, brought, read_bytes-with_closed, closed_of-read_bytes}
use Rattle.trace_reader.proofs.Underway.{few}

pub append_cancel : (xs ys zs : List Trace) → xs ++ ys ≡ xs ++ zs → ys ≡ zs
append_cancel [] ys zs e = e
append_cancel (x ∷ xs) ys zs e = append_cancel xs ys zs (cc e)

-- what was given before is put in front; the rest of the reading stays
abbrev progress_in : Reading → Progress
progress_in (reads p) = p
progress_in (refused closed fault) = nothing_read

given_reads : (reading : Reading) (q : Progress) (old new given : List Trace) → onto old reading ≡ reads (with_closed q new)
    → (new ≡ old ++ closed_of reading) × (onto given reading ≡ reads (with_closed q (given ++ closed_of reading)))
given_reads (refused closed fault) q old new given e = absurd (cc e)
given_reads (reads s) q old new given e =
    let same : progress_onto old s ≡ with_closed q new = ap progress_in e in
    (sym (ap (λ p. p.content.closed) same), ap (λ p. reads (with_closed p (given ++ s.content.closed))) same)

given_refused : (reading : Reading) (old new given : List Trace) (fault : TraceFault) → onto old reading ≡ refused new fault
    → (new ≡ old ++ closed_of reading) × (onto given reading ≡ refused (given ++ closed_of reading) fault)
given_refused (reads s) old new given fault e = absurd (cc e)
given_refused (refused closed other) old new given fault e =
    (sym (ap closed_of e), ap (λ f. refused (given ++ closed) f) (cc e))

pub reading_of-append : (fed bytes : List ℕ) → reading_of (fed ++ bytes) ≡ read_bytes (reading_of fed) bytes
unfolding reading_of
reading_of-append fed bytes = fold-append read_byte (reads nothing_read) fed bytes

-- the reading of what was fed and some bytes, by what these bring
fed_on : (reader : TraceReader) (fed bytes : List ℕ) (stands : StandsFor reader fed) → reading_of (fed ++ bytes) ≡ onto stands.given (brought (progress_of reader []) bytes)
fed_on reader fed bytes stands =
    reading_of-append fed bytes ∙ ap (λ r. read_bytes r bytes) stands.reading ∙ read_bytes-with_closed (progress_of reader []) stands.given bytes

pub closed-stands : (reader : TraceReader) (fed : List ℕ) (stands : StandsFor reader fed) → closed fed ≡ stands.given
unfolding closed
closed-stands reader fed stands = ap closed_of stands.reading

closed-fed_on : (reader : TraceReader) (fed bytes : List ℕ) (stands : StandsFor reader fed) → closed (fed ++ bytes) ≡ closed fed ++ closed_of (brought (progress_of reader []) bytes)
unfolding closed
closed-fed_on reader fed bytes stands =
    ap closed_of (reading_of-append fed bytes ∙ ap (λ r. read_bytes r bytes) stands.reading)
    ∙ closed_of-read_bytes (progress_of reader []) stands.given bytes
    ∙ ap (λ given. given ++ closed_of (brought (progress_of reader []) bytes)) (sym (ap closed_of stands.reading))

pub feeds_ok : (before after : TraceReader) (fed bytes : List ℕ) (old new : List Trace) → StandsFor before fed → Reaches before bytes old after new → after.fault ≡ None
    → StandsFor after (fed ++ bytes) × Closes fed bytes old new
feeds_ok before after fed bytes old new stands reached sound =
    let p = progress_of before [] in
    let parts = given_reads (brought p bytes) (progress_of after []) old new stands.given (sym (read_bytes-with_closed p old bytes) ∙ reached) in (
      record { given = stands.given ++ closed_of (brought p bytes); reading = fed_on before fed bytes stands ∙ parts.1; sound = sound },
      record { more = closed_of (brought p bytes); grown = parts.0; due = closed-fed_on before fed bytes stands },
    )

pub feeds_err : (before : TraceReader) (fed chunk : List ℕ) (most : Option ℕ) (old new : List Trace) (fault : TraceFault) → StandsFor before fed → FailsLines before chunk most old fault new
    → Fails fed chunk old new fault
unfolding fault_in
feeds_err before fed chunk most old new fault stands fails =
    let p = progress_of before [] in
    let all : old ++ closed_of (brought p chunk) ≡ new ++ fails.rest = sym (closed_of-read_bytes p old chunk) ∙ fails.due in
    let parts : closed_of (brought p chunk) ≡ fails.more ++ fails.rest =
    append_cancel old _ _ (all ∙ ap (λ xs. xs ++ fails.rest) fails.grown ∙ append_assoc old fails.more fails.rest) in
    record {
      more = fails.more;
      rest = fails.rest;
      grown = fails.grown;
      due = closed-fed_on before fed chunk stands ∙ ap (λ xs. closed fed ++ xs) parts;
      known = λ known.
          let is = given_refused (brought p chunk) old new stands.given fault (sym (read_bytes-with_closed p old chunk) ∙ fails.known known) in (
            append_cancel new _ _ (sym all ∙ sym is.0 ∙ sym (append-nil new)),
            ap fault_of (fed_on before fed chunk stands ∙ is.1),
          );
    }

pub feeds_some_ok : (before after : TraceReader) (fed chunk : List ℕ) (most n : ℕ) (old new : List Trace) → StandsFor before fed → TakesLines before chunk (Some most) old n after new → after.fault ≡ None
    → Takes fed chunk most after old new n
feeds_some_ok before after fed chunk most n old new stands takes sound =
    let ok = feeds_ok before after fed (take n chunk) old new stands takes.reached sound in
    record {
      within = takes.within;
      stands = ok.0;
      closes = ok.1;
      no_more = takes.no_more most refl;
      whole = λ below. let grew = ap length ok.1.grown in takes.whole (lt-leb most (length new - length old) (omega (arith, grew, length-append old ok.1.more, below)));
      before = λ k h.
          let p = progress_of before [] in
          let brings = closed_of (brought p (take k chunk)) in
          let below = few (Some most) most (length (closed_of (read_bytes (start_of before old) (take k chunk))) - length old) refl (takes.fewer k h) in
          let from_old = ap length (closed_of-read_bytes p old (take k chunk)) in
          let from_fed = ap length (closed-fed_on before fed (take k chunk) stands) in
          omega (arith, length-append old brings, length-append (closed fed) brings, from_old, from_fed, below);
    }

pub feeds_some_fewer : (before : TraceReader) (chunk : List ℕ) (most : ℕ) (old new : List Trace) (fault : TraceFault) → FailsLines before chunk (Some most) old fault new
    → length new < length old + most
feeds_some_fewer before chunk most old new fault fails =
    let below = few (Some most) most (length new - length old) refl fails.fewer in
    let lengths = ap length fails.grown in
    omega (arith, length-append old fails.more, lengths, below)
