-- A trace file that is read chunk by chunk and put on a relay.
use Rattle.std.proofs.Common.{◌≡◌, ◌≢◌, ℕ, ◌+◌, ◌≤◌, List, [], ◌∷◌, ◌++◌, length, Some, None, Ok, Err, refl, sym, ◌∙◌, ap, subst, inl, inr, arith, append-nil, length-append}
use Rattle.std.specs.declared.option.Option.{Option}
use Rattle.edge_io.specs.State.{ShelfState}
use Rattle.program_frame.specs.Chunks.{AreRead, IsChunk, MayReadOn}
use Rattle.program_frame.specs.Read.{FailsToRead, IsFront, IsReadSoFar, Notes, ReadsWhole}
use Rattle.program_frame.specs.Refusals.{trace_limit}
use Rattle.program_frame.specs.declared.stop.File.TheVariants.{Traces as OfTraces}
use Rattle.program_frame.specs.declared.stop.Stop.{Stop}
use Rattle.program_frame.specs.declared.stop.Stop.TheVariants.{Refused, NoMemory as OutOfMemory, Unread as NotRead, Unwritten}
use Rattle.trace_reader.specs.Reading.{closed, file_traces}
use Rattle.trace_reader.specs.declared.reader.TraceReader.{TraceReader}
use Rattle.trace_reader.specs.declared.trace.Trace.{Trace}
use Rattle.trace_reader.specs.declared.fault.TraceFault.{TraceFault}
use Rattle.trace_reader.specs.declared.fault.TraceFault.TheVariants as faults
use Rattle.trace_reader.proofs.Laws.{fault_in-StandsFor}
use Rattle.live_pipeline.specs.Order.{MayFollow, Parts}
use Rattle.live_pipeline.specs.Pieces.{IsLast, parts_of}
use Rattle.live_pipeline.specs.declared.part.Part.{Part}
use Rattle.live_pipeline.specs.declared.part.Part.TheVariants as parts
use Rattle.live_pipeline.specs.inside.Feeding.{HasFed, IsFaultPart, PutsChunk, PutsFile, EndsAt, EndsRead, HasPut, IsFedWhole}
use Rattle.live_pipeline.specs.Reading.{Brings, HasRead}

-- between two reads: the bytes so far were fed, and what they close was put
pub record IsFeeding (name : List ℕ) (shelf : ShelfState) (at : ℕ) (reader : TraceReader) (put : List Part) : Type 0 where
  pub fed : List ℕ
  pub has : HasFed fed reader put
  pub place : length fed ≡ at
  pub front : IsReadSoFar shelf.holds name fed

front_of : (file : Option (List ℕ)) → IsFront [] file
front_of None = refl
front_of (Some bytes) = refl

front_begun : (told : Option (List ℕ → Option (List ℕ))) (name : List ℕ) → IsReadSoFar told name []
front_begun None name = tt
front_begun (Some files) name = front_of (files name)

pub nothing_fed : (name : List ℕ) (shelf : ShelfState) (reader : TraceReader) (put : List Part) → HasFed [] reader put → IsFeeding name shelf 0 reader put
nothing_fed name shelf reader put has = record { fed = []; has = has; place = refl; front = front_begun shelf.holds name }

-- the bytes that were read so far
pub fed_read : {name : List ℕ} {shelf : ShelfState} {at : ℕ} {reader : TraceReader} {put : List Part} → (feeding : IsFeeding name shelf at reader put) → at ≤ trace_limit + 1 → AreRead name shelf at feeding.fed
fed_read feeding within = record { place = feeding.place; front = feeding.front; within = within }

-- these bytes have no fault, so the file may be read on
pub may_feed_on : {name : List ℕ} {shelf : ShelfState} {at : ℕ} {reader : TraceReader} {put : List Part} (shelf' : ShelfState) → IsFeeding name shelf at reader put → shelf' ≡ shelf → at ≤ trace_limit + 1 → MayReadOn name shelf' at
may_feed_on {name = name} {at = at} {reader = reader} shelf' feeding same within = subst (λ s. MayReadOn name s at) (sym same) (record {
  fed = feeding.fed;
  read = fed_read feeding within;
  faultless = fault_in-StandsFor reader feeding.fed feeding.has.stands;
})

pub feeding_more : {name : List ℕ} {shelf : ShelfState} {at : ℕ} {reader : TraceReader} {put : List Part} (at' : ℕ) (chunk : List ℕ) (reader' : TraceReader) (put' : List Part) → (feeding : IsFeeding name shelf at reader put) → AreRead name shelf at' (feeding.fed ++ chunk) → HasFed (feeding.fed ++ chunk) reader' put' → IsFeeding name shelf at' reader' put'
feeding_more at' chunk reader' put' feeding read has =
    record { fed = feeding.fed ++ chunk; has = has; place = read.place; front = read.front }

-- memory ran out before a read
fed_starved : {name : List ℕ} {shelf : ShelfState} {at : ℕ} {reader : TraceReader} {put : List Part} (shelf' : ShelfState) → IsFeeding name shelf at reader put → shelf' ≡ shelf → at ≤ trace_limit + 1 → HasPut name shelf shelf' put parts.NoMemory
fed_starved shelf' feeding same within = record {
  traces = closed feeding.fed;
  put_are = feeding.has.put_are;
  brings = (
    inl (record {
      fed = feeding.fed;
      front_of = record { front = feeding.front; within = omega (arith, feeding.place, within) };
      rest = [];
      are = sym (append-nil (closed feeding.fed));
    }),
    same,
  );
}

-- a read failed
fed_unread : {name : List ℕ} {shelf : ShelfState} {at : ℕ} {reader : TraceReader} {put : List Part} (before after : ShelfState) → IsFeeding name shelf at reader put → before ≡ shelf → at ≤ trace_limit + 1 → Notes before after name → HasPut name shelf after put parts.ReadFailed
fed_unread {name} before after feeding same within notes = record {
  traces = closed feeding.fed;
  put_are = feeding.has.put_are;
  brings = (
    record {
      fed = feeding.fed;
      front_of = record { front = feeding.front; within = omega (arith, feeding.place, within) };
      are = refl;
    },
    subst (λ s. Notes s after name) same notes,
  );
}

-- why a chunk was not read
pub part_ends : (name : List ℕ) (shelf shelf' : ShelfState) (stop : Stop) (last : Part) → EndsAt stop last → FailsToRead OfTraces name shelf shelf' stop → EndsRead name shelf shelf' last
part_ends name shelf shelf' stop (parts.Trace trace) ends fails = absurd ends
part_ends name shelf shelf' stop parts.End ends fails = absurd ends
part_ends name shelf shelf' stop (parts.Fault fault) ends fails = absurd ends
part_ends name shelf shelf' (Refused refusal line) parts.ReadFailed ends fails = absurd ends
part_ends name shelf shelf' OutOfMemory parts.ReadFailed ends fails = absurd ends
part_ends name shelf shelf' (NotRead file) parts.ReadFailed ends fails = fails.1
part_ends name shelf shelf' Unwritten parts.ReadFailed ends fails = absurd ends
part_ends name shelf shelf' (Refused refusal line) parts.NoMemory ends fails = absurd fails
part_ends name shelf shelf' OutOfMemory parts.NoMemory ends fails = fails
part_ends name shelf shelf' (NotRead file) parts.NoMemory ends fails = absurd (ends tt)
part_ends name shelf shelf' Unwritten parts.NoMemory ends fails = absurd fails

-- the next chunk was not read
pub fed_ends : {name : List ℕ} {shelf : ShelfState} {at : ℕ} {reader : TraceReader} {put : List Part} (before after : ShelfState) (last : Part) → IsFeeding name shelf at reader put → before ≡ shelf → at ≤ trace_limit + 1 → EndsRead name before after last → HasPut name shelf after put last
fed_ends before after (parts.Trace trace) feeding same within ends = absurd ends
fed_ends before after parts.End feeding same within ends = absurd ends
fed_ends before after (parts.Fault fault) feeding same within ends = absurd ends
fed_ends before after parts.ReadFailed feeding same within ends = fed_unread before after feeding same within ends
fed_ends before after parts.NoMemory feeding same within ends = fed_starved after feeding (ends ∙ same) within

-- the file was read whole
pub fed_all : {name : List ℕ} {shelf : ShelfState} {at : ℕ} {reader : TraceReader} {put : List Part} (shelf' : ShelfState) → (feeding : IsFeeding name shelf at reader put) → ReadsWhole name trace_limit shelf shelf' feeding.fed → IsFedWhole name shelf shelf' reader put
fed_all shelf' feeding whole = record { bytes = feeding.fed; whole = whole; has = feeding.has }

some_bytes : (fed chunk : List ℕ) → 1 ≤ length chunk → fed ++ chunk ≢ []
some_bytes fed chunk some none =
    let long : length (fed ++ chunk) ≡ 0 = ap length none in
    omega (arith, length-append fed chunk, long, some)

known_as : (fault known : TraceFault) → known ≡ fault → fault ≢ faults.Memory → known ≢ faults.Memory
known_as fault known is other e = other (sym is ∙ e)

all_due : (due traces rest : List Trace) → due ≡ traces ++ rest → rest ≡ [] → due ≡ traces
all_due due traces rest is none = is ∙ ap (λ (l : List Trace). traces ++ l) none ∙ append-nil traces

-- a fault within a chunk
pub fed_fault : {name : List ℕ} {shelf : ShelfState} {at : ℕ} {reader : TraceReader} {put : List Part} (shelf' : ShelfState) (at' : ℕ) (chunk : List ℕ) (reader' : TraceReader) (put' : List Part) (fault : TraceFault) (last : Part) → (feeding : IsFeeding name shelf at reader put) → shelf' ≡ shelf → IsChunk at at' chunk → AreRead name shelf at' (feeding.fed ++ chunk) → PutsChunk (feeding.fed ++ chunk) reader' put' (Err fault) → IsFaultPart fault last → HasPut name shelf shelf' put' last
fed_fault shelf' at' chunk reader' put' fault (parts.Trace trace) feeding same of_file read puts is = absurd is
fed_fault shelf' at' chunk reader' put' fault parts.End feeding same of_file read puts is = absurd is
fed_fault {name} {shelf} shelf' at' chunk reader' put' fault (parts.Fault known) feeding same of_file read puts is =
    let fed = feeding.fed ++ chunk in
    let of = puts.0 in
    record {
      traces = of.traces;
      put_are = of.put_are;
      brings = (
        inl (record {
          fed = fed;
          some = some_bytes feeding.fed chunk of_file.some;
          front_of = record {
            front = read.front;
            within = omega (arith, read.place, read.within);
          };
          are = all_due (closed fed) of.traces of.rest of.due_are (of.all is.0);
          known = puts.1 is.0 ∙ ap (λ (f : TraceFault). Some f) (sym is.1);
        }),
        known_as fault known is.1 is.0,
        same,
      );
    }
fed_fault shelf' at' chunk reader' put' fault parts.ReadFailed feeding same of_file read puts is = absurd is
fed_fault {name} {shelf} shelf' at' chunk reader' put' fault parts.NoMemory feeding same of_file read puts is =
    let of = puts.0 in
    record {
      traces = of.traces;
      put_are = of.put_are;
      brings = (
        inl (record {
          fed = feeding.fed ++ chunk;
          front_of = record {
            front = read.front;
            within = omega (arith, read.place, read.within);
          };
          rest = of.rest;
          are = of.due_are;
        }),
        same,
      );
    }

-- the file has no fault
pub ended_well : {name : List ℕ} {shelf shelf' : ShelfState} {reader : TraceReader} {put : List Part} (put' : List Part) → (whole : IsFedWhole name shelf shelf' reader put) → PutsFile whole.bytes put' (Ok tt) → HasPut name shelf shelf' put' parts.End
ended_well put' whole puts = record {
  traces = file_traces whole.bytes;
  put_are = puts.0;
  brings = (record { bytes = whole.bytes; whole = (whole.whole.0, refl); are = refl; faultless = puts.1 }, whole.whole.1);
}

-- or a fault at its end
pub ended_fault : {name : List ℕ} {shelf shelf' : ShelfState} {reader : TraceReader} {put : List Part} (put' : List Part) (fault : TraceFault) (last : Part) → (whole : IsFedWhole name shelf shelf' reader put) → PutsFile whole.bytes put' (Err fault) → IsFaultPart fault last → HasPut name shelf shelf' put' last
ended_fault put' fault (parts.Trace trace) whole puts is = absurd is
ended_fault put' fault parts.End whole puts is = absurd is
ended_fault put' fault (parts.Fault known) whole puts is =
    let of = puts.0 in
    record {
      traces = of.traces;
      put_are = of.put_are;
      brings = (
        inr (record {
          bytes = whole.bytes;
          whole = (whole.whole.0, refl);
          are = all_due (file_traces whole.bytes) of.traces of.rest of.due_are (of.all is.0);
          known = puts.1 is.0 ∙ ap (λ (f : TraceFault). Some f) (sym is.1);
        }),
        known_as fault known is.1 is.0,
        whole.whole.1,
      );
    }
ended_fault put' fault parts.ReadFailed whole puts is = absurd is
ended_fault put' fault parts.NoMemory whole puts is =
    let of = puts.0 in
    record {
      traces = of.traces;
      put_are = of.put_are;
      brings = (inr (record { bytes = whole.bytes; whole = (whole.whole.0, refl); rest = of.rest; are = of.due_are }), whole.whole.1);
    }

-- a last part may follow any parts
pub may_last : (name : List ℕ) (shelf shelf' : ShelfState) (traces : List Trace) (last : Part) (put : List Part) → Brings name shelf shelf' traces last → MayFollow put last
may_last name shelf shelf' traces (parts.Trace trace) put brings = absurd brings
may_last name shelf shelf' traces parts.End put brings = tt
may_last name shelf shelf' traces (parts.Fault fault) put brings = tt
may_last name shelf shelf' traces parts.ReadFailed put brings = tt
may_last name shelf shelf' traces parts.NoMemory put brings = tt

brings_last : (name : List ℕ) (shelf shelf' : ShelfState) (traces : List Trace) (last : Part) → Brings name shelf shelf' traces last → IsLast last
brings_last name shelf shelf' traces (parts.Trace trace) brings = brings
brings_last name shelf shelf' traces parts.End brings = tt
brings_last name shelf shelf' traces (parts.Fault fault) brings = tt
brings_last name shelf shelf' traces parts.ReadFailed brings = tt
brings_last name shelf shelf' traces parts.NoMemory brings = tt

pub last_put : (name : List ℕ) (shelf shelf' : ShelfState) (before between after : Parts) (last : Part) → before.parts ≡ [] → between.relay ≡ before.relay → HasPut name shelf shelf' between.parts last → after ≡ record { relay = between.relay; parts = between.parts ++ last ∷ [] } → HasRead name shelf shelf' before after
last_put name shelf shelf' before between after last none same has is = record {
  traces = has.traces;
  last = last;
  is_last = brings_last name shelf shelf' has.traces last has.brings;
  brings = has.brings;
  same = ap (λ (p : Parts). p.relay) is ∙ same;
  put_are = ap (λ (p : Parts). p.parts) is ∙ ap (λ (l : List Part). l ++ last ∷ []) has.put_are ∙ ap (λ (l : List Part). l ++ (parts_of has.traces ++ last ∷ [])) (sym none);
}
