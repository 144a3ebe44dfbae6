-- The promises of a run whose reader and matcher may fail both.
use Rattle.std.proofs.Common.{◌≡◌, ◌⊎◌, ℕ, List, Result, Ok, Err, IsOk, refl, sym, ◌∙◌, ap, subst, inl, inr, ⊎_elim}
use Rattle.edge_io.specs.Sink.{Puts}
use Rattle.edge_io.specs.State.{ShelfState, SinkState}
use Rattle.edge_io.specs.declared.sink.Put.{Put}
use Rattle.edge_io.specs.declared.sink.Put.TheVariants as puts
use Rattle.program_frame.specs.Loads.{Loaded}
use Rattle.program_frame.specs.Performs.{Performs}
use Rattle.program_frame.specs.Plan.{Plan, IsFileOf, accepts, loads}
use Rattle.program_frame.specs.Promises.{Covers, Promises}
use Rattle.program_frame.specs.Read.{Notes}
use Rattle.program_frame.specs.Stops.{line_of_result, status_after}
use Rattle.program_frame.specs.declared.stop.File.{File}
use Rattle.program_frame.specs.declared.stop.File.TheVariants.{Traces}
use Rattle.program_frame.specs.declared.stop.Stop.{Stop}
use Rattle.program_frame.specs.declared.stop.Stop.TheVariants.{NoMemory, Unwritten}
use Rattle.program_frame.proofs.RunEnds.{promises}
use Rattle.program_frame.proofs.Stages.{loads_performs}
use Rattle.live_pipeline.specs.Living.{IsNoted, LivePerforms, LivePromises, PerformsTwice}

abbrev Table : Type 1
Table = ℕ → List ℕ → Type 0

-- with a failed put the promises hold of the shelf on which a read was noted too
noted_four : {lines : Table} {asked : Result Plan (List ℕ)} {shelf : ShelfState} {out out' err err' : SinkState} {status : ℕ} (shelf' : ShelfState) (name : List ℕ) → status ≡ 4 → Notes shelf shelf' name → Promises lines asked shelf shelf out out' err err' status → Promises lines asked shelf shelf' out out' err err' status
noted_four {lines} {asked} {shelf} {out} {out'} {err} {err'} {status} shelf' name four notes p = record {
  outcome = p.outcome;
  prefix = p.prefix;
  line_is = p.line_is;
  quiet_err = p.quiet_err;
  quiet_out = p.quiet_out;
  memory = p.memory;
  unread = λ three. absurd (not_three (sym three ∙ four));
  unwritten = p.unwritten;
  write_line_is = p.write_line_is;
  cut_line = p.cut_line;
  words = p.words;
  refused_words = p.refused_words;
  counts = p.counts;
  quiet_shelf = λ settled. absurd (settled.2 four);
  noted = λ changed. inr (inl four);
  holds = ap (λ (s : ShelfState). s.holds) notes;
  complete = λ calm. ⊎_elim (λ rose. absurd (calm.out_is rose)) (λ rose. absurd (calm.err_is rose)) (p.unwritten four);
}
  where
    not_three : ◌≡◌ {A = ℕ} 3 4 → ⊥
    not_three e = cc

twice_memory : {lines : Table} {asked : Result Plan (List ℕ)} {shelf shelf' : ShelfState} {out out' err err' : SinkState} (put : Put) → IsNoted asked shelf shelf' → Promises lines asked shelf shelf out out' err err' (status_after (Err NoMemory) put) → LivePromises lines asked shelf shelf' out out' err err' (status_after (Err NoMemory) put)
twice_memory puts.All noted p = inr (record { is_memory = refl; noted = noted; promises = p })
twice_memory {lines} {asked} {shelf} {shelf'} puts.Failed noted p = inl (noted_four shelf' noted.name refl noted.noted p)
twice_memory puts.NoMemory noted p = inr (record { is_memory = refl; noted = noted; promises = p })

twice_unwritten : {lines : Table} {asked : Result Plan (List ℕ)} {shelf shelf' : ShelfState} {out out' err err' : SinkState} (put : Put) → IsNoted asked shelf shelf' → Promises lines asked shelf shelf out out' err err' (status_after (Err Unwritten) put) → LivePromises lines asked shelf shelf' out out' err err' (status_after (Err Unwritten) put)
twice_unwritten {lines} {asked} {shelf} {shelf'} puts.All noted p = inl (noted_four shelf' noted.name refl noted.noted p)
twice_unwritten {lines} {asked} {shelf} {shelf'} puts.Failed noted p = inl (noted_four shelf' noted.name refl noted.noted p)
twice_unwritten {lines} {asked} {shelf} {shelf'} puts.NoMemory noted p = inl (noted_four shelf' noted.name refl noted.noted p)

twice : {lines : Table} {asked : Result Plan (List ℕ)} {shelf shelf' : ShelfState} {out out' err err' : SinkState} (ended : Result (Unit {0}) Stop) (put : Put) → PerformsTwice asked shelf shelf' out out' ended → Promises lines asked shelf shelf out out' err err' (status_after ended put) → LivePromises lines asked shelf shelf' out out' err err' (status_after ended put)
twice {lines} {asked} {shelf} {shelf'} {out} {out'} {err} {err'} ended put t p = by_stop t.stops
  where
    Goal : Result (Unit {0}) Stop → Type 0
    Goal e = Promises lines asked shelf shelf out out' err err' (status_after e put) → LivePromises lines asked shelf shelf' out out' err err' (status_after e put)

    by_stop : (ended ≡ Err NoMemory) ⊎ (ended ≡ Err Unwritten) → LivePromises lines asked shelf shelf' out out' err err' (status_after ended put)
    by_stop (inl is) = subst Goal (sym is) (λ q. twice_memory put t.noted q) p
    by_stop (inr is) = subst Goal (sym is) (λ q. twice_unwritten put t.noted q) p

-- the promises of a run, from what its work leaves and the put of its line
pub live_promises : {lines : Table} (asked : Result Plan (List ℕ)) (shelf shelf' : ShelfState) (out out' err err' : SinkState) (ended : Result (Unit {0}) Stop) (put : Put) → Covers lines asked → LivePerforms asked shelf shelf' out out' ended → Puts err err' (line_of_result ended) put → (IsOk ended → put ≡ puts.All) → LivePromises lines asked shelf shelf' out out' err err' (status_after ended put)
live_promises asked shelf shelf' out out' err err' ended put covers (inl performs) said quiet =
    inl (promises asked shelf shelf' out out' err err' ended put covers performs said quiet)
live_promises asked shelf shelf' out out' err err' ended put covers (inr t) said quiet =
    twice ended put t (promises asked shelf shelf out out' err err' ended put covers t.performs said quiet)

-- a file was loaded, and then the rest was done
pub live_loads : {A : Type 0} {file : File} {name : List ℕ} {limit : ℕ} {said : List ℕ → Result A (List ℕ)} {shelf shelf' shelf'' : ShelfState} {out out' : SinkState} {value : A} {ended : Result (Unit {0}) Stop} (status : ℕ) (next : A → Plan) → Loaded name limit said shelf shelf' value → LivePerforms (Ok (next value)) shelf' shelf'' out out' ended → LivePerforms (Ok (loads file name limit status said next)) shelf shelf'' out out' ended
live_loads status next loaded (inl performs) = inl (loads_performs status next loaded performs)
live_loads {A} {file} {name} {limit} {said} {shelf} {shelf'} {shelf''} {out} {out'} {value} {ended} status next loaded (inr t) =
    let same = loaded.whole.1 in
    inr (record {
      stops = t.stops;
      noted = record {
        name = t.noted.name;
        named = inr (loaded.bytes, subst (λ (r : Result A (List ℕ)). IsFileOf (accepts status r next) Traces t.noted.name) (sym loaded.is) t.noted.named);
        noted = subst (λ (s : ShelfState). Notes s shelf'' t.noted.name) same t.noted.noted;
      };
      performs = loads_performs status next loaded (subst (λ (s : ShelfState). Performs (Ok (next value)) shelf' s out out' ended) same t.performs);
    })
