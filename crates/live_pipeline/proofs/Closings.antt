-- The reader was taken in, and the relay is closed: the matcher took what the reader put.
use Rattle.std.proofs.Common.{◌≡◌, ◌⊎◌, ℕ, List, [], ◌∷◌, ◌++◌, Result, Ok, Err, ◌∙◌, sym, ap, subst, inr, append-nil}
use Rattle.edge_io.specs.State.{ShelfState, SinkState}
use Rattle.program_frame.specs.Batches.{WritesBatch}
use Rattle.program_frame.specs.Jobs.{JobText}
use Rattle.program_frame.specs.declared.stop.Stop.{Stop}
use Rattle.program_frame.proofs.BatchEnds.{Has}
use Rattle.trace_reader.specs.declared.trace.Trace.{Trace}
use Rattle.live_pipeline.specs.Order.{Parts}
use Rattle.live_pipeline.specs.Pieces.{AreWholeParts, whole_of}
use Rattle.live_pipeline.specs.declared.part.Part.{Part}
use Rattle.live_pipeline.specs.declared.part.Part.TheVariants as parts
use Rattle.live_pipeline.specs.Matching.{HasMatchedParts, MayEnd}
use Rattle.live_pipeline.specs.Reading.{Brings, HasRead}
use Rattle.live_pipeline.proofs.Wholes.{same_whole}

-- the same traces were read and worked on
pub record Both (job : JobText) (has : List Trace → Type 0) (name : List ℕ) (shelf shelf' : ShelfState) (base out : SinkState) (last : Part) (ended : Result (Unit {0}) Stop) : Type 0 where
  pub traces : List Trace
  pub brings : Brings name shelf shelf' traces last
  pub writes : WritesBatch job has base out traces [] ended

pub both : {job : JobText} {has : Has} {name : List ℕ} {shelf shelf' : ShelfState} {base out : SinkState} {took : List Part} {last : Part} {ended : Result (Unit {0}) Stop} (given put : Parts) → given.parts ≡ [] → took ≡ put.parts → HasRead name shelf shelf' given put → HasMatchedParts job has base out took last ended → Both job has name shelf shelf' base out last ended
both {job} {has} {name} {shelf} {shelf'} {base} {out} {took} {last} given put none same r m =
    let is_put : put.parts ≡ whole_of r.traces r.last = r.put_are ∙ ap (λ (l : List Part). l ++ whole_of r.traces r.last) none in
    let one = same_whole r.traces m.traces r.last last [] r.is_last m.is_last (sym is_put ∙ sym same ∙ m.took_are ∙ sym (append-nil (whole_of m.traces last))) in record {
      traces = m.traces;
      brings = subst (λ (ts : List Trace). Brings name shelf shelf' ts last) one.0 (subst (λ (l : Part). Brings name shelf shelf' r.traces l) one.1 r.brings);
      writes = m.writes;
    }

pub may_end : {job : JobText} {has : Has} {name : List ℕ} {shelf shelf' : ShelfState} {base out : SinkState} (last : Part) (ended : Result (Unit {0}) Stop) → Both job has name shelf shelf' base out last ended → MayEnd has last ended
may_end (parts.Trace trace) ended b = absurd b.brings
may_end parts.End (Ok done) b = let holds = b.writes.0 in (holds.taken, holds.had)
may_end parts.End (Err stop) b = tt
may_end (parts.Fault fault) ended b = b.brings.1
may_end parts.ReadFailed ended b = tt
may_end parts.NoMemory ended b = tt

-- a reader has put a whole row
pub read_whole : {name : List ℕ} {shelf shelf' : ShelfState} (given put : Parts) → given.parts ≡ [] → HasRead name shelf shelf' given put → (put.parts ≡ []) ⊎ AreWholeParts put.parts
read_whole given put none r = inr (r.traces, r.last, r.is_last, r.put_are ∙ ap (λ (l : List Part). l ++ whole_of r.traces r.last) none)

-- and a matcher has taken one
pub taken_whole : {job : JobText} {has : Has} {base out : SinkState} {took : List Part} {last : Part} {ended : Result (Unit {0}) Stop} → HasMatchedParts job has base out took last ended → AreWholeParts took
taken_whole {job} {has} {base} {out} {took} {last} m = (m.traces, last, m.is_last, m.took_are)

whole_some : (traces : List Trace) (last : Part) → [] ≡ whole_of traces last → ⊥
whole_some [] last e = absurd (cc e)
whole_some (trace ∷ traces) last e = absurd (cc e)

-- a reader that has not begun has put nothing, of which nothing was taken
pub not_unread : (took put : List Part) → put ≡ [] → took ≡ put → AreWholeParts took → ⊥
not_unread took put none same whole = whole_some whole.0 whole.1 (sym none ∙ sym same ∙ whole.3)
